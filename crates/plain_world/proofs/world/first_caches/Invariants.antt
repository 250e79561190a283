use Rattle.std.proofs.Common.{◌≡◌, replicate}
use Rattle.plain_world.specs.Beginning.{first_cache}
use Rattle.plain_world.proofs.world.first_caches.Given as goal

abbrev pub invariant-loop : goal.invariant-loop
invariant-loop l = l.caches.items ≡ replicate l.counter (first_cache l.blocks)
