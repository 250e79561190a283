use Rattle.std.proofs.Common.{◌≡◌, take}
use Rattle.plain_moves.proofs.copies.copy_caches.Given as goal

abbrev pub invariant-loop-cache : goal.invariant-loop-cache
invariant-loop-cache l = l.copy.items ≡ take l.cache-index l.caches
