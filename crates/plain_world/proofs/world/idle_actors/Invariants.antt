use Rattle.std.proofs.Common.{◌≡◌, replicate}
use Rattle.actor_world.specs.Caches.{idle_actor}
use Rattle.plain_world.proofs.world.idle_actors.Given as goal

abbrev pub invariant-loop : goal.invariant-loop
invariant-loop l = l.actors.items ≡ replicate l.counter idle_actor
