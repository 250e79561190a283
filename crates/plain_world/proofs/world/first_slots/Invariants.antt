use Rattle.std.proofs.Common.{◌≡◌, replicate}
use Rattle.actor_world.specs.Caches.{first_slot}
use Rattle.plain_world.proofs.world.first_slots.Given as goal

abbrev pub invariant-loop : goal.invariant-loop
invariant-loop l = l.slots.items ≡ replicate l.counter first_slot
