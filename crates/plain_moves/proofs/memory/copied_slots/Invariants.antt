use Rattle.std.proofs.Common.{◌≡◌, ◌++◌, drop, map}
use Rattle.actor_world.specs.Caches.{copied_slot}
use Rattle.plain_moves.proofs.memory.copied_slots.Given as goal

abbrev pub invariant-loop-slot : goal.invariant-loop-slot
invariant-loop-slot l = l.copy.items ++ map copied_slot (drop l.slot-index l.slots) ≡ map copied_slot l.slots
