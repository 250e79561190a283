use Rattle.std.proofs.Common.{◌≡◌, ◌+◌, ◌++◌, drop}
use Rattle.actor_world.specs.Caches.{clean_numbers}
use Rattle.plain_moves.proofs.memory.clean_numbers.Given as goal

abbrev pub invariant-loop-place : goal.invariant-loop-place
invariant-loop-place l = l.numbers.items ++ clean_numbers (l.first + l.place) (drop l.place l.slots) ≡ clean_numbers l.first l.slots
