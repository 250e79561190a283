use Rattle.std.proofs.Common.{◌≡◌, ◌+◌, ◌++◌, drop}
use Rattle.actor_world.specs.Moves.{awaiting_from}
use Rattle.plain_moves.proofs.rows.push_awaiting.Given as goal

abbrev pub invariant-loop-place : goal.invariant-loop-place
invariant-loop-place l = l.keys.items ++ awaiting_from (l.first + l.place) (drop l.place l.inodes) ≡ l.fn.keys.items ++ awaiting_from l.first l.inodes
