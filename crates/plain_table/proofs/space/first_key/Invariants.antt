use Rattle.std.proofs.Common.{◌≡◌, ◌+◌, drop}
use Rattle.life_table.specs.Space.{keys_from}
use Rattle.plain_table.proofs.space.first_key.Given as goal

abbrev pub invariant-loop-place : goal.invariant-loop-place
invariant-loop-place l = keys_from (l.number + l.place) (drop l.place l.inodes) ≡ keys_from l.number l.inodes
