use Rattle.std.proofs.Common.{◌≡◌, ◌+◌, nat_lt, drop}
use Rattle.std.specs.List.{position_or_len}
use Rattle.life_table.specs.declared.table.Chunk.{Chunk}
use Rattle.plain_table.proofs.space.place_in_order.Given as goal

abbrev pub invariant-loop-place : goal.invariant-loop-place
invariant-loop-place l =
    position_or_len (λ (other : Chunk). nat_lt l.start other.start) l.group ≡ l.place + position_or_len (λ (other : Chunk). nat_lt l.start other.start) (drop l.place l.group)
