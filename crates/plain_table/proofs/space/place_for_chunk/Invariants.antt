use Rattle.std.proofs.Common.{◌≡◌, None, find}
use Rattle.std.specs.List.{range_with_len}
use Rattle.life_table.specs.Space.{begins_run}
use Rattle.plain_table.proofs.space.place_for_chunk.Given as goal

abbrev pub invariant-loop-block : goal.invariant-loop-block
invariant-loop-block l = find (begins_run l.blocks l.group) (range_with_len 0 l.block) ≡ None
