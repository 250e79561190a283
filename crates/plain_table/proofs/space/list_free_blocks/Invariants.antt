use Rattle.std.proofs.Common.{◌≡◌, filter}
use Rattle.std.specs.List.{range_with_len}
use Rattle.life_table.specs.Space.{is_free_block}
use Rattle.plain_table.proofs.space.list_free_blocks.Given as goal

abbrev pub invariant-loop-block : goal.invariant-loop-block
invariant-loop-block l = l.free.items ≡ filter (is_free_block l.blocks l.group) (range_with_len 0 l.block)
