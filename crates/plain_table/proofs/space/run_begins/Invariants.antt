use Rattle.std.proofs.Common.{◌≡◌, true}
use Rattle.std.specs.List.{list_all, range_with_len}
use Rattle.life_table.specs.Space.{is_free_block}
use Rattle.plain_table.proofs.space.run_begins.Given as goal

abbrev pub invariant-loop-place : goal.invariant-loop-place
invariant-loop-place l = list_all (is_free_block l.blocks l.group) (range_with_len l.block l.place) ≡ true
