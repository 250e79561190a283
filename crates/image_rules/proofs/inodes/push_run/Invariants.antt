use Rattle.std.proofs.Common.{◌≡◌, ◌++◌, ◌-◌}
use Rattle.std.specs.List.{range_with_len}
use Rattle.image_rules.proofs.inodes.push_run.Given as goal

abbrev pub invariant-loop-block : goal.invariant-loop-block
invariant-loop-block l = l.blocks.items ≡ l.fn.blocks.items ++ range_with_len l.fn.run.start (l.block - l.fn.run.start)
