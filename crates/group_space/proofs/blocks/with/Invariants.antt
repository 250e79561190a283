use Rattle.std.proofs.Common.{take}
use Rattle.group_space.specs.Taken.{IsWith}
use Rattle.group_space.proofs.blocks.with.Given as goal

abbrev pub invariant-loop-block : goal.invariant-loop-block
invariant-loop-block l = IsWith l.map (take l.block-index l.blocks) l.copy
