use Rattle.std.proofs.Common.{take}
use Rattle.group_space.specs.Taken.{IsWithout}
use Rattle.group_space.proofs.blocks.without.Given as goal

abbrev pub invariant-loop-block : goal.invariant-loop-block
invariant-loop-block l = IsWithout l.map (take l.block-index l.blocks) l.copy
