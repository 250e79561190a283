use Rattle.std.proofs.Common.{◌-◌}
use Rattle.group_ops.proofs.Numbers.{NoneBelow}
use Rattle.group_ops.proofs.state.GroupState.lowest_free.Given as goal

abbrev pub invariant-loop-agino : goal.invariant-loop-agino
invariant-loop-agino l = NoneBelow l.self l.from

abbrev pub decreases-loop-agino : goal.decreases-loop-agino
decreases-loop-agino l = 131072 - l.from
