use Rattle.std.proofs.Common.{◌≤◌, ◌-◌}
use Rattle.life_limits.specs.declared.TheConstants.{GROUP_NUMBERS}
use Rattle.group_ops.proofs.Flushed.{FlushedBelow}
use Rattle.group_ops.proofs.state.GroupState.flush_all.Given as goal

abbrev pub invariant-loop-agino : goal.invariant-loop-agino
invariant-loop-agino l = FlushedBelow l.fn.self l.self l.from × (l.from ≤ GROUP_NUMBERS)

abbrev pub decreases-loop-agino : goal.decreases-loop-agino
decreases-loop-agino l = GROUP_NUMBERS - l.from
