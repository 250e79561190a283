use Rattle.mounted_calls.proofs.Left.{left_ended}
use Rattle.mounted_calls.proofs.laws.ended_logs_leave_all_changes.Goals as goal

pub returns : goal.returns
returns c = left_ended c.changes_pass_over_holds.ensures.twice
