use Rattle.mounted_calls.proofs.Left.{left_behind}
use Rattle.mounted_calls.proofs.laws.logs_leave_first_changes.Goals as goal

pub returns : goal.returns
returns c = left_behind (record { prefixes = c.stores_leave_prefixes.ensures; twice = c.changes_pass_over_holds.ensures.twice })
