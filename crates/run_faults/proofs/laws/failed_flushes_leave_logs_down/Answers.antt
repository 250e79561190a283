use Rattle.run_faults.proofs.Downs.{behind_flush}
use Rattle.run_faults.proofs.laws.failed_flushes_leave_logs_down.Goals as goal

pub returns : goal.returns
returns c = behind_flush
