use Rattle.run_faults.proofs.Downs.{never_told}
use Rattle.run_faults.proofs.laws.runs_without_faults_are_never_down.Goals as goal

pub returns : goal.returns
returns c = never_told
