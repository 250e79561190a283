use Rattle.run_history.proofs.KeptWalks.{intervals}
use Rattle.run_history.proofs.Members.{mem-contains}
use Rattle.run_history.proofs.Walks.{between}
use Rattle.run_history.proofs.laws.answered_calls_stand_between.Goals as goal

pub returns-clause-between : goal.returns-clause-between
returns-clause-between c = between

pub returns-clause-intervals : goal.returns-clause-intervals
returns-clause-intervals c = λ first lines ended said mounts last m replies has. intervals first lines ended said mounts last replies m (mem-contains m _ has)
