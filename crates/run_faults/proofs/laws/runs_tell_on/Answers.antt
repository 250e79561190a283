use Rattle.run_faults.proofs.Telling.{begins, goes_on, grows_on}
use Rattle.run_faults.proofs.laws.runs_tell_on.Goals as goal

pub returns-clause-begins : goal.returns-clause-begins
returns-clause-begins c = begins

pub returns-clause-grows : goal.returns-clause-grows
returns-clause-grows c = grows_on

pub returns-clause-goes_on : goal.returns-clause-goes_on
returns-clause-goes_on c = goes_on
