use Rattle.std.proofs.Common.{refl, arith}
use Rattle.run_history.proofs.Progressing.{all_said, goes_on}
use Rattle.run_history.proofs.laws.runs_go_on.Goals as goal

pub returns-clause-begins : goal.returns-clause-begins
returns-clause-begins c = λ first lines. record { few = omega arith; answers = refl }

pub returns-clause-goes_on : goal.returns-clause-goes_on
returns-clause-goes_on c = goes_on

pub returns-clause-ends : goal.returns-clause-ends
returns-clause-ends c = all_said
