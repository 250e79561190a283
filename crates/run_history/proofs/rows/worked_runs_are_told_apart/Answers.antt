use Rattle.std.proofs.Common.{◌≡◌, length, refl, ap, arith}
use Rattle.std.specs.Fmt.{digits}
use Rattle.run_history.specs.Rows.{row_output}
use Rattle.run_history.proofs.RightRow.{right_history}
use Rattle.run_history.proofs.WrongRows.{lost, other_key}
use Rattle.run_history.proofs.rows.worked_runs_are_told_apart.Goals as goal

pub returns-clause-right : goal.returns-clause-right
returns-clause-right c = right_history

pub returns-clause-written : goal.returns-clause-written
unfolding digits
returns-clause-written c = refl

pub returns-clause-cut_short : goal.returns-clause-cut_short
unfolding digits
returns-clause-cut_short c = λ written. let e : length (row_output 6) ≡ length (row_output 7) = ap length written in absurd (omega (arith, e))

pub returns-clause-lost : goal.returns-clause-lost
returns-clause-lost c = lost

pub returns-clause-other_key : goal.returns-clause-other_key
returns-clause-other_key c = other_key

pub returns-clause-dropped : goal.returns-clause-dropped
returns-clause-dropped c = λ mounts last replies. let e : 6 ≡ 7 = replies.ends.0 in absurd (omega (arith, e))
