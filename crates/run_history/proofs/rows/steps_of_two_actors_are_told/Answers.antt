use Rattle.run_history.proofs.BesideRow.{beside_history}
use Rattle.run_history.proofs.rows.steps_of_two_actors_are_told.Goals as goal

pub returns : goal.returns
returns c = beside_history
