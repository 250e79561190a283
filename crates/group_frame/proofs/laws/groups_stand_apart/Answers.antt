use Rattle.group_frame.proofs.Agree.{agrees_along, agrees_back, agrees_same, row_agrees}
use Rattle.group_frame.proofs.Alone.{alone_agrees, alone_closed, alone_empty, alone_is_table}
use Rattle.group_frame.proofs.laws.groups_stand_apart.Goals as goal

pub returns-clause-agrees : goal.returns-clause-agrees
returns-clause-agrees c = alone_agrees

pub returns-clause-empty : goal.returns-clause-empty
returns-clause-empty c = alone_empty

pub returns-clause-well_formed : goal.returns-clause-well_formed
returns-clause-well_formed c = alone_is_table

pub returns-clause-closed : goal.returns-clause-closed
returns-clause-closed c = alone_closed

pub returns-clause-rows : goal.returns-clause-rows
returns-clause-rows c = row_agrees

pub returns-clause-same : goal.returns-clause-same
returns-clause-same c = agrees_same

pub returns-clause-back : goal.returns-clause-back
returns-clause-back c = agrees_back

pub returns-clause-along : goal.returns-clause-along
returns-clause-along c = agrees_along
