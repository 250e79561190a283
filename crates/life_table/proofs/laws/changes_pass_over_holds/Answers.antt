use Rattle.life_table.proofs.Closed.{after_keeps, closed-twice, event_changes, permits-closed, awaits-closed, row_of-closed}
use Rattle.life_table.proofs.laws.changes_pass_over_holds.Goals as goal

pub returns-clause-change : goal.returns-clause-change
returns-clause-change c = event_changes

pub returns-clause-no_change : goal.returns-clause-no_change
returns-clause-no_change c = after_keeps

pub returns-clause-twice : goal.returns-clause-twice
returns-clause-twice c = closed-twice

pub returns-clause-permits : goal.returns-clause-permits
returns-clause-permits c = permits-closed

pub returns-clause-awaits : goal.returns-clause-awaits
returns-clause-awaits c = awaits-closed

pub returns-clause-rows : goal.returns-clause-rows
returns-clause-rows c = row_of-closed
