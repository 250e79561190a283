use Rattle.actor_world.proofs.Waits.{group_takes_none, log_takes_none}
use Rattle.actor_world.proofs.laws.holders_never_wait.Goals as goal

pub returns-clause-group : goal.returns-clause-group
returns-clause-group c = group_takes_none

pub returns-clause-log : goal.returns-clause-log
returns-clause-log c = log_takes_none
