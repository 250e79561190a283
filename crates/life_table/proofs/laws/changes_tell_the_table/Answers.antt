use Rattle.std.proofs.Common.{refl}
use Rattle.life_table.proofs.Closed.{After-all, After-between}
use Rattle.life_table.proofs.laws.changes_tell_the_table.Goals as goal

pub returns-clause-all : goal.returns-clause-all
returns-clause-all c t u entries leads = After-all t entries u leads

pub returns-clause-none : goal.returns-clause-none
returns-clause-none c t entries = refl

pub returns-clause-between : goal.returns-clause-between
returns-clause-between c t u entries n leads = After-between t entries u n leads
