use Rattle.log_image.proofs.Homes.{home_log, home_ring, home_replayed, home_one, home_all}
use Rattle.log_image.proofs.home.home_writes.Goals as goal

pub returns-clause-log : goal.returns-clause-log
returns-clause-log c = home_log

pub returns-clause-ring : goal.returns-clause-ring
returns-clause-ring c = home_ring

pub returns-clause-replayed : goal.returns-clause-replayed
returns-clause-replayed c = home_replayed

pub returns-clause-one : goal.returns-clause-one
returns-clause-one c = home_one

pub returns-clause-all : goal.returns-clause-all
returns-clause-all c = home_all
