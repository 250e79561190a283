use Rattle.log_image.proofs.TornSectors.{record_first, record_both, record_read, record_straight, home_image}
use Rattle.log_image.proofs.disk.disk_writes.Goals as goal

pub returns-clause-first : goal.returns-clause-first
returns-clause-first c = record_first

pub returns-clause-both : goal.returns-clause-both
returns-clause-both c = record_both

pub returns-clause-read : goal.returns-clause-read
returns-clause-read c = record_read

pub returns-clause-home : goal.returns-clause-home
returns-clause-home c = home_image

pub returns-clause-straight : goal.returns-clause-straight
returns-clause-straight c = record_straight
