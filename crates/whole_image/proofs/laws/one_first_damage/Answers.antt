use Rattle.whole_image.proofs.Unique.{Lower}
use Rattle.whole_image.proofs.Damages.{OfGroups, one, none, of_log, of_size, of_superblock, raised}
use Rattle.whole_image.proofs.laws.one_first_damage.Goals as goal

lower : goal.After-one_first_damage → Lower
lower c = record { tell = c.superblocks_tell_geometries.ensures; one_log = c.logs.ensures.one; one_record = c.whole_records.ensures.one }

groups : goal.After-one_first_damage → OfGroups
groups c = record { one = c.one_first_damage.ensures.one; none = c.one_first_damage.ensures.none }

pub returns-clause-one : goal.returns-clause-one
returns-clause-one c = one (lower c) (groups c)

pub returns-clause-none : goal.returns-clause-none
returns-clause-none c = none (lower c) (groups c)

pub returns-clause-of_log : goal.returns-clause-of_log
returns-clause-of_log c = of_log (lower c)

pub returns-clause-of_groups : goal.returns-clause-of_groups
returns-clause-of_groups c = raised (lower c)

pub returns-clause-of_superblock : goal.returns-clause-of_superblock
returns-clause-of_superblock c = of_superblock

pub returns-clause-of_size : goal.returns-clause-of_size
returns-clause-of_size c = of_size
