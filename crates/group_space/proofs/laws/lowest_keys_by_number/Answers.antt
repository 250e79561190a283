use Rattle.std.proofs.Common.{List, ap}
use Rattle.std.specs.Prelude.{slice_get}
use Rattle.life_table.specs.declared.key.Key.{Key}
use Rattle.group_space.proofs.Keyed.{added_lowest, lowest_is, no_lowest}
use Rattle.group_space.proofs.laws.lowest_keys_by_number.Goals as goal

pub returns-clause-lowest : goal.returns-clause-lowest
returns-clause-lowest c group chunks agino inode ascends all at free none = lowest_is group chunks agino inode ascends all at free none

pub returns-clause-none : goal.returns-clause-none
returns-clause-none c group chunks ascends all none = ap (λ (ks : List Key). slice_get ks 0) (no_lowest group chunks ascends all none)

pub returns-clause-added : goal.returns-clause-added
returns-clause-added c group chunks block none = added_lowest group chunks block none
