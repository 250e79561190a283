-- What is made with new versions.
use Rattle.std.proofs.Common.{◌≡◌, List, slice_index_or, ◌∙◌, arith}
use Rattle.std.proofs.lemmas.Option.{get_or_from_slice_get}
use Rattle.version_table.specs.Ends.{VersionsState, ReaderState, KeeperState, AreNewVersions, new_keeper_state}

-- the second keeper is that of the second group
pub second_keeper : (versions : VersionsState) (readers : List ReaderState) (keepers : List KeeperState) (keeper : KeeperState) → AreNewVersions 2 2 versions readers keepers
    → keeper ≡ slice_index_or keepers 1 keeper → keeper ≡ new_keeper_state versions 1
second_keeper versions readers keepers keeper are is =
    is ∙ get_or_from_slice_get keepers 1 (new_keeper_state versions 1) keeper (are.keepers_are.each 1 (omega (arith, are.groups_are)))
