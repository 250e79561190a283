-- What is seen of the versions and of those who step on them.
use Rattle.std.specs.Prelude.{◌≡◌, ◌+◌, ◌<◌, ◌≤◌, ℕ, List, [], ◌∷◌, ◌++◌, length, replicate, slice_get, slice_index, Some}
use Rattle.atomic_table.specs.Seated.{TableId}
use Rattle.atomic_table.specs.Table.{Me}
use Rattle.life_table.specs.declared.types.Entry.{Entry}
use Rattle.version_table.specs.declared.story.Story.{Story}
use Rattle.version_table.specs.Story.{sight, line, seen_of, known_of, own_place, nothing_known, new_keeper, entered}

pub record VersionsState : Type 0 where
  pub name : TableId
  pub groups : ℕ

-- a reader: the versions that it belongs to, the number of groups, and what it knows
pub record ReaderState : Type 0 where
  pub versions : TableId
  pub groups : ℕ
  pub story : Story

-- a keeper: the versions that it belongs to, its group, and what it knows
pub record KeeperState : Type 0 where
  pub versions : TableId
  pub group : ℕ
  pub story : Story

abbrev pub reader_state : TableId → List ℕ → Story → ReaderState
reader_state versions seen story = record { versions = versions; groups = length seen; story = story }

-- a reader has the number that it saw of each group
pub record IsReader (seen : List ℕ) (me : Me Entry Story) : Type 0 where
  pub bare : me.1 ≡ []
  pub numbers : (group : ℕ) → group < length seen → slice_index seen group ≡ seen_of group me.0.sights

abbrev pub keeper_state : TableId → ℕ → Story → KeeperState
keeper_state versions group story = record { versions = versions; group = group; story = story }

-- a keeper keeps its group's history alone, has its length, and handed over each place
pub record IsKeeper (group count : ℕ) (me : Me Entry Story) : Type 0 where
  pub bare : me.1 ≡ []
  pub first : me.0.first ≡ group
  pub one : me.0.count ≡ 1
  pub handed : me.0.places ≡ []
  pub whole : count ≡ length (known_of group me.0.lines)

-- The keeper's history has the entry at its end.
pub record IsEntered (group : ℕ) (e : Entry) (v w : Story) : Type 0 where
  pub history : known_of group w.lines ≡ known_of group v.lines ++ e ∷ []
  pub first : w.first ≡ v.first
  pub count : w.count ≡ v.count
  pub handed : w.places ≡ []

-- The reader knows the history with the entry at its end, has seen as many entries, and the place is its own where the
-- entry is an actor's. It has also seen a length that was no greater, before the entry.
pub record IsToldOf (group : ℕ) (e : Entry) (keeper v w : Story) : Type 0 where
  pub lines : w.lines ≡ line group (known_of group keeper.lines ++ e ∷ []) ∷ v.lines
  pub places : w.places ≡ own_place group (length (known_of group keeper.lines)) e ++ v.places
  pub found : ℕ
  pub before : (seen_of group v.sights ≤ found) × (found ≤ length (known_of group keeper.lines))
  pub sights : w.sights ≡ sight group (length (known_of group keeper.lines) + 1) ∷ sight group found ∷ v.sights
  pub keeps : (w.first ≡ v.first) × (w.count ≡ v.count)

-- the entry was made last, of some group's history, and its place alone waits to be handed over
abbrev pub IsNewest : Entry → Story → Type 0
IsNewest e v = (group : ℕ) × (u : Story) × (u.places ≡ []) × (v ≡ entered group e u)

abbrev pub new_reader : VersionsState → ReaderState
new_reader versions = record { versions = versions.name; groups = versions.groups; story = nothing_known }

abbrev pub new_keeper_state : VersionsState → ℕ → KeeperState
new_keeper_state versions group = keeper_state versions.name group (new_keeper group 1)

-- who makes readers and keepers, after the keepers of the first groups were made
abbrev pub IsMaker : VersionsState → ℕ → TableId → Me Entry Story → Type 0
IsMaker versions made name me = (left : ℕ) × (made + left ≡ versions.groups) × (name ≡ versions.name)
    × (me ≡ (new_keeper made left, []))

-- one keeper for each of the first groups
pub record AreVersionKeepers (versions : VersionsState) (groups : ℕ) (keepers : List KeeperState) : Type 0 where
  pub one_each : length keepers ≡ groups
  pub each : (group : ℕ) → group < groups → slice_get keepers group ≡ Some (new_keeper_state versions group)

-- Readers that know nothing, and one keeper for each group.
pub record AreNewVersions (groups count : ℕ) (versions : VersionsState) (readers : List ReaderState) (keepers : List KeeperState) : Type 0 where
  pub groups_are : versions.groups ≡ groups
  pub readers_are : readers ≡ replicate count (new_reader versions)
  pub keepers_are : AreVersionKeepers versions versions.groups keepers
