-- A mount that is up, between two calls: what its groups, its record and its log have to do with each other.
use Rattle.std.specs.Prelude.{◌≡◌, ◌==◌, ◌+◌, ◌≤◌, ℕ, Bool, false, IsTrue, List, Option, None, Some, drop, filter, length, slice_get}
use Rattle.std.specs.List.{range_with_len}
use Rattle.life_bytes.specs.declared.sector.Sector.{Sector}
use Rattle.disk_model.specs.Disk.{Cell, Elapses}
use Rattle.geometry.specs.declared.shape.Geometry.{Geometry}
use Rattle.geometry.specs.Places.{anchor_of}
use Rattle.geometry.specs.Shape.{IsGeometry}
use Rattle.log_store.specs.declared.store.Job.TheVariants.{Idle}
use Rattle.log_store.specs.declared.store.Store.{Store}
use Rattle.log_store.specs.State.{State, state_of}
use Rattle.log_store.specs.Steps.{IsStore}
use Rattle.life_table.specs.declared.key.Key.{Key}
use Rattle.life_table.specs.declared.types.Row.{Row}
use Rattle.life_table.specs.declared.types.Event.{Event}
use Rattle.life_table.specs.declared.types.Event.TheVariants.{Called, Freed}
use Rattle.life_table.specs.declared.types.Entry.{Entry}
use Rattle.life_table.specs.declared.types.MountRecord.{MountRecord}
use Rattle.life_table.specs.declared.table.Table.{Table}
use Rattle.life_table.specs.Table.{group_number, row_of}
use Rattle.life_table.specs.Legal.{Awaits}
use Rattle.life_table.specs.History.{After, LegalHistory}
use Rattle.life_table.specs.WellFormed.{IsTable}
use Rattle.sound_image.specs.Encoding.{Layouts}
use Rattle.group_core.specs.GroupHistory.{call_group}
use Rattle.group_core.specs.Value.{GroupValue}
use Rattle.group_ops.specs.Values.{StateValue}
use Rattle.mount.specs.Ending.{IsStoreOf}
use Rattle.orphan_frees.specs.Loaded.{IsGroupAt}
use Rattle.mount.specs.declared.mounted.Mounted.{Mounted}
use Rattle.run_history.specs.CrashSafe.{IsPrefixLeft}
use Rattle.run_history.specs.Mounts.{MountStory, acknowledged_by, changes_made}
use Rattle.run_history.specs.Mounts as mounts
use Rattle.mounted_calls.specs.Commits.{AreOfChanges}

-- ---- the record

-- no row of the table awaits being freed
abbrev pub NoneAwaits : Table → Type 0
NoneAwaits t = (key : Key) (row : Row) → row_of t key ≡ Some row → ¬ Awaits row

-- What is recorded of a mount that began from a table and has come to another one: what happened is legal, each entry stands where its call began, and what is
-- acknowledged is what recovery freed or what a sync was answered.
pub record IsRecordOf (start t : Table) (story : MountRecord) : Type 0 where
  pub table : IsTable start
  pub legal : LegalHistory start story.entries t
  pub awaits : NoneAwaits t
  pub places : story.froms ≡ range_with_len 0 (length story.entries)
  pub begun : story.freed ≤ length story.entries
  pub acknowledged : story.acknowledged ≡ acknowledged_by mounts.left story

-- ---- the groups

-- whether an event is in a group
abbrev pub is_group : Option ℕ → ℕ → Bool
is_group None group = false
is_group (Some other) group = other == group

abbrev pub is_in_group : ℕ → Event → Bool
is_in_group group (Called made answer) = is_group (call_group made) group
is_in_group group (Freed key) = group_number key == group

-- the entries of a mount, behind those of recovery, that are in a group
abbrev pub entries_in : ℕ → MountRecord → List Entry
entries_in group story = filter (λ (entry : Entry). is_in_group group entry.event) (drop story.freed story.entries)

-- They are the groups of a table, in their order, and the history of each is what happened in it since the mount came up.
pub record HasGroupsOf (g : Geometry) (t : Table) (layouts : Layouts) (story : MountRecord) (groups : List (GroupValue StateValue)) : Type 0 where
  pub shape : IsGeometry g
  pub count : length groups ≡ g.groups
  pub each : (k : ℕ) (group : GroupValue StateValue) → slice_get groups k ≡ Some group → IsGroupAt g t layouts k group.state
  pub histories : (k : ℕ) (group : GroupValue StateValue) → slice_get groups k ≡ Some group → group.history ≡ entries_in k story

-- ---- the log

-- So many first changes of a mount are durable, at least those that are acknowledged. The store's base encodes the table after them, and the commits that wait are
-- those of the other changes.
pub record IsLogOf (known : Bool) (g : Geometry) (start : Table) (layouts : Layouts) (story : MountRecord) (s : State) (cells : List Cell) : Type 0 where
  pub anchor : s.anchor ≡ anchor_of g
  pub ring : s.ring ≡ g.ring
  pub durable : ℕ
  pub acknowledged : story.acknowledged ≤ durable
  pub number : s.durable + 1 ≡ story.base + durable
  pub made : durable + length s.list ≡ changes_made story
  pub lists : Layouts
  pub commits : AreOfChanges g start story.entries durable lists s.list layouts
  pub base : IsTrue known → IsStoreOf g (After start story.entries durable) lists s cells

-- ---- the mount

-- Its parts: the record, the groups, and the log with what its disk holds.
pub record AreRunning (known : Bool) (g : Geometry) (start t : Table) (layouts : Layouts) (story : MountRecord) (groups : List (GroupValue StateValue)) (s : State) (cells : List Cell) : Type 0 where
  pub told : IsRecordOf start t story
  pub groups_of : HasGroupsOf g t layouts story groups
  pub log : IsLogOf known g start layouts story s cells

-- The mount began from a table, and has come to another one, with its holds. No job is going.
pub record IsRunning {D : Type 0} (known : Bool) (cells : D → List Cell) (sector_count : D → ℕ) (start t : Table) (m : Mounted D) : Type 0 where
  pub layouts : Layouts
  pub parts : AreRunning known m.geometry start t layouts m.story m.groups.items (state_of m.store) (cells m.store.disk)
  pub store : IsStore known cells sector_count m.store
  pub idle : m.store.job ≡ Idle

-- An image represents the table after the first so many changes of a mount that is left: all that are acknowledged are among them.
abbrev pub story_of : Table → MountRecord → MountStory
story_of start story = record { start = start; story = story; ending = mounts.left }

abbrev pub IsLeftBehind : Table → MountRecord → List Sector → Type 0
IsLeftBehind start story image = (n : ℕ) × IsPrefixLeft (story_of start story) image n

-- A store went on from one state to another: the log is that of each mount of which it was, and what a crash left meanwhile is what such a mount leaves behind.
pub record StoreMoves {D : Type 0} (known : Bool) (cells : D → List Cell) (sector_count moment : D → ℕ) (left : D → ℕ → List Sector → Type 0) (old new : Store D) : Type 0 where
  pub store : IsStore known cells sector_count new
  pub log : (g : Geometry) (start t : Table) (layouts : Layouts) (story : MountRecord) → IsRecordOf start t story → IsLogOf known g start layouts story (state_of old) (cells old.disk)
      → IsLogOf known g start layouts story (state_of new) (cells new.disk)
  pub moments : IsTrue known → (g : Geometry) (start t : Table) (layouts : Layouts) (story : MountRecord) → IsRecordOf start t story → IsLogOf known g start layouts story (state_of old) (cells old.disk)
      → Elapses (moment old.disk) (moment new.disk) (left old.disk) (left new.disk) (IsLeftBehind start story)
