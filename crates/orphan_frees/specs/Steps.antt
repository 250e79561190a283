-- What a free of one row, and the frees of one group's rows, need and leave.
use Rattle.std.specs.Prelude.{◌≡◌, ◌<◌, ◌≤◌, ◌/◌, ◌++◌, ℕ, List, IsSomeAnd, length, take}
use Rattle.life_limits.specs.declared.TheConstants.{GROUP_NUMBERS, MAX_ACTORS}
use Rattle.life_bytes.specs.declared.sector.Sector.{Sector}
use Rattle.geometry.specs.declared.shape.Geometry.{Geometry}
use Rattle.log_record.specs.declared.image.Commit.{Commit}
use Rattle.life_table.specs.declared.key.Key.{Key}
use Rattle.life_table.specs.declared.types.Entry.{Entry}
use Rattle.life_table.specs.declared.table.Table.{Table}
use Rattle.life_table.specs.Legal.{Awaits}
use Rattle.life_table.specs.History.{closed, frees_of}
use Rattle.life_table.specs.Table.{row_of}
use Rattle.sound_image.specs.Encoding.{CanEncode, Layouts}
use Rattle.commit_history.specs.Carried.{CommitsCarry}
use Rattle.group_ops.specs.Represents.{IsGroupOf}
use Rattle.group_ops.specs.Values.{StateValue}
use Rattle.orphan_frees.specs.Loaded.{AreGroupsOf}
use Rattle.orphan_frees.specs.Order.{freed_all, unlisted_all}

-- A state is its group of a table that sectors can encode.
pub record IsGroupIn (s : StateValue) (t : Table) (layouts : Layouts) (sectors : List Sector) : Type 0 where
  pub represents : IsGroupOf s t layouts
  pub can : CanEncode s.geometry t layouts sectors
  pub inside : s.group < s.geometry.groups

-- The row of a key of that group awaits being freed.
pub record IsDue (s : StateValue) (t : Table) (layouts : Layouts) (sectors : List Sector) (key : Key) : Type 0 where
  pub group : IsGroupIn s t layouts sectors
  pub own : key.number / GROUP_NUMBERS ≡ s.group
  pub awaits : IsSomeAnd (row_of t key) Awaits

-- The states are the groups of a table that sectors can encode, of which nobody holds an inode.
pub record AreUnheld (g : Geometry) (t : Table) (layouts : Layouts) (sectors : List Sector) (states : List StateValue) : Type 0 where
  pub groups : AreGroupsOf g t layouts states
  pub can : CanEncode g t layouts sectors
  pub unheld : closed t ≡ t

-- So many first commits carry the table and its layouts to what so many first of these frees leave, whatever the number.
abbrev pub CarryEach : Geometry → Table → Layouts → List Key → List Commit → Type 0
CarryEach g t layouts keys commits = (n : ℕ) → n ≤ length keys → CommitsCarry g t layouts (take n commits) (freed_all t (take n keys)) (unlisted_all layouts (take n keys))

-- The rows of these keys were freed, one after the other: behind the commits that waited before there is one for each key, which carry the table and its
-- layouts to what these frees leave, each first so many to what so many leave; and behind the entries one entry for each.
pub record FreesKeys (g : Geometry) (t : Table) (layouts : Layouts) (keys : List Key) (old new : List Commit) (before after : List Entry) : Type 0 where
  pub commits : List Commit
  pub list : new ≡ old ++ commits
  pub one_each : length commits ≡ length keys
  pub carry : CommitsCarry g t layouts commits (freed_all t keys) (unlisted_all layouts keys)
  pub each : CarryEach g t layouts keys commits
  pub entries : after ≡ before ++ frees_of MAX_ACTORS keys

-- They are keys of one group, whose state is then that group of what the frees leave.
pub record FreesInGroup (s : StateValue) (t : Table) (layouts : Layouts) (keys : List Key) (old new : List Commit) (before after : List Entry) (left : StateValue) : Type 0 where
  pub frees : FreesKeys s.geometry t layouts keys old new before after
  pub geometry : left.geometry ≡ s.geometry
  pub group : left.group ≡ s.group
  pub represents : IsGroupOf left (freed_all t keys) (unlisted_all layouts keys)

-- They are keys of any groups, and the states are then all groups of what the frees leave.
pub record FreesInGroups (g : Geometry) (t : Table) (layouts : Layouts) (keys : List Key) (old new : List Commit) (before after : List Entry) (states : List StateValue) : Type 0 where
  pub frees : FreesKeys g t layouts keys old new before after
  pub groups : AreGroupsOf g (freed_all t keys) (unlisted_all layouts keys) states
