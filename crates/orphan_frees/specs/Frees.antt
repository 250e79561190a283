-- What the first so many frees of a recovery leave: of the table, of the groups, of what waits in a store, and of a history.
use Rattle.std.specs.Prelude.{◌≡◌, ◌≤◌, ◌++◌, ℕ, List, length, take}
use Rattle.life_limits.specs.declared.TheConstants.{MAX_ACTORS}
use Rattle.geometry.specs.declared.shape.Geometry.{Geometry}
use Rattle.log_record.specs.declared.image.Commit.{Commit}
use Rattle.life_table.specs.declared.types.Entry.{Entry}
use Rattle.life_table.specs.declared.table.Table.{Table}
use Rattle.life_table.specs.History.{frees_of}
use Rattle.sound_image.specs.Encoding.{Layouts}
use Rattle.commit_history.specs.Carried.{CommitsCarry}
use Rattle.group_ops.specs.Values.{StateValue}
use Rattle.orphan_frees.specs.Loaded.{AreGroupsOf}
use Rattle.orphan_frees.specs.Order.{freed_all, keys_to_free, unlisted_all}

-- the table, and its layouts, once the first so many rows without links are freed
abbrev pub freed_first : Table → Layouts → ℕ → Table
freed_first t layouts count = freed_all t (take count (keys_to_free t layouts))

abbrev pub unlisted_first : Table → Layouts → ℕ → Layouts
unlisted_first t layouts count = unlisted_all layouts (take count (keys_to_free t layouts))

-- The first so many frees were made, in their order: behind the commits that waited before there is one commit for each, behind the entries one entry, made by
-- nobody's actor; the commits carry the table to the one that these frees leave, each first so many of them to what so many frees leave; and of that one the states are the
-- groups.
pub record FreesFirst (g : Geometry) (t : Table) (layouts : Layouts) (count : ℕ) (old new : List Commit) (before after : List Entry) (states : List StateValue) : Type 0 where
  pub within : count ≤ length (keys_to_free t layouts)
  pub commits : List Commit
  pub list : new ≡ old ++ commits
  pub one_each : length commits ≡ count
  pub carry : CommitsCarry g t layouts commits (freed_first t layouts count) (unlisted_first t layouts count)
  pub each : (n : ℕ) → n ≤ count → CommitsCarry g t layouts (take n commits) (freed_first t layouts n) (unlisted_first t layouts n)
  pub entries : after ≡ before ++ frees_of MAX_ACTORS (take count (keys_to_free t layouts))
  pub groups : AreGroupsOf g (freed_first t layouts count) (unlisted_first t layouts count) states

-- some first frees were made
abbrev pub FreesSome : Geometry → Table → Layouts → List Commit → List Commit → List Entry → List Entry → List StateValue → Type 0
FreesSome g t layouts old new before after states = (count : ℕ) × FreesFirst g t layouts count old new before after states

-- all of them
abbrev pub FreesAll : Geometry → Table → Layouts → List Commit → List Commit → List Entry → List Entry → List StateValue → Type 0
FreesAll g t layouts old new before after states = FreesFirst g t layouts (length (keys_to_free t layouts)) old new before after states
