-- A mount that has come up, and had no call yet.
use Rattle.std.specs.Prelude.{◌≡◌, ◌+◌, Bool, IsTrue, List, [], All, length, map}
use Rattle.std.specs.List.{range_with_len}
use Rattle.life_limits.specs.declared.TheConstants.{MAX_ACTORS}
use Rattle.disk_model.specs.Disk.{Cell}
use Rattle.geometry.specs.declared.shape.Geometry.{Geometry}
use Rattle.geometry.specs.Places.{anchor_of}
use Rattle.log_store.specs.State.{State}
use Rattle.life_table.specs.declared.key.Key.{Key}
use Rattle.life_table.specs.declared.types.MountRecord.{MountRecord}
use Rattle.life_table.specs.declared.table.Table.{Table}
use Rattle.life_table.specs.WellFormed.{IsTable}
use Rattle.life_table.specs.History.{LegalHistory, closed, frees_of, recovered}
use Rattle.sound_image.specs.Encoding.{Layouts}
use Rattle.group_core.specs.Value.{GroupValue}
use Rattle.group_ops.specs.Values.{StateValue}
use Rattle.mount.specs.Ending.{IsStoreOf}
use Rattle.orphan_frees.specs.Loaded.{AreGroupsOf}

-- Its record has the frees of these keys, each at its own place, and they are acknowledged.
pub record IsFreshRecord (keys : List Key) (story : MountRecord) : Type 0 where
  pub freed : story.freed ≡ length keys
  pub entries : story.entries ≡ frees_of MAX_ACTORS keys
  pub froms : story.froms ≡ range_with_len 0 (length keys)
  pub acknowledged : story.acknowledged ≡ length keys

-- The frees lead from the table from which it began to the recovered one, of which these are the groups, without a history; they are durable, and the store has nothing more.
pub record IsFreshMount (known : Bool) (g : Geometry) (start : Table) (layouts : Layouts) (keys : List Key) (story : MountRecord) (groups : List (GroupValue StateValue)) (s : State) (cells : List Cell) : Type 0 where
  pub table : IsTable start
  pub unheld : closed (recovered start) ≡ recovered start
  pub legal : LegalHistory start (frees_of MAX_ACTORS keys) (recovered start)
  pub told : IsFreshRecord keys story
  pub states : AreGroupsOf g (recovered start) layouts (map (λ (group : GroupValue StateValue). group.state) groups)
  pub histories : All (λ (group : GroupValue StateValue). group.history ≡ []) groups
  pub anchor : s.anchor ≡ anchor_of g
  pub ring : s.ring ≡ g.ring
  pub list : s.list ≡ []
  pub durable : s.durable + 1 ≡ story.base + length keys
  pub base : IsTrue known → IsStoreOf g (recovered start) layouts s cells
