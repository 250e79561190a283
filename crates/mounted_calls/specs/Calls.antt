-- What whole calls leave of a mount that is up.
use Rattle.std.specs.Prelude.{◌≡◌, ◌<◌, ◌+◌, ◌⊎◌, ⊤, ℕ, Bool, IsTrue, List, [], ◌∷◌, Option, None, Some, length, map}
use Rattle.life_bytes.specs.declared.sector.Sector.{Sector}
use Rattle.disk_model.specs.Disk.{Cell, Elapses, IsImage}
use Rattle.log_store.specs.declared.fault.StoreFault.{StoreFault}
use Rattle.log_store.specs.declared.fault.StoreFault.TheVariants as fault
use Rattle.log_store.specs.declared.store.Job.{Job}
use Rattle.log_store.specs.declared.store.Job.TheVariants as job
use Rattle.log_store.specs.declared.store.Stage.TheVariants as stage
use Rattle.log_store.specs.OnDisk.{HasCover}
use Rattle.log_store.specs.Outcome.{IsFault, down_count}
use Rattle.log_store.specs.State.{State, state_of}
use Rattle.life_table.specs.declared.types.Call.{Call}
use Rattle.life_table.specs.declared.types.Call.TheVariants as call
use Rattle.life_table.specs.declared.types.Reply.{Reply}
use Rattle.life_table.specs.declared.types.Reply.TheVariants as reply
use Rattle.life_table.specs.declared.types.Event.TheVariants.{Called}
use Rattle.life_table.specs.declared.types.Entry.{Entry}
use Rattle.life_table.specs.declared.types.MountRecord.{MountRecord}
use Rattle.life_table.specs.declared.table.Table.{Table}
use Rattle.life_table.specs.Legal.{after_call}
use Rattle.group_core.specs.Value.{GroupValue}
use Rattle.group_ops.specs.Changes.{with_room}
use Rattle.group_ops.specs.Values.{StateValue}
use Rattle.mount.specs.declared.mounted.Mounted.{Mounted}
use Rattle.run_history.specs.Mounts.{changes_made}
use Rattle.run_history.specs.States.{with_entries}
use Rattle.mounted_calls.specs.Running.{IsLeftBehind, IsRunning}

-- the calls that ask one group: no open and no close is among them, so a hold is taken by a create alone, and none is given up
abbrev pub IsOnGroup : Call → Type 0
IsOnGroup (call.Create group) = ⊤
IsOnGroup (call.Tmpfile group) = ⊤
IsOnGroup (call.Link key) = ⊤
IsOnGroup (call.Unlink key) = ⊤
IsOnGroup (call.Grow key count) = ⊤
IsOnGroup (call.Cut key count) = ⊤
IsOnGroup (call.Stat key) = ⊤
IsOnGroup _ = ⊥

-- the group that a call names is one of so many
abbrev pub NamesGroup : ℕ → Call → Type 0
NamesGroup groups (call.Create group) = group < groups
NamesGroup groups (call.Tmpfile group) = group < groups
NamesGroup groups _ = ⊤

-- the record with the entry of a call more, which began where the record ended
abbrev pub entry_of : ℕ → Call → Reply → Entry
entry_of actor made answer = record { actor = actor; event = Called made answer }

abbrev pub with_call : MountRecord → ℕ → Call → Reply → MountRecord
with_call story actor made answer = with_entries story (entry_of actor made answer ∷ []) (length story.entries ∷ [])

-- groups apart from their room for more
abbrev pub roomless_one : GroupValue StateValue → GroupValue StateValue
roomless_one group = record { state = with_room group.state 0; history = group.history; spare = 0 }

abbrev pub roomless : List (GroupValue StateValue) → List (GroupValue StateValue)
roomless groups = map roomless_one groups

-- A call of an actor in a group was answered: its entry is the last one, the table comes to be the one after it, no device call was made, and the log is as far as it was.
pub record IsMade {D : Type 0} (known : Bool) (cells : D → List Cell) (sector_count : D → ℕ) (start t : Table) (actor : ℕ) (made : Call) (answer : Reply) (old new : Mounted D) : Type 0 where
  pub story : new.story ≡ with_call old.story actor made answer
  pub running : IsRunning known cells sector_count start (after_call t made answer) new
  pub geometry : new.geometry ≡ old.geometry
  pub disk : new.store.disk ≡ old.store.disk
  pub stage : new.store.stage ≡ old.store.stage

-- There was no memory for it: all but room is as before.
pub record IsUnmade {D : Type 0} (known : Bool) (cells : D → List Cell) (sector_count : D → ℕ) (start t : Table) (old new : Mounted D) : Type 0 where
  pub story : new.story ≡ old.story
  pub groups : roomless new.groups.items ≡ roomless old.groups.items
  pub geometry : new.geometry ≡ old.geometry
  pub store : state_of new.store ≡ state_of old.store
  pub disk : new.store.disk ≡ old.store.disk
  pub running : IsRunning known cells sector_count start t new

-- the reply that tells of a store's fault
abbrev pub fault_reply : StoreFault → Reply
fault_reply fault.WriteFault = reply.WriteFault
fault_reply fault.FlushFault = reply.FlushFault
fault_reply fault.PositionEnd = reply.PositionEnd
fault_reply (fault.Down count) = reply.Down count

-- the reply of a job that has nothing to do, by the count that a store that is down keeps
abbrev pub idle_reply : Option ℕ → Reply
idle_reply None = reply.Done
idle_reply (Some count) = reply.Down count

-- Why a job of a store was answered by a fault, with its states and the disk's counts of faults before and after. That it was down before is the cause of `Down`.
abbrev pub IsJobFault : Job → Reply → State → State → ℕ → ℕ → Type 0
IsJobFault job reply.WriteFault old new before now = IsFault fault.WriteFault job new before now
IsJobFault job reply.FlushFault old new before now = IsFault fault.FlushFault job new before now
IsJobFault job reply.PositionEnd old new before now = IsFault fault.PositionEnd job new before now
IsJobFault job (reply.Down count) old new before now = old.stage ≡ stage.Down count
IsJobFault job _ old new before now = ⊥

-- what a force is answered, where its commits are counted from this number on
abbrev pub IsForced : ℕ → Reply → State → State → ℕ → ℕ → Type 0
IsForced base (reply.Covered count) old new before now = (count + base ≡ new.durable + 1) × (new.list ≡ [])
IsForced base answer old new before now = IsJobFault job.Force answer old new before now

-- What a sync answers: that all changes of the mount are durable, or why not.
abbrev pub IsSyncAnswer : MountRecord → Reply → State → State → ℕ → ℕ → Type 0
IsSyncAnswer story (reply.Covered count) old new before now = (count ≡ changes_made story) × (new.list ≡ [])
IsSyncAnswer story answer old new before now = IsJobFault job.Force answer old new before now

-- A log is one cover, in each image that a crash may leave.
pub record IsCovered (known : Bool) (s : State) (cells : List Cell) : Type 0 where
  pub alone : s.head ≡ s.tail + 1
  pub cover : IsTrue known → (image : List Sector) → IsImage cells image → HasCover s.anchor s.ring s.tail (s.durable + 1) image

-- what the end of a home answers: that the log is one cover, or why it is not
abbrev pub IsCoverAnswer : Bool → List Cell → Reply → State → State → ℕ → ℕ → Type 0
IsCoverAnswer known cells reply.Done old new before now = IsCovered known new cells
IsCoverAnswer known cells answer old new before now = IsJobFault job.Home answer old new before now

-- What a home answers: that every logged sector was home, or that all are and the log is one cover; or why not.
abbrev pub IsHomeAnswer : Bool → List Cell → Reply → State → State → ℕ → ℕ → Type 0
IsHomeAnswer known cells reply.Done old new before now = (old.dirty ≡ []) ⊎ IsCovered known new cells
IsHomeAnswer known cells answer old new before now = IsJobFault job.WriteBack answer old new before now ⊎ IsJobFault job.Home answer old new before now

-- a log that is not down
abbrev pub IsLogUp : State → Type 0
IsLogUp s = down_count s.stage ≡ None

-- Whether the log is down before a sync or a home and behind its answer. Where it was down it stays so, and the answer is its count; where a flush failed it is down since; and where the call was done, or
-- the positions end, it is not. After a failed write it is where that was a write of the log, as the fault itself tells.
abbrev pub IsDownBehind : Reply → State → State → Type 0
IsDownBehind reply.Done old new = IsLogUp old × IsLogUp new
IsDownBehind (reply.Covered count) old new = IsLogUp old × IsLogUp new
IsDownBehind reply.PositionEnd old new = IsLogUp old × IsLogUp new
IsDownBehind reply.WriteFault old new = IsLogUp old
IsDownBehind reply.FlushFault old new = IsLogUp old × ((count : ℕ) × (new.stage ≡ stage.Down count))
IsDownBehind (reply.Down count) old new = (old.stage ≡ stage.Down count) × (new.stage ≡ stage.Down count)
IsDownBehind _ old new = ⊥

-- A call that asks the device was answered: its entry is the last one, and the table and its groups stay. What a crash within it left is a prefix of the mount's changes that
-- has all those that were acknowledged before it.
pub record IsAnswered {D : Type 0} (known : Bool) (cells : D → List Cell) (sector_count moment : D → ℕ) (left : D → ℕ → List Sector → Type 0) (start t : Table) (actor : ℕ) (made : Call) (answer : Reply) (old new : Mounted D) : Type 0 where
  pub story : new.story ≡ with_call old.story actor made answer
  pub running : IsRunning known cells sector_count start t new
  pub groups : new.groups ≡ old.groups
  pub geometry : new.geometry ≡ old.geometry
  pub moments : IsTrue known → Elapses (moment old.store.disk) (moment new.store.disk) (left old.store.disk) (left new.store.disk) (IsLeftBehind start old.story)
