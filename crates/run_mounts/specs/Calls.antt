-- What a whole call leaves of a mount of a run.
use Rattle.std.specs.Prelude.{◌≡◌, ⊤, ℕ, Bool, List}
use Rattle.disk_model.specs.Disk.{Cell}
use Rattle.life_table.specs.declared.types.Call.{Call}
use Rattle.life_table.specs.declared.types.Call.TheVariants as call
use Rattle.life_table.specs.declared.types.Reply.{Reply}
use Rattle.life_table.specs.declared.table.Table.{Table}
use Rattle.life_table.specs.Legal.{after_call}
use Rattle.life_table.specs.Replies.{reply_of}
use Rattle.log_store.specs.State.{state_of}
use Rattle.mount.specs.declared.mounted.Mounted.{Mounted}
use Rattle.mounted_calls.specs.Calls.{IsDownBehind, IsHomeAnswer, IsSyncAnswer, with_call}
use Rattle.mounted_calls.specs.Running.{IsRunning}

-- the calls that a mount takes as a whole: those that ask one group, and those that ask the device
abbrev pub IsWholeCall : Call → Type 0
IsWholeCall (call.Create group) = ⊤
IsWholeCall (call.Tmpfile group) = ⊤
IsWholeCall (call.Link key) = ⊤
IsWholeCall (call.Unlink key) = ⊤
IsWholeCall (call.Grow key count) = ⊤
IsWholeCall (call.Cut key count) = ⊤
IsWholeCall (call.Stat key) = ⊤
IsWholeCall call.Sync = ⊤
IsWholeCall call.Home = ⊤
IsWholeCall _ = ⊥

-- the disk was not asked, and the log is down or up as before
pub record IsInCore {D : Type 0} (old new : Mounted D) : Type 0 where
  pub disk : new.store.disk ≡ old.store.disk
  pub stage : new.store.stage ≡ old.store.stage

-- What each call is answered, from the table before: one that asks a group what the table says, without the disk; a sync and a home as the log went on.
abbrev pub AnswersCall : {D : Type 0} → Bool → (D → List Cell) → (D → ℕ) → Table → Call → Reply → Mounted D → Mounted D → Type 0
AnswersCall known cells fault_count t call.Sync answer old new =
    IsSyncAnswer old.story answer (state_of old.store) (state_of new.store) (fault_count old.store.disk) (fault_count new.store.disk)
    × IsDownBehind answer (state_of old.store) (state_of new.store)
AnswersCall known cells fault_count t call.Home answer old new =
    IsHomeAnswer known (cells new.store.disk) answer (state_of old.store) (state_of new.store) (fault_count old.store.disk) (fault_count new.store.disk)
    × IsDownBehind answer (state_of old.store) (state_of new.store)
AnswersCall known cells fault_count t made answer old new = (answer ≡ reply_of t made) × IsInCore old new

-- The call of an actor was answered: its entry is the last one of the mount's record, and the table comes to be the one after it.
pub record IsCalled {D : Type 0} (known : Bool) (cells : D → List Cell) (sector_count fault_count : D → ℕ) (start t : Table) (actor : ℕ) (made : Call) (old new : Mounted D) : Type 0 where
  pub answer : Reply
  pub story : new.story ≡ with_call old.story actor made answer
  pub running : IsRunning known cells sector_count start (after_call t made answer) new
  pub geometry : new.geometry ≡ old.geometry
  pub answers : AnswersCall known cells fault_count t made answer old new

-- There was no memory for it: nothing happened.
pub record IsUncalled {D : Type 0} (known : Bool) (cells : D → List Cell) (sector_count : D → ℕ) (start t : Table) (old new : Mounted D) : Type 0 where
  pub story : new.story ≡ old.story
  pub running : IsRunning known cells sector_count start t new
  pub geometry : new.geometry ≡ old.geometry
  pub in_core : IsInCore old new
