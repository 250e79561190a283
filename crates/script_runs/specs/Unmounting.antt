-- What an unmount line is told of the mount that it ends, and what it makes of the run.
use Rattle.std.specs.Prelude.{◌≡◌, ℕ, Bool, IsTrue, List, Some}
use Rattle.disk_model.specs.Disk.{Arming, Cell}
use Rattle.life_table.specs.declared.types.MountRecord.{MountRecord}
use Rattle.life_table.specs.declared.table.Table.{Table}
use Rattle.log_store.specs.declared.store.Stage.TheVariants.{Down}
use Rattle.log_store.specs.State.{state_of}
use Rattle.mount.specs.Still.{IsEndCause}
use Rattle.mount.specs.declared.fault.EndFault.TheVariants as end
use Rattle.mount.specs.declared.mounted.Mounted.{Mounted}
use Rattle.mount.specs.declared.mounted.StillMounted.{StillMounted}
use Rattle.run_faults.specs.Progress.{EntriesStay}
use Rattle.run_history.specs.Answers.{holds_in}
use Rattle.run_history.specs.Mounts.{left, unmounted}
use Rattle.run_history.specs.States.{RunState, UpMount, table_now}
use Rattle.mounted_calls.specs.Running.{IsRunning}
use Rattle.script_names.specs.Bindings.{AreNames}
use Rattle.script_names.specs.declared.names.Names.{Names}
use Rattle.actor_holds.specs.declared.holds.ActorHolds.{ActorHolds}
use Rattle.run_mounts.specs.Ends.{all_acknowledged}
use Rattle.run_mounts.specs.Safe.{StandsBehind}
use Rattle.run_mounts.specs.declared.ending.EndedMount.{EndedMount}
use Rattle.script_runs.specs.Running.{IsArmedBehind, IsUpAs, records_of}
use Rattle.script_runs.specs.declared.running.Up.{Up}

-- The mount that is to end: nobody holds an inode of it.
pub record IsLeaving {D : Type 0} (known : Bool) (cells : D → List Cell) (sector_count : D → ℕ) (s : RunState) (names : Names) (past : List MountRecord) (up : Up D) : Type 0 where
  pub before : UpMount
  pub is_up : s.up ≡ Some before
  pub bound : AreNames s.names names
  pub records : past ≡ records_of s.past
  pub stand : IsUpAs known cells sector_count s.lines before up
  pub none_held : holds_in (table_now before) ≡ 0

-- It has ended. Where it is sure that the run stood safe, it does with the mount that has ended.
pub record HasEnded {D : Type 0} (known sure : Bool) (cells : D → List Cell) (sector_count : D → ℕ) (arming : D → Arming) (first : Table) (number : ℕ) (s : RunState) (names : Names) (past : List MountRecord)
    (up : Up D) (ended : EndedMount D) : Type 0 where
  pub leaving : IsLeaving known cells sector_count s names past up
  pub story : ended.story ≡ all_acknowledged up.mounted.story
  pub behind_writes : IsArmedBehind s.armed (arming ended.disk)
  pub safe : IsTrue sure → StandsBehind first number s.past unmounted leaving.before.start ended.story (cells ended.disk)

-- It has not: it goes on at the same table.
pub record HasNotEnded {D : Type 0} (known sure : Bool) (cells : D → List Cell) (sector_count : D → ℕ) (arming : D → Arming) (first : Table) (number : ℕ) (s : RunState) (names : Names) (past : List MountRecord)
    (holds : ActorHolds) (up : Up D) (still : StillMounted D) : Type 0 where
  pub leaving : IsLeaving known cells sector_count s names past up
  pub holds_are : holds ≡ up.holds
  pub story : still.mounted.story ≡ up.mounted.story
  pub running : (start t : Table) → IsRunning known cells sector_count start t up.mounted → IsRunning known cells sector_count start t still.mounted
  pub behind_writes : IsArmedBehind s.armed (arming still.mounted.store.disk)
  pub safe : IsTrue sure → StandsBehind first number s.past left leaving.before.start still.mounted.story (cells still.mounted.store.disk)

-- ---- what its log tells

-- the log of a mount is not down
abbrev pub IsNotDown : {D : Type 0} → Mounted D → Type 0
IsNotDown m = (count : ℕ) → ¬ (m.store.stage ≡ Down count)

-- A mount ended: its log was not down, and its record keeps each entry.
pub record EndTells {D : Type 0} (up : Up D) (ended : EndedMount D) : Type 0 where
  pub entries : EntriesStay up.mounted.story ended.story
  pub was_up : IsNotDown up.mounted

-- It did not end: why, and that it is so where its log was down.
pub record StillTells {D : Type 0} (fault_count : D → ℕ) (up : Up D) (still : StillMounted D) : Type 0 where
  pub entries : EntriesStay up.mounted.story still.mounted.story
  pub cause : IsEndCause still.fault (state_of up.mounted.store) (state_of still.mounted.store) (fault_count up.mounted.store.disk) (fault_count still.mounted.store.disk)
  pub down : (count : ℕ) → up.mounted.store.stage ≡ Down count → still.fault ≡ end.Down count
