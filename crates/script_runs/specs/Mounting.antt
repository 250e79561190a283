-- What a mount line is told of the mount that it tries, and what it makes of the run.
use Rattle.std.specs.Prelude.{◌≡◌, ◌<◌, ◌≤◌, ◌⊎◌, ◌∷◌, ◌++◌, ℕ, Bool, false, IsTrue, IfSome, List, [], Option, None, Some}
use Rattle.life_limits.specs.declared.TheConstants.{MAX_NUMBERS, MOUNT_LIMIT}
use Rattle.life_bytes.specs.declared.sector.Sector.{Sector}
use Rattle.disk_model.specs.Disk.{Arming, Cell, IsImage}
use Rattle.life_table.specs.declared.types.MountRecord.{MountRecord}
use Rattle.life_table.specs.declared.table.Table.{Table}
use Rattle.life_table.specs.History.{closed, recovered}
use Rattle.whole_image.specs.Damage.{IsSound}
use Rattle.script.specs.declared.answers.LineReply.{LineReply}
use Rattle.script.specs.declared.answers.LineReply.TheVariants as line
use Rattle.mount.specs.Faults.{IsMountCause}
use Rattle.mount.specs.Mounts.{ArmsDown}
use Rattle.mount.specs.declared.fault.MountFault.{MountFault}
use Rattle.mount.specs.declared.fault.MountFault.TheVariants.{Damaged, ReadFault, WriteFault, FlushFault, PositionEnd, NoMemory}
use Rattle.mount.specs.declared.mounted.Mounted.{Mounted}
use Rattle.mount.specs.declared.mounted.NotMounted.{NotMounted}
use Rattle.run_history.specs.Mounts.{never_up, start_behind}
use Rattle.run_history.specs.States.{RunState, down_now, next_line}
use Rattle.mounted_calls.specs.Running.{IsRunning}
use Rattle.script_names.specs.Bindings.{AreNames}
use Rattle.life_table.specs.declared.key.Key.{Key}
use Rattle.script_runs.specs.Running.{IsArmedBehind, records_of}
use Rattle.run_mounts.specs.Safe.{IsFreshWith, IsUpBehind, StandsDown}

-- No mount is up: what the names and the records of mounts are.
pub record IsIdle (s : RunState) (names : List (List ℕ × Key)) (past : List MountRecord) : Type 0 where
  pub down : s.up ≡ None
  pub bound : AreNames s.names names
  pub records : past ≡ records_of s.past

-- A mount came up behind the mounts of a run, and has freed what recovery frees. Where it is sure that the run stands safe, it does with this mount.
pub record CameUp {D : Type 0} (known sure : Bool) (cells : D → List Cell) (sector_count : D → ℕ) (arming : D → Arming) (first : Table) (number : ℕ) (s : RunState) (m : Mounted D) : Type 0 where
  pub behind : IsTrue sure → IsUpBehind known cells sector_count first number s.past m
  pub running : (start : Table) × (closed start ≡ start) × IsRunning known cells sector_count start (recovered start) m
  pub fresh : IsFreshWith m.story.freed m.story
  pub base : m.story.base < MOUNT_LIMIT
  pub few : m.story.freed ≤ MAX_NUMBERS
  pub behind_writes : IsArmedBehind s.armed (arming m.store.disk)

-- A mount did not come up behind them. What it had freed is recorded; an image that it says is damaged was not recovered.
pub record StayedDown {D : Type 0} (sure : Bool) (cells : D → List Cell) (arming : D → Arming) (first : Table) (number : ℕ) (s : RunState) (m : NotMounted D) : Type 0 where
  pub stands : IsTrue sure → StandsDown first number s.past m.begun (cells m.disk)
  pub fresh : IfSome m.begun (IsFreshWith 0)
  pub unbegun : IsTrue sure → (rule sector : ℕ) → m.fault ≡ Damaged rule sector → m.begun ≡ None
  pub behind_writes : IsArmedBehind s.armed (arming m.disk)

-- A mount of the first image did not come up: the image is sound, or it was only read.
pub record IsRefused {D : Type 0} (cells : D → List Cell) (arming : D → Arming) (before : List Sector) (m : NotMounted D) : Type 0 where
  pub cause : IsMountCause before m.fault
  pub kept : IsSound before ⊎ ((m.begun ≡ None) × ((image : List Sector) → IsImage (cells m.disk) image → image ≡ before))
  pub earlier : Arming
  pub goes_on : earlier.stopped ≡ false
  pub arms : ArmsDown m.begun m.fault earlier (arming m.disk)

-- the records of mounts, with that of one that had begun
abbrev pub records_begun : List MountRecord → Option MountRecord → List MountRecord
records_begun past None = past
records_begun past (Some story) = past ++ story ∷ []

-- what a mount line answers whose mount did not come up; nothing where memory ran out
abbrev pub refusal_of : MountFault → Option LineReply
refusal_of (Damaged rule sector) = Some (line.Damaged rule sector)
refusal_of ReadFault = Some line.ReadFault
refusal_of WriteFault = Some line.WriteFault
refusal_of FlushFault = Some line.FlushFault
refusal_of PositionEnd = Some line.PositionEnd
refusal_of NoMemory = None

-- the run behind it: where it had begun, it is one that never came up
abbrev pub failed_mount : Table → Option MountRecord → RunState → RunState
failed_mount first None s = next_line s
failed_mount first (Some story) s = down_now never_up (record { start = start_behind first s.past story.kept; story = story; going = [] }) s
