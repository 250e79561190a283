-- A line in which the device stopped while a mount was up.
use Rattle.std.specs.Prelude.{◌≡◌, ◌++◌, ◌∷◌, ⊤, ℕ, Bool, false, List, [], None, Some}
use Rattle.disk_model.specs.Disk.{Arming, Cell}
use Rattle.life_table.specs.declared.types.MountRecord.{MountRecord}
use Rattle.script.specs.declared.answers.LineReply.TheVariants as line
use Rattle.script.specs.declared.answers.Said.{Said}
use Rattle.run_history.specs.Answers.{line_said}
use Rattle.mount.specs.declared.mounted.Mounted.{Mounted}
use Rattle.script_names.specs.declared.names.Names.{Names}
use Rattle.life_table.specs.declared.table.Table.{Table}
use Rattle.mounted_calls.specs.Running.{IsRunning}
use Rattle.script_runs.specs.Running.{disk_of_device, disk_of_run}
use Rattle.script_runs.specs.declared.running.Device.{Device}
use Rattle.script_runs.specs.declared.running.Up.{Up}
use Rattle.script_runs.specs.declared.running.Comes.{Comes}
use Rattle.script_runs.specs.declared.running.Comes.TheVariants.{Answered, Unanswered}
use Rattle.script_runs.specs.declared.running.Device.TheVariants as device
use Rattle.script_runs.specs.declared.running.Run.{Run}

-- A mount was left where the device stopped, which goes on with nothing armed.
pub record IsLeftIn {D : Type 0} (cells : D → List Cell) (arming : D → Arming) (fault_count : D → ℕ) (names : Names) (past : List MountRecord) (m : Mounted D) (run : Run D) (said : Said) : Type 0 where
  pub said_is : said ≡ line_said line.Stopped
  pub names_are : run.names ≡ names
  pub records : run.past.items ≡ past ++ m.story ∷ []
  pub idle : run.device ≡ device.Idle (disk_of_run run)
  pub goes_on : (arming (disk_of_run run)).stopped ≡ false
  pub unarmed : (arming (disk_of_run run)).armed ≡ None
  pub cells_are : cells (disk_of_run run) ≡ cells m.store.disk
  pub count : fault_count (disk_of_run run) ≡ fault_count m.store.disk

abbrev pub ComesToStop : {D : Type 0} → (D → List Cell) → (D → Arming) → (D → ℕ) → Names → List MountRecord → Mounted D → Comes D → Type 0
ComesToStop cells arming fault_count names past m (Answered run said) = IsLeftIn cells arming fault_count names past m run said
ComesToStop cells arming fault_count names past m (Unanswered run) = ⊥

-- ---- a stop that is armed

-- A mount on whose disk a stop was armed: nothing else of it changed.
pub record IsArmedMount {D : Type 0} (known : Bool) (cells : D → List Cell) (sector_count fault_count : D → ℕ) (arming : D → Arming) (old new : Up D) : Type 0 where
  pub holds : new.holds ≡ old.holds
  pub story : new.mounted.story ≡ old.mounted.story
  pub stage : new.mounted.store.stage ≡ old.mounted.store.stage
  pub running : (start t : Table) → IsRunning known cells sector_count start t old.mounted → IsRunning known cells sector_count start t new.mounted

abbrev pub IsArmedOn : {D : Type 0} → Bool → (D → List Cell) → (D → ℕ) → (D → ℕ) → (D → Arming) → Device D → Device D → Type 0
IsArmedOn known cells sector_count fault_count arming (device.Idle old) (device.Idle new) = ⊤
IsArmedOn known cells sector_count fault_count arming (device.Mounted old) (device.Mounted new) = IsArmedMount known cells sector_count fault_count arming old new
IsArmedOn known cells sector_count fault_count arming old new = ⊥

-- A stop was armed on a device, and nothing else of it changed.
pub record IsArmedDevice {D : Type 0} (known : Bool) (cells : D → List Cell) (sector_count fault_count : D → ℕ) (arming : D → Arming) (writes sectors : ℕ) (old new : Device D) : Type 0 where
  pub on : IsArmedOn known cells sector_count fault_count arming old new
  pub armed : arming (disk_of_device new) ≡ record (arming (disk_of_device old)) { armed = Some (record { writes = writes; sectors = sectors }) }
  pub cells_are : cells (disk_of_device new) ≡ cells (disk_of_device old)
  pub count : fault_count (disk_of_device new) ≡ fault_count (disk_of_device old)
