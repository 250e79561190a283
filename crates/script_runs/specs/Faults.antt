-- What the answer of a line owes of faults and of the log.
use Rattle.std.specs.Prelude.{◌≡◌, ⊤, ℕ, IsTrue, List}
use Rattle.life_ports.specs.Faults.{Rose}
use Rattle.log_store.specs.declared.store.Stage.TheVariants.{Down}
use Rattle.log_store.specs.State.{state_of}
use Rattle.life_table.specs.declared.types.MountRecord.{MountRecord}
use Rattle.mount.specs.declared.mounted.Mounted.{Mounted}
use Rattle.mounted_calls.specs.Calls.{IsLogUp}
use Rattle.run_faults.specs.Log.{LogKnown, MaySay, known_behind}
use Rattle.run_faults.specs.Log as known
use Rattle.run_faults.specs.News.{News, news_of}
use Rattle.run_faults.specs.Progress.{RecordsGrow}
use Rattle.run_faults.specs.Told.{is_fault}
use Rattle.script_runs.specs.Running.{disk_of_device, records_with}
use Rattle.script_runs.specs.declared.running.Comes.{Comes}
use Rattle.script_runs.specs.declared.running.Comes.TheVariants.{Answered, Unanswered}
use Rattle.script_runs.specs.declared.running.Device.{Device}
use Rattle.script_runs.specs.declared.running.Device.TheVariants as device

-- what is known of the log of a mount that is up is so
abbrev pub LogOfMountIs : {D : Type 0} → LogKnown → Mounted D → Type 0
LogOfMountIs known.no_mount m = ⊥
LogOfMountIs known.log_is_up m = IsLogUp (state_of m.store)
LogOfMountIs known.log_in_doubt m = ⊤
LogOfMountIs known.log_is_down m = (count : ℕ) × (m.store.stage ≡ Down count)

-- no mount is known to be up
abbrev pub IsNoMount : LogKnown → Type 0
IsNoMount known.no_mount = ⊤
IsNoMount _ = ⊥

-- what is known of a device is so
abbrev pub LogIs : {D : Type 0} → LogKnown → Device D → Type 0
LogIs log (device.Idle disk) = IsNoMount log
LogIs log (device.Mounted up) = LogOfMountIs log up.mounted

-- A device went on, and this is told of it: it may be told, whatever is known of the log; what is known behind it is so; and a fault is told only where the device counted one.
pub record IsTold {D : Type 0} (fault_count : D → ℕ) (told : News) (old new : Device D) : Type 0 where
  pub may : (log : LogKnown) → LogIs log old → MaySay log told
  pub behind : (log : LogKnown) → LogIs log old → LogIs (known_behind log told) new
  pub fault : IsTrue (is_fault told) → Rose (fault_count (disk_of_device old)) (fault_count (disk_of_device new))

-- A line was answered over these records and this device: so its answer tells, and the records go on.
abbrev pub TellsOfLog : {D : Type 0} → (D → ℕ) → List MountRecord → Device D → Comes D → Type 0
TellsOfLog fault_count past old (Answered run said) =
    RecordsGrow (records_with past old) (records_with run.past.items run.device)
    × IsTold fault_count (news_of (records_with run.past.items run.device) said) old run.device
TellsOfLog fault_count past old (Unanswered run) = RecordsGrow (records_with past old) (records_with run.past.items run.device)
