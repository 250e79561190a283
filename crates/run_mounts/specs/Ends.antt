-- What is left of a mount of a run that was to end.
use Rattle.std.specs.Prelude.{◌≡◌, ℕ, Bool, List, Result, Ok, Err}
use Rattle.disk_model.specs.Disk.{Cell}
use Rattle.life_table.specs.declared.types.MountRecord.{MountRecord}
use Rattle.life_table.specs.declared.table.Table.{Table}
use Rattle.mount.specs.declared.fault.EndFault.TheVariants as end
use Rattle.mount.specs.declared.mounted.Mounted.{Mounted}
use Rattle.mount.specs.declared.mounted.StillMounted.{StillMounted}
use Rattle.run_history.specs.Mounts.{MountStory, changes_made, left, unmounted}
use Rattle.mounted_calls.specs.Running.{IsRunning}
use Rattle.run_mounts.specs.declared.ending.EndedMount.{EndedMount}
use Rattle.run_mounts.specs.Safe.{StandsBehind}

-- the record of a mount all of whose changes are acknowledged
abbrev pub all_acknowledged : MountRecord → MountRecord
all_acknowledged story = record story { acknowledged = changes_made story }

-- the disk that is handed back
abbrev pub disk_of_end : {D : Type 0} → Result (EndedMount D) (StillMounted D) → D
disk_of_end (Ok ended) = ended.disk
disk_of_end (Err still) = still.mounted.store.disk

-- The mount did not end, and goes on as it stood: nothing was added to its record, and it is at the same table.
pub record IsStillUp {D : Type 0} (known : Bool) (cells : D → List Cell) (sector_count : D → ℕ) (old new : Mounted D) : Type 0 where
  pub story : new.story ≡ old.story
  pub groups : new.groups ≡ old.groups
  pub geometry : new.geometry ≡ old.geometry
  pub running : (start t : Table) → IsRunning known cells sector_count start t old → IsRunning known cells sector_count start t new

-- The end of a mount whose log was down: it is answered with the fault that the log keeps, and the disk was not asked.
abbrev pub EndsDown : {D : Type 0} → ℕ → D → Result (EndedMount D) (StillMounted D) → Type 0
EndsDown fault old (Ok ended) = ⊥
EndsDown fault old (Err still) = (still.fault ≡ end.Down fault) × (still.mounted.store.disk ≡ old)

-- How a run stands behind the end of a mount: ended, or left where it did not end.
abbrev pub StandsEnded : {D : Type 0} → (D → List Cell) → Table → ℕ → List MountStory → Table → Result (EndedMount D) (StillMounted D) → Type 0
StandsEnded cells first number past start (Ok ended) = StandsBehind first number past unmounted start ended.story (cells ended.disk)
StandsEnded cells first number past start (Err still) = StandsBehind first number past left start still.mounted.story (cells still.mounted.store.disk)
