-- What is left of a mount that was to end.
use Rattle.std.specs.Prelude.{◌≡◌, ℕ, Bool, List, Result, Ok, Err}
use Rattle.life_bytes.specs.declared.sector.Sector.{Sector}
use Rattle.disk_model.specs.Disk.{Cell}
use Rattle.log_store.specs.declared.fault.StoreFault.TheVariants as store
use Rattle.log_store.specs.declared.store.Job.TheVariants.{Idle}
use Rattle.log_store.specs.State.{State}
use Rattle.log_store.specs.Steps.{Goes}
use Rattle.mount.specs.Ending.{IsHomeFault}
use Rattle.mount.specs.declared.fault.EndFault.{EndFault}
use Rattle.mount.specs.declared.fault.EndFault.TheVariants.{Busy, WriteFault, FlushFault, PositionEnd, Down, NoMemory}
use Rattle.mount.specs.declared.mounted.Mounted.{Mounted}
use Rattle.mount.specs.declared.mounted.StillMounted.{StillMounted}

-- the disk that is handed back
abbrev pub disk_after : {D : Type 0} → Result D (StillMounted D) → D
disk_after (Ok disk) = disk
disk_after (Err still) = still.mounted.store.disk

-- All but the store is as before, and the store went on: what became durable did so in order. No job is going.
pub record KeepsMount {D : Type 0} (known : Bool) (cells : D → List Cell) (sector_count moment : D → ℕ) (left : D → ℕ → List Sector → Type 0) (old new : Mounted D) : Type 0 where
  pub groups : new.groups ≡ old.groups
  pub geometry : new.geometry ≡ old.geometry
  pub story : new.story ≡ old.story
  pub goes : Goes known cells sector_count moment left old.store new.store
  pub idle : new.store.job ≡ Idle

-- An unmount of a mount whose log was down: it is answered with the fault that the log keeps, and the disk was not asked.
abbrev pub IsStillDown : {D : Type 0} → ℕ → D → Result D (StillMounted D) → Type 0
IsStillDown fault old (Ok disk) = ⊥
IsStillDown fault old (Err still) = (still.fault ≡ Down fault) × (still.mounted.store.disk ≡ old)

-- Why a mount did not end, with the store's state before and after and the disk's counts: it is a fault of the store, and never that inodes are held.
abbrev pub IsEndCause : EndFault → State → State → ℕ → ℕ → Type 0
IsEndCause (Busy opens) old new before now = ⊥
IsEndCause NoMemory old new before now = ⊥
IsEndCause WriteFault old new before now = IsHomeFault store.WriteFault old new before now
IsEndCause FlushFault old new before now = IsHomeFault store.FlushFault old new before now
IsEndCause PositionEnd old new before now = IsHomeFault store.PositionEnd old new before now
IsEndCause (Down fault) old new before now = IsHomeFault (store.Down fault) old new before now
