-- Why a mount did not come up, and how the faults of its parts are handed on.
use Rattle.std.specs.Prelude.{⊤, ℕ, List}
use Rattle.life_bytes.specs.declared.sector.Sector.{Sector}
use Rattle.life_ports.specs.Faults.{Rose}
use Rattle.log_store.specs.declared.fault.StoreFault.{StoreFault}
use Rattle.log_store.specs.declared.fault.StoreFault.TheVariants as store
use Rattle.recovery.specs.declared.start.ReplayFault.{ReplayFault}
use Rattle.recovery.specs.declared.start.ReplayFault.TheVariants as replay
use Rattle.whole_image.specs.Damage.{IsFirstDamage, IsSound}
use Rattle.group_ops.specs.declared.fault.LoadFault.{LoadFault}
use Rattle.group_ops.specs.declared.fault.LoadFault.TheVariants as load
use Rattle.inspect.specs.declared.fault.InspectFault.{InspectFault}
use Rattle.inspect.specs.declared.fault.InspectFault.TheVariants as inspect
use Rattle.mount.specs.Positions.{ArePositionsUsedUp}
use Rattle.mount.specs.declared.fault.EndFault.{EndFault}
use Rattle.mount.specs.declared.fault.EndFault.TheVariants as end
use Rattle.mount.specs.declared.fault.MountFault.{MountFault}
use Rattle.mount.specs.declared.fault.MountFault.TheVariants.{Damaged, ReadFault, WriteFault, FlushFault, PositionEnd, NoMemory}

-- a fault of an inspection
abbrev pub of_inspection : InspectFault → MountFault
of_inspection (inspect.Damaged rule sector) = Damaged rule sector
of_inspection inspect.ReadFault = ReadFault
of_inspection inspect.NoMemory = NoMemory

-- a fault of a replay
abbrev pub of_replay : ReplayFault → MountFault
of_replay replay.WriteFault = WriteFault
of_replay replay.FlushFault = FlushFault
of_replay replay.PositionEnd = PositionEnd

-- a fault of a load
abbrev pub of_load : LoadFault → MountFault
of_load (load.Damaged rule sector) = Damaged rule sector
of_load load.ReadFault = ReadFault
of_load load.NoMemory = NoMemory

-- a fault of a store
abbrev pub of_store : StoreFault → EndFault
of_store store.WriteFault = end.WriteFault
of_store store.FlushFault = end.FlushFault
of_store store.PositionEnd = end.PositionEnd
of_store (store.Down fault) = end.Down fault

-- Why a recovery refused an image, with the image, and the disk's counts of faults before and after: damage is the first of the image, and of one that is not sound nothing
-- but that is said or what no image decides; positions are used up exactly where they are.
abbrev pub IsMountCause : List Sector → MountFault → Type 0
IsMountCause image (Damaged rule sector) = IsFirstDamage image (record { rule = rule; sector = sector })
IsMountCause image ReadFault = ⊤
IsMountCause image NoMemory = ⊤
IsMountCause image FlushFault = IsSound image
IsMountCause image WriteFault = IsSound image × ¬ ArePositionsUsedUp image
IsMountCause image PositionEnd = IsSound image × ArePositionsUsedUp image

-- a fault of the device comes only where its count rose
abbrev pub IsDeviceCause : ℕ → ℕ → MountFault → Type 0
IsDeviceCause before now (Damaged rule sector) = ⊤
IsDeviceCause before now NoMemory = ⊤
IsDeviceCause before now PositionEnd = ⊤
IsDeviceCause before now ReadFault = Rose before now
IsDeviceCause before now WriteFault = Rose before now
IsDeviceCause before now FlushFault = Rose before now
