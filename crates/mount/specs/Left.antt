-- What a recovery leaves, by its answer.
use Rattle.std.specs.Prelude.{◌≡◌, ◌⊎◌, List, Result, Ok, Err}
use Rattle.disk_model.specs.Disk.{Arming, Cell, IsAfterWrites, flushed}
use Rattle.mount.specs.Same.{AllSame}
use Rattle.mount.specs.declared.fault.MountFault.{MountFault}
use Rattle.mount.specs.declared.fault.MountFault.TheVariants.{Damaged, ReadFault, WriteFault, FlushFault, PositionEnd, NoMemory}

-- What a recovery leaves of the disk, by its answer. Until the flush in front of the replay has succeeded it was only read.
abbrev pub IsHandedBack : {T : Type 0} → Result T MountFault → List Cell → List Cell → Type 0
IsHandedBack (Ok value) old new = AllSame old new
IsHandedBack (Err (Damaged rule sector)) old new = new ≡ old
IsHandedBack (Err ReadFault) old new = new ≡ old
IsHandedBack (Err NoMemory) old new = new ≡ old
IsHandedBack (Err PositionEnd) old new = new ≡ flushed old
IsHandedBack (Err FlushFault) old new = (new ≡ old) ⊎ AllSame old new
IsHandedBack (Err WriteFault) old new = AllSame old new

-- what it leaves armed: it writes nothing before the replay
abbrev pub Arms : {T : Type 0} → Result T MountFault → Arming → Arming → Type 0
Arms (Ok value) old new = IsAfterWrites old new
Arms (Err (Damaged rule sector)) old new = new ≡ old
Arms (Err ReadFault) old new = new ≡ old
Arms (Err NoMemory) old new = new ≡ old
Arms (Err PositionEnd) old new = new ≡ old
Arms (Err FlushFault) old new = IsAfterWrites old new
Arms (Err WriteFault) old new = IsAfterWrites old new
