use Rattle.std.proofs.Common.{refl}
use Rattle.disk_model.specs.Disk.{settled_as, written, IsImage}
use Rattle.disk_model.specs.MemoryDisk.{DiskRecord, cells_of}
use Rattle.disk_model.specs.MemoryDisk.Change.{Write}
use Rattle.disk_model.specs.MemoryEntry.{changes_of}
use Rattle.disk_model.proofs.Replay.{cells_of-changed, Elapses-changed, length-written_changed, reads_after_write, IsPartlyWritten-none}
use Rattle.disk_model.proofs.memory_disk.MemoryDiskDisk.write.Goals as goal

pub returns-in_default-clause-failed : goal.returns-in_default-clause-failed
returns-in_default-clause-failed c =
    rw (c.fault.ensures.counted, c.in_default.ensures.err, ← c.self.view_is) (IsPartlyWritten-none c.args.at c.args.pieces.now _)

pub invariant_of-self-2 : goal.invariant_of-self-2
invariant_of-self-2 c =
    reads_after_write (settled_as c.self.inside.first.items) _ _ c.args.at c.args.pieces.now _ _ c.in-Ok.ensures.ok c.self.invariant c.overwrite.ensures
    (rw (← c.self.view_is) at c.requires.within)

pub returns-clause-written : goal.returns-clause-written
returns-clause-written c =
    let new : DiskRecord = record { first = c.self.inside.first.items; changes = changes_of c.keep_write.new.entries.items; faults = c.self.inside.faults } in
    cells_of-changed c.args.self.now new (Write c.args.at c.args.pieces.now) (rw (← c.self.view_is, c.in-Ok.ensures.ok) refl)

pub returns-clause-time : goal.returns-clause-time
returns-clause-time c =
    let new : DiskRecord = record { first = c.self.inside.first.items; changes = changes_of c.keep_write.new.entries.items; faults = c.self.inside.faults } in
    Elapses-changed c.args.self.now new (Write c.args.at c.args.pieces.now) (IsImage (written c.args.at c.args.pieces.now (cells_of c.args.self.now)))
    (rw (← c.self.view_is, c.in-Ok.ensures.ok) refl) (λ image is. is)

pub returns-clause-sectors : goal.returns-clause-sectors
returns-clause-sectors c =
    let new : DiskRecord = record { first = c.self.inside.first.items; changes = changes_of c.keep_write.new.entries.items; faults = c.self.inside.faults } in
    length-written_changed c.args.self.now new c.args.at c.args.pieces.now (rw (← c.self.view_is, c.in-Ok.ensures.ok) refl)
