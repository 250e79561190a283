use Rattle.std.proofs.Common.{refl}
use Rattle.disk_model.specs.Disk.{settled_as, IsImage}
use Rattle.disk_model.specs.MemoryDisk.{DiskRecord, cells_of}
use Rattle.disk_model.specs.MemoryDisk.Change.{Flush}
use Rattle.disk_model.specs.MemoryEntry.{changes_of}
use Rattle.disk_model.specs.DiskLaws.{IsImage-before_flush}
use Rattle.disk_model.proofs.Replay.{cells_of-changed, Elapses-changed, length-flushed_changed, reads_after_flush}
use Rattle.disk_model.proofs.memory_disk.MemoryDiskDisk.flush.Goals as goal

pub invariant_of-self : goal.invariant_of-self
invariant_of-self c = reads_after_flush (settled_as c.self.inside.first.items) _ _ _ c.in-Ok.ensures.ok c.self.invariant

pub returns-clause-flushed : goal.returns-clause-flushed
returns-clause-flushed c =
    let new : DiskRecord = record { first = c.self.inside.first.items; changes = changes_of c.keep_flush.new.entries.items; faults = c.self.inside.faults } in
    cells_of-changed c.args.self.now new Flush (rw (← c.self.view_is, c.in-Ok.ensures.ok) refl)

pub returns-clause-time : goal.returns-clause-time
returns-clause-time c =
    let new : DiskRecord = record { first = c.self.inside.first.items; changes = changes_of c.keep_flush.new.entries.items; faults = c.self.inside.faults } in
    Elapses-changed c.args.self.now new Flush (IsImage (cells_of c.args.self.now)) (rw (← c.self.view_is, c.in-Ok.ensures.ok) refl) (IsImage-before_flush (cells_of c.args.self.now))

pub returns-clause-sectors : goal.returns-clause-sectors
returns-clause-sectors c =
    let new : DiskRecord = record { first = c.self.inside.first.items; changes = changes_of c.keep_flush.new.entries.items; faults = c.self.inside.faults } in
    length-flushed_changed c.args.self.now new (rw (← c.self.view_is, c.in-Ok.ensures.ok) refl)
