use Rattle.std.proofs.Common.{sym}
use Rattle.disk_model.specs.DiskLaws.{as_read-settled_as}
use Rattle.disk_model.proofs.memory_disk.MemoryDisk.with.Goals as goal

pub invariant_of-result : goal.invariant_of-result
invariant_of-result c = rw (c.new.ensures.items, c.in_ok-from_slice.ensures.items, c.deref.ensures.value) (sym (as_read-settled_as c.args.sectors.items))
