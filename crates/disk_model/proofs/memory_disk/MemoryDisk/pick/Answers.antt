use Rattle.std.proofs.Common.{◌≡◌, length, arith, sym, ap, ◌∙◌}
use Rattle.disk_model.specs.Disk.{settled_as}
use Rattle.disk_model.specs.DiskLaws.{length-as_read, length-settled_as, as_read-settled_as, HasOneImage-settled_as}
use Rattle.disk_model.specs.MemoryDisk.{after_changes}
use Rattle.disk_model.specs.MemoryEntry.{changes_of}
use Rattle.disk_model.proofs.Picked.{IsImage-picked, length-replayed, refilled}
use Rattle.disk_model.proofs.memory_disk.MemoryDisk.pick.Goals as goal

pub copy_from_slice-requires : goal.copy_from_slice-requires
copy_from_slice-requires c =
    let cells = settled_as c.self.inside.first.items in
    let changes = changes_of c.self.inside.entries.items in
    omega (arith, c.self.inside.sectors.ok.0, c.self.inside.first.ok.0, c.deref-2.ensures.len, ap length c.self.invariant, length-as_read (after_changes cells changes), length-replayed cells changes, length-settled_as c.self.inside.first.items)

pub invariant_of-self : goal.invariant_of-self
invariant_of-self c = rw (c.copy_from_slice.ensures.items, c.deref-2.ensures.value, c.clear.ensures.items) (sym (as_read-settled_as _))

pub returns-clause-was_left : goal.returns-clause-was_left
returns-clause-was_left c =
    let same_length : length c.settle.new.first ≡ length c.self.inside.first.items = c.settle.auto.first ∙ ap length c.deref_mut.ensures.value in
    let held = refilled c.self.inside.first.len c.self.inside.first.items c.settle.new.first c.self.inside.first.ok.0 same_length in
    rw (c.clear.ensures.items, as_read-settled_as, held, c.settle.ensures, c.deref_mut.ensures.value, c.deref.ensures.value, ← c.self.view_is)
    (IsImage-picked c.args.choice _)

pub returns-clause-one_image : goal.returns-clause-one_image
returns-clause-one_image c = rw c.clear.ensures.items (HasOneImage-settled_as _)
