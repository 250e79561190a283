-- The moments of a disk in memory.
use Rattle.std.specs.Prelude.{◌≤◌, ℕ, List, length}
use Rattle.std.proofs.Common.{sym, subst, arith}
use Rattle.std.proofs.lemmas.List.{take_all}
use Rattle.life_bytes.specs.declared.sector.Sector.{Sector}
use Rattle.disk_model.specs.Disk.{IsImage, settled_as}
use Rattle.disk_model.specs.MemoryDisk.{Change, DiskRecord, after_changes, cells_of, left_from}

-- this moment is one of those since an earlier one
pub left_now : (disk : DiskRecord) (since : ℕ) (image : List Sector) → since ≤ length disk.changes → IsImage (cells_of disk) image → left_from disk since image
left_now disk since image earlier is =
    let P : List Change → Type 0 = λ changes. IsImage (after_changes (settled_as disk.first) changes) image in
    (length disk.changes, earlier, omega arith, subst P (sym (take_all (length disk.changes) disk.changes (omega arith))) is)

-- since this moment there is no other
pub only_left : (disk : DiskRecord) (image : List Sector) → left_from disk (length disk.changes) image → IsImage (cells_of disk) image
only_left disk image (k, later, within, is) =
    let P : List Change → Type 0 = λ changes. IsImage (after_changes (settled_as disk.first) changes) image in
    subst P (take_all k disk.changes later) is
