-- A mount that was refused before it began.
use Rattle.std.proofs.Common.{◌≡◌, ◌⊎◌, ◌+◌, ℕ, List, [], ◌∷◌, Option, None, Some, Result, Err, inl, inr, refl, ap, sym, subst, ◌∙◌}
use Rattle.life_bytes.specs.declared.sector.Sector.{Sector}
use Rattle.disk_model.specs.Disk.{Cell, IsImage, as_read, flushed}
use Rattle.disk_model.specs.DiskLaws.{IsImage-as_read, IsImage-flushed}
use Rattle.life_table.specs.declared.table.Table.{Table}
use Rattle.whole_image.specs.Represents.{Represents}
use Rattle.mount.specs.Left.{IsHandedBack}
use Rattle.mount.specs.Same.{AllSame, RepresentSame}
use Rattle.mount.specs.declared.fault.MountFault.{MountFault}
use Rattle.mount.specs.declared.fault.MountFault.TheVariants.{Damaged, ReadFault, WriteFault, FlushFault, PositionEnd, NoMemory}
use Rattle.mount.specs.declared.recovering.Recovery.{Recovery}
use Rattle.run_history.specs.Mounts.{MountStory, table_after}
use Rattle.run_history.specs.CrashSafe.{CrashSafe, IsLeftSafe, last_mount}
use Rattle.mounts_in_runs.proofs.Behind.{OneTable}

safe_same : OneTable → (first : Table) (number : ℕ) (last : Option MountStory) (old image : List Sector) → IsLeftSafe first number last old → RepresentSame old image
    → IsLeftSafe first number last image
safe_same one first number None old image safe same =
    let t : Table = same.0 in
    let c : ℕ = same.1 in
    let e = one old t first c number same.2 safe in
    subst (λ (u : Table). Represents image u number) e.0 (subst (Represents image t) e.1 same.3)
safe_same one first number (Some m) old image safe same =
    let t : Table = same.0 in
    let c : ℕ = same.1 in
    let n : ℕ = safe.0 in
    let left = safe.1 in
    let e = one old t (table_after m n) c (m.story.base + n) same.2 left.represents in (
      n,
      record {
        acknowledged = left.acknowledged;
        made = left.made;
        represents = subst (λ (u : Table). Represents image u (m.story.base + n)) e.0 (subst (Represents image t) e.1 same.3);
      },
    )

same_all : OneTable → (first : Table) (number : ℕ) (past : List MountStory) (old new : List Cell) → CrashSafe first number past old → AllSame old new → CrashSafe first number past new
same_all one first number past old new safe all = λ image is.
    safe_same one first number (last_mount past) (as_read old) image (safe (as_read old) (IsImage-as_read old)) (all image is)

same_cells : (first : Table) (number : ℕ) (past : List MountStory) (old new : List Cell) → CrashSafe first number past old → new ≡ old → CrashSafe first number past new
same_cells first number past old new safe same = subst (CrashSafe first number past) (sym same) safe

settled_cells : (first : Table) (number : ℕ) (past : List MountStory) (old new : List Cell) → CrashSafe first number past old → new ≡ flushed old → CrashSafe first number past new
settled_cells first number past old new safe same =
    let kept : CrashSafe first number past (flushed old) =
    λ image is. subst (IsLeftSafe first number (last_mount past)) (sym (IsImage-flushed old image is)) (safe (as_read old) (IsImage-as_read old)) in
    subst (CrashSafe first number past) (sym same) kept

pub unbegun : OneTable → (first : Table) (number : ℕ) (past : List MountStory) (fault : MountFault) (old new : List Cell) → CrashSafe first number past old
    → IsHandedBack {T = Recovery} (Err fault) old new → CrashSafe first number past new
unbegun one first number past (Damaged rule sector) old new safe back = same_cells first number past old new safe back
unbegun one first number past ReadFault old new safe back = same_cells first number past old new safe back
unbegun one first number past NoMemory old new safe back = same_cells first number past old new safe back
unbegun one first number past PositionEnd old new safe back = settled_cells first number past old new safe back
unbegun one first number past WriteFault old new safe back = same_all one first number past old new safe back
unbegun one first number past FlushFault old new safe back =
    elim back [
      | inl same ↦ same_cells first number past old new safe same
      | inr all ↦ same_all one first number past old new safe all
    ]
