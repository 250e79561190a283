-- What one change more makes of a disk in memory.
use Rattle.std.proofs.Common.{◌≡◌, ◌≤◌, ◌+◌, ℕ, zero, suc, List, [], ◌∷◌, ◌++◌, length, take, drop, refl, sym, ◌∙◌, ap, subst, inl, inr, arith, length-append}
use Rattle.std.proofs.lemmas.List.{take_all, take-append-le}
use Rattle.std.proofs.lemmas.Bool.{cases_lt}
use Rattle.life_bytes.specs.declared.sector.Sector.{Sector}
use Rattle.disk_model.specs.Disk.{Cell, IsImage, as_read, settled_as, IsPartlyWritten, Elapses}
use Rattle.disk_model.specs.DiskLaws.{as_read-flushed, as_read-written, length-flushed, length-written}
use Rattle.disk_model.specs.MemoryDisk.Change.{Write, Flush}
use Rattle.disk_model.specs.MemoryDisk.{Change, DiskRecord, after_change, after_changes, cells_after, cells_of, left_from, with_change}

pub replayed-push : (cells : List Cell) (changes : List Change) (change : Change) → after_changes cells (changes ++ change ∷ []) ≡ after_change (after_changes cells changes) change
replayed-push cells [] change = refl
replayed-push cells (first ∷ changes) change = replayed-push (after_change cells first) changes change

pub cells_of-with_change : (disk : DiskRecord) (change : Change) → cells_of (with_change disk change) ≡ after_change (cells_of disk) change
cells_of-with_change disk change = replayed-push (settled_as disk.first) disk.changes change

left_before : (disk : DiskRecord) (change : Change) (k : ℕ) → k ≤ length disk.changes → cells_after (with_change disk change) k ≡ cells_after disk k
left_before disk change k within = ap (λ changes. after_changes (settled_as disk.first) changes) (take-append-le k disk.changes (change ∷ []) within)

left_after : (disk : DiskRecord) (change : Change) (k : ℕ) → length disk.changes + 1 ≤ k → cells_after (with_change disk change) k ≡ after_change (cells_of disk) change
left_after disk change k past =
    ap (λ changes. after_changes (settled_as disk.first) changes) (take_all k (disk.changes ++ change ∷ []) (omega (arith, length-append disk.changes (change ∷ []))))
    ∙ cells_of-with_change disk change

-- a stop may leave in one change more what it might leave before, and what it may leave after
pub Elapses-change : (disk : DiskRecord) (change : Change) (P : List Sector → Type 0) → ((image : List Sector) → IsImage (after_change (cells_of disk) change) image → P image)
    → Elapses (length disk.changes) (length (disk.changes ++ change ∷ [])) (left_from disk) (left_from (with_change disk change)) P
Elapses-change disk change P in_call = record {
  later = omega (arith, length-append disk.changes (change ∷ []));
  nothing_else = λ moment image le left. elim (cases_lt (length disk.changes) left.0) [
    | inl past ↦ inr (in_call image (subst (λ cells. IsImage cells image) (left_after disk change left.0 (omega arith)) left.3))
    | inr before ↦ inl (left.0, left.1, before, subst (λ cells. IsImage cells image) (left_before disk change left.0 before) left.3)
  ];
  keeps = λ moment image le left.
      (left.0, left.1, omega (arith, left.2, length-append disk.changes (change ∷ [])), subst (λ cells. IsImage cells image) (sym (left_before disk change left.0 left.2)) left.3);
}

-- a write that wrote nothing
pub IsPartlyWritten-none : (at : ℕ) (pieces : List Sector) (cells : List Cell) → IsPartlyWritten at pieces cells cells
IsPartlyWritten-none at [] cells = refl
IsPartlyWritten-none at (piece ∷ pieces) [] = refl
IsPartlyWritten-none zero (piece ∷ pieces) (cell ∷ cells) = (inl refl, IsPartlyWritten-none zero pieces cells)
IsPartlyWritten-none (suc at) (piece ∷ pieces) (cell ∷ cells) = (refl, IsPartlyWritten-none at (piece ∷ pieces) cells)

-- ---- a disk that had one change more

pub cells_of-changed : (old new : DiskRecord) (change : Change) → new ≡ with_change old change → cells_of new ≡ after_change (cells_of old) change
cells_of-changed old new change changed = ap cells_of changed ∙ cells_of-with_change old change

pub Elapses-changed : (old new : DiskRecord) (change : Change) (P : List Sector → Type 0) → new ≡ with_change old change → ((image : List Sector) → IsImage (after_change (cells_of old) change) image → P image)
    → Elapses (length old.changes) (length new.changes) (left_from old) (left_from new) P
Elapses-changed old new change P changed in_call =
    let Goal : DiskRecord → Type 0 = λ disk. Elapses (length old.changes) (length disk.changes) (left_from old) (left_from disk) P in
    subst Goal (sym changed) (Elapses-change old change P in_call)

pub length-flushed_changed : (old new : DiskRecord) → new ≡ with_change old Flush → length (cells_of new) ≡ length (cells_of old)
length-flushed_changed old new changed = ap length (cells_of-changed old new Flush changed) ∙ length-flushed (cells_of old)

pub length-written_changed : (old new : DiskRecord) (at : ℕ) (pieces : List Sector) → new ≡ with_change old (Write at pieces) → length (cells_of new) ≡ length (cells_of old)
length-written_changed old new at pieces changed = ap length (cells_of-changed old new (Write at pieces) changed) ∙ length-written at pieces (cells_of old)

-- ---- what reads give

pub reads_after_flush : (cells : List Cell) (changes next : List Change) (sectors : List Sector) → next ≡ changes ++ Flush ∷ [] → sectors ≡ as_read (after_changes cells changes) → sectors ≡ as_read (after_changes cells next)
reads_after_flush cells changes next sectors pushed reads =
    reads ∙ sym (as_read-flushed (after_changes cells changes)) ∙ sym (ap (λ cs. as_read cs) (ap (λ cs. after_changes cells cs) pushed ∙ replayed-push cells changes Flush))

pub reads_after_write : (cells : List Cell) (changes next : List Change) (at : ℕ) (pieces before after : List Sector) → next ≡ changes ++ Write at pieces ∷ [] → before ≡ as_read (after_changes cells changes)
    → after ≡ take at before ++ pieces ++ drop (at + length pieces) before → at + length pieces ≤ length (after_changes cells changes) → after ≡ as_read (after_changes cells next)
reads_after_write cells changes next at pieces before after pushed reads put within =
    put ∙ ap (λ xs. take at xs ++ pieces ++ drop (at + length pieces) xs) reads ∙ sym (as_read-written at pieces (after_changes cells changes) within)
    ∙ sym (ap (λ cs. as_read cs) (ap (λ cs. after_changes cells cs) pushed ∙ replayed-push cells changes (Write at pieces)))
