-- What a call over a disk leaves that does nothing but read.
use Rattle.std.specs.Prelude.{◌≡◌, ℕ, Bool, IsTrue, List, refl}
use Rattle.std.proofs.Common.{◌∙◌, subst, arith}
use Rattle.life_bytes.specs.declared.sector.Sector.{Sector}
use Rattle.life_ports.specs.Faults.{NeverFalls}
use Rattle.disk_model.specs.Disk.{Cell, IsImage, Elapses, Arming}
use Rattle.disk_model.specs.DiskLaws.{Elapses-none, Elapses-both}

-- Between two states of a disk there were only reads: it holds the same, nothing else is armed, and what a stop may have left
-- since any moment, it might have left before, or it is an image of what the disk holds. Its count of faults may have risen.
pub record OnlyRead {D : Type 0} (known : Bool) (cells : D → List Cell) (sector_count fault_count : D → ℕ) (arming : D → Arming)
    (moment : D → ℕ) (left : D → ℕ → List Sector → Type 0) (old new : D) : Type 0 where
  pub cells_stay : cells new ≡ cells old
  pub sectors : sector_count new ≡ sector_count old
  pub armed : arming new ≡ arming old
  pub count : NeverFalls (fault_count old) (fault_count new)
  pub time : IsTrue known → Elapses (moment old) (moment new) (left old) (left new) (IsImage (cells old))

-- ---- no read, and more reads

pub OnlyRead-none : {D : Type 0} (known : Bool) (cells : D → List Cell) (sector_count fault_count : D → ℕ) (arming : D → Arming)
    (moment : D → ℕ) (left : D → ℕ → List Sector → Type 0) (disk : D) → OnlyRead known cells sector_count fault_count arming moment left disk disk
OnlyRead-none known cells sector_count fault_count arming moment left disk = record {
  cells_stay = refl;
  sectors = refl;
  armed = refl;
  count = omega arith;
  time = λ tells. Elapses-none (moment disk) (left disk) (IsImage (cells disk));
}

pub OnlyRead-both : {D : Type 0} (known : Bool) (cells : D → List Cell) (sector_count fault_count : D → ℕ) (arming : D → Arming)
    (moment : D → ℕ) (left : D → ℕ → List Sector → Type 0) (first second third : D)
    → OnlyRead known cells sector_count fault_count arming moment left first second → OnlyRead known cells sector_count fault_count arming moment left second third
    → OnlyRead known cells sector_count fault_count arming moment left first third
OnlyRead-both known cells sector_count fault_count arming moment left first second third a b = record {
  cells_stay = b.cells_stay ∙ a.cells_stay;
  sectors = b.sectors ∙ a.sectors;
  armed = b.armed ∙ a.armed;
  count = omega (arith, a.count, b.count);
  time = λ tells.
      let P : List Cell → Type 0 = λ c. Elapses (moment second) (moment third) (left second) (left third) (IsImage c) in
      Elapses-both (moment first) (moment second) (moment third) (left first) (left second) (left third) (IsImage (cells first)) (a.time tells) (subst P a.cells_stay (b.time tells));
}
