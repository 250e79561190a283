-- What several calls of a disk leave, one after the other.
use Rattle.std.proofs.Common.{◌≡◌, ℕ, Bool, List, refl, ap, subst, ◌∙◌}
use Rattle.std.specs.Prelude.{⊤, IsTrue, Result, Ok, Err, OnOk, OnErr}
use Rattle.life_bytes.specs.declared.sector.Sector.{Sector}
use Rattle.disk_model.specs.Disk.{Arming, CallKind, Cell, Elapses, FailsAs, IsImage, IsPartlyWritten, after_write, flushed, written}
use Rattle.disk_model.specs.Disk.CallKind.{FlushCall, WriteCall}
use Rattle.disk_model.specs.DiskLaws.{Elapses-both, Elapses-none, Elapses-weaker, IsAfterWrites-both, IsAfterWrites-none, IsImage-before_flush, IsImage-partly_written}
use Rattle.image_make.specs.declared.fault.MakeFault.{MakeFault}
use Rattle.image_make.specs.declared.fault.MakeFault.TheVariants.{FlushFault, WriteFault}
use Rattle.image_make.specs.Outcome.{FailedOnly, LeavesOnly}

pub leaves_none : {D : Type 0} (known : Bool) (cells : D → List Cell) (sector_count moment : D → ℕ) (arming : D → Arming) (left : D → ℕ → List Sector → Type 0) (P : List Sector → Type 0)
    (disk : D) → (IsTrue known → (image : List Sector) → IsImage (cells disk) image → P image) → LeavesOnly known cells sector_count moment arming left P disk disk
leaves_none known cells sector_count moment arming left P disk has = record {
  images = has;
  moments = λ tells. Elapses-none (moment disk) (left disk) P;
  sectors = refl;
  armed = IsAfterWrites-none (arming disk);
}

pub leaves_both : {D : Type 0} (known : Bool) (cells : D → List Cell) (sector_count moment : D → ℕ) (arming : D → Arming) (left : D → ℕ → List Sector → Type 0) (P : List Sector → Type 0)
    (a b d : D) → LeavesOnly known cells sector_count moment arming left P a b → LeavesOnly known cells sector_count moment arming left P b d
    → LeavesOnly known cells sector_count moment arming left P a d
leaves_both known cells sector_count moment arming left P a b d first second = record {
  images = second.images;
  moments = λ tells. Elapses-both (moment a) (moment b) (moment d) (left a) (left b) (left d) P (first.moments tells) (second.moments tells);
  sectors = second.sectors ∙ first.sectors;
  armed = IsAfterWrites-both (arming a) (arming b) (arming d) first.armed second.armed;
}

pub leaves_weaker : {D : Type 0} (known : Bool) (cells : D → List Cell) (sector_count moment : D → ℕ) (arming : D → Arming) (left : D → ℕ → List Sector → Type 0) (P Q : List Sector → Type 0)
    (a b : D) → ((image : List Sector) → P image → Q image) → LeavesOnly known cells sector_count moment arming left P a b → LeavesOnly known cells sector_count moment arming left Q a b
leaves_weaker known cells sector_count moment arming left P Q a b has first = record {
  images = λ tells image is. has image (first.images tells image is);
  moments = λ tells. Elapses-weaker (moment a) (moment b) (left a) (left b) P Q has (first.moments tells);
  sectors = first.sectors;
  armed = first.armed;
}

after_attempt : {T E : Type 0} (result : Result T E) (at : ℕ) (pieces : List Sector) (old new : List Cell) (image : List Sector) → OnOk result (new ≡ written at pieces old)
    → OnErr result (IsPartlyWritten at pieces old new) → IsImage new image → IsImage (written at pieces old) image
after_attempt (Ok x) at pieces old new image ok err is = subst (λ (c : List Cell). IsImage c image) ok is
after_attempt (Err e) at pieces old new image ok err is = IsImage-partly_written at pieces old new image err is

-- a write
pub leaves_write : {D T E : Type 0} (known : Bool) (cells : D → List Cell) (sector_count moment : D → ℕ) (arming : D → Arming) (left : D → ℕ → List Sector → Type 0) (P : List Sector → Type 0)
    (a b : D) (result : Result T E) (at : ℕ) (pieces : List Sector)
    → (IsTrue known → OnOk result (cells b ≡ written at pieces (cells a)))
    → (IsTrue known → OnErr result (IsPartlyWritten at pieces (cells a) (cells b)))
    → (IsTrue known → Elapses (moment a) (moment b) (left a) (left b) (IsImage (written at pieces (cells a))))
    → sector_count b ≡ sector_count a → arming b ≡ after_write (arming a)
    → (IsTrue known → (image : List Sector) → IsImage (written at pieces (cells a)) image → P image)
    → LeavesOnly known cells sector_count moment arming left P a b
leaves_write known cells sector_count moment arming left P a b result at pieces ok err time sectors armed has = record {
  images = λ tells image is. has tells image (after_attempt result at pieces (cells a) (cells b) image (ok tells) (err tells) is);
  moments = λ tells. Elapses-weaker (moment a) (moment b) (left a) (left b) (IsImage (written at pieces (cells a))) P (has tells) (time tells);
  sectors = sectors;
  armed = (1, armed);
}

after_flush : {T E : Type 0} (result : Result T E) (old new : List Cell) (image : List Sector) → OnOk result (new ≡ flushed old) → OnErr result (new ≡ old) → IsImage new image → IsImage old image
after_flush (Ok x) old new image ok err is = IsImage-before_flush old image (subst (λ (c : List Cell). IsImage c image) ok is)
after_flush (Err e) old new image ok err is = subst (λ (c : List Cell). IsImage c image) err is

-- a flush
pub leaves_flush : {D T E : Type 0} (known : Bool) (cells : D → List Cell) (sector_count moment : D → ℕ) (arming : D → Arming) (left : D → ℕ → List Sector → Type 0) (P : List Sector → Type 0)
    (a b : D) (result : Result T E)
    → (IsTrue known → OnOk result (cells b ≡ flushed (cells a)))
    → OnErr result (cells b ≡ cells a)
    → (IsTrue known → Elapses (moment a) (moment b) (left a) (left b) (IsImage (cells a)))
    → sector_count b ≡ sector_count a → arming b ≡ arming a
    → (IsTrue known → (image : List Sector) → IsImage (cells a) image → P image)
    → LeavesOnly known cells sector_count moment arming left P a b
leaves_flush known cells sector_count moment arming left P a b result ok err time sectors armed has = record {
  images = λ tells image is. has tells image (after_flush result (cells a) (cells b) image (ok tells) err is);
  moments = λ tells. Elapses-weaker (moment a) (moment b) (left a) (left b) (IsImage (cells a)) P (has tells) (time tells);
  sectors = sectors;
  armed = (0, armed);
}

-- ---- which calls failed

-- what holds of the last calls holds of all
pub fails_from : {T E : Type 0} (kind : CallKind) (result : Result T E) (P Q : CallKind → Type 0) → ((other : CallKind) → P other → Q other) → FailsAs kind result P
    → FailsAs kind result Q
fails_from kind (Ok x) P Q longer failed = λ other. longer other (failed other)
fails_from kind (Err e) P Q longer failed = longer kind failed

pub failed_from : (result : Result ⊤ MakeFault) (P Q : CallKind → Type 0) → ((kind : CallKind) → P kind → Q kind) → FailedOnly result P → FailedOnly result Q
failed_from (Ok x) P Q longer failed = λ kind. longer kind (failed kind)
failed_from (Err WriteFault) P Q longer failed = longer WriteCall failed
failed_from (Err FlushFault) P Q longer failed = longer FlushCall failed
