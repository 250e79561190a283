-- What the jobs that bring a store's commits home answer.
use Rattle.std.proofs.Common.{◌≡◌, ℕ, ◌≤◌, List, [], length, drop, ap, subst, arith}
use Rattle.std.specs.Prelude.{Result, OnOk}
use Rattle.life_bytes.specs.declared.sector.Sector.{Sector}
use Rattle.disk_model.specs.Disk.{Cell, IsImage}
use Rattle.log_store.specs.OnDisk.{HasCover}
use Rattle.std.proofs.lemmas.List.{length-drop}
use Rattle.life_ports.specs.Faults.{Rose}
use Rattle.log_record.specs.declared.image.Commit.{Commit}

pub rose_later : (a b d : ℕ) → a ≤ b → Rose b d → Rose a d
rose_later a b d le rose = omega arith

-- all of a list became durable
pub all_durable : (count : ℕ) (old new : List Commit) → count ≤ length old → new ≡ drop count old → new ≡ [] → count ≡ length old
all_durable count old new within is none = omega (arith, within, length-drop count old, ap length is, ap length none)

-- a cover that is told of the store in between
pub cover_of : {T E : Type 0} (r : Result T E) (cells : List Cell) (anchor ring next here size number : ℕ) → here ≡ anchor → size ≡ ring → number ≡ next
    → OnOk r ((image : List Sector) → IsImage cells image → (position : ℕ) × HasCover here size position number image)
    → OnOk r ((image : List Sector) → IsImage cells image → (position : ℕ) × HasCover anchor ring position next image)
cover_of r cells anchor ring next here size number at of is has =
    subst (λ (n : ℕ). OnOk r ((image : List Sector) → IsImage cells image → (position : ℕ) × HasCover anchor ring position n image)) is
    (subst (λ (n : ℕ). OnOk r ((image : List Sector) → IsImage cells image → (position : ℕ) × HasCover anchor n position number image)) of
    (subst (λ (n : ℕ). OnOk r ((image : List Sector) → IsImage cells image → (position : ℕ) × HasCover n size position number image)) at has))
