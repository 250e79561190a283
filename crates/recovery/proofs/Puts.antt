-- Images that are written home one by one.
use Rattle.std.proofs.Common.{◌≡◌, ◌⊎◌, ℕ, zero, suc, ◌+◌, ◌<◌, List, [], ◌∷◌, Some, length, set, get_or, refl, sym, ap, subst, inl, inr, ◌∙◌, arith}
use Rattle.std.specs.List.{All}
use Rattle.std.proofs.lemmas.List.Elements.{All-head, All-tail}
use Rattle.life_bytes.specs.declared.sector.Sector.{Sector}
use Rattle.disk_model.specs.Disk.{Arming, after_write, after_writes, Cell, HasOneImage, IsImage, as_read, written}
use Rattle.disk_model.specs.DiskLaws.{after_writes-sum, IsTorn, IsTorn-from_image, IsImage-one, length-torn}
use Rattle.log_record.specs.declared.image.Image.{Image}
use Rattle.log_image.specs.Overlay.{newest, overlaid}
use Rattle.log_batch.specs.Put.{KeysRise}
use Rattle.log_batch.specs.NewestLaws.{newest_first, newest_rest}
use Rattle.recovery.specs.Homes.{images_in}
use Rattle.recovery.specs.Put.{IsPartlyPut}

-- ---- one sector

-- a write of one sector that was cut short
torn_each : (at : ℕ) (s : Sector) (old new : List Sector) → IsTorn at (s ∷ []) old new → (k : ℕ) (d : Sector)
    → (get_or new k d ≡ get_or old k d) ⊎ ((k ≡ at) × (get_or new k d ≡ s))
torn_each at s [] new torn k d = inl (ap (λ (l : List Sector). get_or l k d) torn)
torn_each zero s (o ∷ old) [] torn k d = absurd torn
torn_each (suc at) s (o ∷ old) [] torn k d = absurd torn
torn_each zero s (o ∷ old) (n ∷ new) torn zero d = elim torn.0 [ inl same ↦ inl same | inr put ↦ inr (refl, put) ]
torn_each zero s (o ∷ old) (n ∷ new) torn (suc k) d = inl (ap (λ (l : List Sector). get_or l k d) torn.1)
torn_each (suc at) s (o ∷ old) (n ∷ new) torn zero d = inl torn.0
torn_each (suc at) s (o ∷ old) (n ∷ new) torn (suc k) d = elim (torn_each at s old new torn.1 k d) [
  | inl same ↦ inl same
  | inr put ↦ inr (ap suc put.0, put.1)
]

-- what reads give after a write of one sector
pub as_read_put : (at : ℕ) (s : Sector) (cells : List Cell) → as_read (written at (s ∷ []) cells) ≡ set (as_read cells) at s
as_read_put at s [] = refl
as_read_put zero s (cell ∷ cells) = refl
as_read_put (suc at) s (cell ∷ cells) = ap (λ (l : List Sector). cell.reads ∷ l) (as_read_put at s cells)

-- ---- images that are partly put

pub put_none : (images : List Image) (base : List Sector) → IsPartlyPut images base base
put_none images base = record { size = refl; each = λ at d. inl refl }

put_step : (images : List Image) (base old new : List Sector) (home : ℕ) (sector : Sector) → IsPartlyPut images base old
    → newest home images ≡ Some sector → IsTorn home (sector ∷ []) old new → IsPartlyPut images base new
put_step images base old new home sector is one torn = record {
  size = length-torn home (sector ∷ []) old new torn ∙ is.size;
  each = λ at d. elim (torn_each home sector old new torn at d) [
    | inl same ↦ elim (is.each at d) [
      | inl kept ↦ inl (same ∙ kept)
      | inr put ↦ inr (put ∙ ap (λ (s : Sector). Some s) (sym same))
    ]
    | inr put ↦ inr (ap (λ (k : ℕ). newest k images) put.0 ∙ one ∙ ap (λ (s : Sector). Some s) (sym put.1))
  ];
}

-- each image of a disk over which one more was written
pub put_more : (images : List Image) (base : List Sector) (cells : List Cell) (home : ℕ) (sector : Sector)
    → ((image : List Sector) → IsImage cells image → IsPartlyPut images base image) → newest home images ≡ Some sector
    → (image : List Sector) → IsImage (written home (sector ∷ []) cells) image → IsPartlyPut images base image
put_more images base cells home sector each one image is =
    let torn = IsTorn-from_image home (sector ∷ []) cells image is in
    put_step images base torn.0 image home sector (each torn.0 torn.1) one torn.2

-- at first there is one image
pub put_first : (images : List Image) (cells : List Cell) → HasOneImage cells → (image : List Sector) → IsImage cells image
    → IsPartlyPut images (as_read cells) image
put_first images cells one image is =
    subst (λ (l : List Sector). IsPartlyPut images (as_read cells) l) (sym (IsImage-one cells image one is)) (put_none images (as_read cells))

-- ---- the entries that are left

-- each is the image of its home, of a sector below a number
abbrev pub AreLeft : List Image → ℕ → List (ℕ × Sector) → Type 0
AreLeft images limit [] = Unit {0}
AreLeft images limit (entry ∷ entries) = (newest entry.0 images ≡ Some entry.1) × (entry.0 < limit) × AreLeft images limit entries

left_behind : (low limit : ℕ) (x : Image) (xs : List Image) (entries : List (ℕ × Sector)) → AreLeft xs limit entries → KeysRise (λ i. i.home) low (images_in entries)
    → x.home < low → AreLeft (x ∷ xs) limit entries
left_behind low limit x xs [] left rise below = tt
left_behind low limit x xs (entry ∷ entries) left rise below = (
  newest_rest entry.0 x xs (omega (arith, rise.0)) ∙ left.0,
  left.1,
  left_behind (entry.0 + 1) limit x xs entries left.2 rise.1 (omega (arith, rise.0)),
)

pub left_all : (low limit : ℕ) (entries : List (ℕ × Sector)) → KeysRise (λ i. i.home) low (images_in entries)
    → All (λ image. image.home < limit) (images_in entries) → AreLeft (images_in entries) limit entries
left_all low limit [] rise all = tt
left_all low limit (entry ∷ entries) rise all =
    let x : Image = record { home = entry.0; sector = entry.1 } in
    let rest = left_all (entry.0 + 1) limit entries rise.1 (All-tail (λ (i : Image). i.home < limit) x (images_in entries) all) in (
      newest_first low x (images_in entries) rise,
      All-head (λ (i : Image). i.home < limit) x (images_in entries) all,
      left_behind (entry.0 + 1) limit x (images_in entries) entries rest rise.1 (omega arith),
    )

pub length_in : (entries : List (ℕ × Sector)) → length (images_in entries) ≡ length entries
length_in [] = refl
length_in (entry ∷ entries) = ap suc (length_in entries)

-- ---- sectors with the images over them

pub overlaid-nil : (sectors : List Sector) → overlaid sectors [] ≡ sectors
unfolding overlaid
overlaid-nil sectors = refl

pub overlaid-cons : (sectors : List Sector) (image : Image) (images : List Image) → overlaid sectors (image ∷ images) ≡ overlaid (set sectors image.home image.sector) images
unfolding overlaid
overlaid-cons sectors image images = refl

-- ---- writes that were made

-- one more write after some
pub one_more_write : (made : ℕ) (first second third : Arming) → second ≡ after_writes made first → third ≡ after_write second → third ≡ after_writes (made + 1) first
one_more_write made first second third some one = one ∙ ap after_write some ∙ sym (after_writes-sum made 1 first)

-- and some more after some
pub both_writes : (made more : ℕ) (first second third : Arming) → second ≡ after_writes made first → third ≡ after_writes more second → third ≡ after_writes (made + more) first
both_writes made more first second third some rest = rest ∙ ap (after_writes more) some ∙ sym (after_writes-sum made more first)
