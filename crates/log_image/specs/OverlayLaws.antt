-- Laws of sectors with images over them.
use Rattle.std.specs.Prelude.{ℕ, ◌≡◌, ◌<◌, List, [], ◌∷◌, ◌++◌, zero, suc, length, take, Option, None, Some, ◌==◌, if◌then◌else◌, unwrap_or, slice_index_or, slice_set}
use Rattle.std.specs.Option.{option_or}
use Rattle.std.proofs.Common.{arith, refl, sym, ap, inl, inr, ◌∙◌, get_or-set_same, get_or-set_other, length-set}
use Rattle.std.proofs.lemmas.Bool.{cases_eq, eq-eqb, ne_eqb, cond-true, cond-false}
use Rattle.std.proofs.lemmas.List.{same_lists}
use Rattle.life_bytes.specs.declared.sector.Sector.{Sector}
use Rattle.log_record.specs.declared.image.Image.{Image}
use Rattle.log_image.specs.Overlay.{overlaid, newest}

pub length-overlaid : (sectors : List Sector) (images : List Image) → length (overlaid sectors images) ≡ length sectors
unfolding overlaid
length-overlaid sectors [] = refl
length-overlaid sectors (image ∷ images) =
    length-overlaid (slice_set sectors image.home image.sector) images ∙ length-set sectors image.home image.sector

pub overlaid-none : (sectors : List Sector) → overlaid sectors [] ≡ sectors
unfolding overlaid
overlaid-none sectors = refl

pub overlaid-append : (sectors : List Sector) (xs ys : List Image) → overlaid sectors (xs ++ ys) ≡ overlaid (overlaid sectors xs) ys
unfolding overlaid
overlaid-append sectors [] ys = refl
overlaid-append sectors (image ∷ xs) ys = overlaid-append (slice_set sectors image.home image.sector) xs ys

-- what one image has for a home
abbrev one_newest : ℕ → Image → Option Sector
one_newest home image = if image.home == home then Some image.sector else None

get_or-one : (sectors : List Sector) (image : Image) (at : ℕ) (d : Sector) → at < length sectors
    → slice_index_or (slice_set sectors image.home image.sector) at d ≡ unwrap_or (one_newest at image) (slice_index_or sectors at d)
get_or-one sectors image at d within = elim (cases_eq image.home at) [
  | inl same ↦
      let put : slice_index_or (slice_set sectors image.home image.sector) image.home d ≡ image.sector = get_or-set_same sectors image.home image.sector d (omega arith) in
      ap (λ (k : ℕ). slice_index_or (slice_set sectors image.home image.sector) k d) (sym same) ∙ put
      ∙ ap (λ (o : Option Sector). unwrap_or o (slice_index_or sectors at d)) (sym (cond-true (image.home == at) (Some image.sector) None (eq-eqb image.home at same)))
  | inr other ↦
      get_or-set_other sectors image.home at image.sector d (λ e. other (sym e))
      ∙ ap (λ (o : Option Sector). unwrap_or o (slice_index_or sectors at d)) (sym (cond-false (image.home == at) (Some image.sector) None (ne_eqb image.home at other)))
]

unwrap-or : (a b : Option Sector) (d : Sector) → unwrap_or a (unwrap_or b d) ≡ unwrap_or (option_or a b) d
unwrap-or None b d = refl
unwrap-or (Some x) b d = refl

pub get_or-overlaid : (sectors : List Sector) (images : List Image) (at : ℕ) (d : Sector) → at < length sectors
    → slice_index_or (overlaid sectors images) at d ≡ unwrap_or (newest at images) (slice_index_or sectors at d)
unfolding overlaid newest
get_or-overlaid sectors [] at d within = refl
get_or-overlaid sectors (image ∷ images) at d within =
    let over = slice_set sectors image.home image.sector in
    let inside : at < length over = omega (arith, length-set sectors image.home image.sector) in
    get_or-overlaid over images at d inside
    ∙ ap (λ (s : Sector). unwrap_or (newest at images) s) (get_or-one sectors image at d within)
    ∙ unwrap-or (newest at images) (one_newest at image) (slice_index_or sectors at d)

pub newest-none : (home : ℕ) → newest home [] ≡ None
unfolding newest
newest-none home = refl

or-assoc : (a b c : Option Sector) → option_or (option_or a b) c ≡ option_or a (option_or b c)
or-assoc None b c = refl
or-assoc (Some x) b c = refl

or-none : (a : Option Sector) → a ≡ option_or a None
or-none None = refl
or-none (Some x) = refl

pub newest-append : (home : ℕ) (xs ys : List Image) → newest home (xs ++ ys) ≡ option_or (newest home ys) (newest home xs)
unfolding newest
newest-append home [] ys = or-none (newest home ys)
newest-append home (image ∷ xs) ys =
    ap (λ (o : Option Sector). option_or o (one_newest home image)) (newest-append home xs ys)
    ∙ or-assoc (newest home ys) (newest home xs) (one_newest home image)

-- only the newest image of each home counts
pub overlaid-newest : (sectors : List Sector) (xs ys : List Image) → ((home : ℕ) → newest home xs ≡ newest home ys) → overlaid sectors xs ≡ overlaid sectors ys
overlaid-newest sectors xs ys same =
    let size_x = length-overlaid sectors xs in
    let size_y = length-overlaid sectors ys in
    same_lists (overlaid sectors xs) (overlaid sectors ys) (omega (arith, size_x, size_y))
    (λ k d within.
    let inside : k < length sectors = omega (arith, size_x) in
    get_or-overlaid sectors xs k d inside ∙ ap (λ (o : Option Sector). unwrap_or o (slice_index_or sectors k d)) (same k)
    ∙ sym (get_or-overlaid sectors ys k d inside))

take-put : (count : ℕ) (sectors : List Sector) (at : ℕ) (piece : Sector) → take count (slice_set sectors at piece) ≡ slice_set (take count sectors) at piece
take-put zero sectors at piece = refl
take-put (suc count) [] at piece = refl
take-put (suc count) (sector ∷ sectors) zero piece = refl
take-put (suc count) (sector ∷ sectors) (suc at) piece = ap (λ (l : List Sector). sector ∷ l) (take-put count sectors at piece)

-- the first sectors with images over them are the first of the sectors with these images over them
pub take-overlaid : (count : ℕ) (sectors : List Sector) (images : List Image) → take count (overlaid sectors images) ≡ overlaid (take count sectors) images
unfolding overlaid
take-overlaid count sectors [] = refl
take-overlaid count sectors (image ∷ images) =
    take-overlaid count (slice_set sectors image.home image.sector) images
    ∙ ap (λ (l : List Sector). overlaid l images) (take-put count sectors image.home image.sector)
