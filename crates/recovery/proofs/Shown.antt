-- Reads of sectors with images over them.
use Rattle.std.proofs.Common.{◌≡◌, ℕ, ◌<◌, List, Option, Some, None, length, slice_get, get_or, ap, ◌∙◌, arith}
use Rattle.std.specs.Prelude.{Result, Ok, Err, OnOk, unwrap_or}
use Rattle.std.proofs.lemmas.Option.{slice_get-get_or, slice_get_within, get_or_from_slice_get}
use Rattle.life_bytes.specs.declared.sector.Sector.{Sector}
use Rattle.log_record.specs.declared.image.Image.{Image}
use Rattle.log_image.specs.Overlay.{newest, overlaid}
use Rattle.log_image.specs.OverlayLaws.{get_or-overlaid, length-overlaid}

-- a sector that has an image
pub overlaid_some : (sectors : List Sector) (images : List Image) (at : ℕ) (s : Sector) → at < length sectors → newest at images ≡ Some s
    → slice_get (overlaid sectors images) at ≡ Some s
overlaid_some sectors images at s within is =
    let size = length-overlaid sectors images in
    slice_get-get_or (overlaid sectors images) at s (omega arith)
    ∙ ap (λ (x : Sector). Some x) (get_or-overlaid sectors images at s within ∙ ap (λ (o : Option Sector). unwrap_or o (get_or sectors at s)) is)

-- and one that has none
pub overlaid_other : {E : Type 0} (sectors : List Sector) (images : List Image) (at : ℕ) (s : Sector) (r : Result (Unit {0}) E) → newest at images ≡ None
    → OnOk r (slice_get sectors at ≡ Some s) → OnOk r (slice_get (overlaid sectors images) at ≡ Some s)
overlaid_other sectors images at s (Err e) none is = tt
overlaid_other sectors images at s (Ok u) none is =
    let within : at < length sectors = slice_get_within sectors at s is in
    let size = length-overlaid sectors images in
    slice_get-get_or (overlaid sectors images) at s (omega arith)
    ∙ ap (λ (x : Sector). Some x) (get_or-overlaid sectors images at s within ∙ ap (λ (o : Option Sector). unwrap_or o (get_or sectors at s)) none
    ∙ get_or_from_slice_get sectors at s s is)
