-- The first sector of an image, which no record writes.
use Rattle.std.proofs.Common.{◌≡◌, ℕ, zero, suc, ◌<◌, ◌++◌, List, [], ◌∷◌, take, length, get_or, ◌==◌, if◌then◌else◌, Option, None, Some, false, unwrap_or, refl, ap, sym, inl, inr, ◌∙◌, arith}
use Rattle.std.specs.List.{All}
use Rattle.std.specs.Option.{option_or}
use Rattle.std.proofs.lemmas.Bool.{ne_eqb, cond-false}
use Rattle.std.proofs.lemmas.List.Elements.{All-head, All-tail}
use Rattle.life_bytes.specs.declared.sector.Sector.{Sector}
use Rattle.log_record.specs.declared.image.Image.{Image}
use Rattle.log_record.specs.declared.record.LogRecord.{LogRecord}
use Rattle.log_image.specs.Log.{IsGroupImage, IsLog, Log, replayed}
use Rattle.log_image.specs.Overlay.{images_of, newest, overlaid}
use Rattle.log_image.specs.OverlayLaws.{get_or-overlaid, newest-append, newest-none}

newest_first : (anchor : ℕ) (images : List Image) → All (IsGroupImage anchor) images → newest 0 images ≡ None
unfolding newest
newest_first anchor [] all = refl
newest_first anchor (image ∷ images) all =
    let here = All-head (IsGroupImage anchor) image images all in
    let other : (image.home == 0) ≡ false = ne_eqb image.home 0 (λ e. absurd (omega (arith, here.0, e))) in
    ap (λ (o : Option Sector). option_or o (if image.home == 0 then Some image.sector else None)) (newest_first anchor images (All-tail (IsGroupImage anchor) image images all))
    ∙ cond-false (image.home == 0) (Some image.sector) None other

newest_of : (anchor : ℕ) (records : List LogRecord) → All (λ item. All (IsGroupImage anchor) item.images) records → newest 0 (images_of records) ≡ None
newest_of anchor [] all = newest-none 0
newest_of anchor (item ∷ records) all =
    newest-append 0 item.images (images_of records)
    ∙ ap (λ (o : Option Sector). option_or o (newest 0 item.images)) (newest_of anchor records (All-tail (λ (item : LogRecord). All (IsGroupImage anchor) item.images) item records all))
    ∙ newest_first anchor item.images (All-head (λ (item : LogRecord). All (IsGroupImage anchor) item.images) item records all)

none_written : (image : List Sector) (anchor ring : ℕ) (log : Log) → IsLog image anchor ring log → newest 0 (images_of log.records) ≡ None
none_written image anchor ring log is = elim is.says.3.records [
  | inl to ↦ newest_of anchor log.records to.2.homes
  | inr empty ↦ ap (λ (l : Log). newest 0 (images_of l.records)) empty.1 ∙ newest-none 0
]

first_taken : (count : ℕ) (image : List Sector) (d : Sector) → 0 < count → get_or (take count image) 0 d ≡ get_or image 0 d
first_taken zero image d some = absurd (omega arith)
first_taken (suc count) [] d some = refl
first_taken (suc count) (sector ∷ image) d some = refl

some_taken : (count : ℕ) (image : List Sector) → 0 < count → 0 < length image → 0 < length (take count image)
some_taken zero image some long = absurd (omega arith)
some_taken (suc count) [] some long = long
some_taken (suc count) (sector ∷ image) some long = omega arith

pub first_stays : (image : List Sector) (anchor ring : ℕ) (log : Log) (d : Sector) → 0 < anchor → IsLog image anchor ring log
    → get_or (replayed anchor image log.records) 0 d ≡ get_or image 0 d
first_stays image anchor ring log d some is =
    get_or-overlaid (take anchor image) (images_of log.records) 0 d (some_taken anchor image some (omega (arith, is.size)))
    ∙ ap (λ (o : Option Sector). unwrap_or o (get_or (take anchor image) 0 d)) (none_written image anchor ring log is)
    ∙ first_taken anchor image d some
