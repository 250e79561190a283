-- The groups and the base of a disk, after what is written behind them.
use Rattle.std.proofs.Common.{◌≡◌, ◌⊎◌, ℕ, set, zero, suc, ◌+◌, ◌<◌, ◌≤◌, List, [], ◌∷◌, ◌++◌, Option, Some, None, length, take, drop, get_or, refl, sym, ap, ◌∙◌, inl, inr, arith}
use Rattle.std.specs.Option.{option_or}
use Rattle.std.proofs.lemmas.List.{take-append-le, take-take, length-take-le, append_assoc, append-nil, get_or-take, set-set}
use Rattle.std.proofs.lemmas.Grind.{flat_map-append}
use Rattle.life_bytes.specs.declared.sector.Sector.{Sector}
use Rattle.disk_model.specs.Disk.{Cell, IsImage, as_read, written, flushed, IsPartlyWritten}
use Rattle.disk_model.specs.DiskLaws.{IsTorn, as_read-written, as_read-partly_written, as_read-flushed, IsImage-flushed, length-as_read}
use Rattle.log_record.specs.declared.image.Image.{Image}
use Rattle.log_record.specs.declared.image.Commit.{Commit}
use Rattle.log_record.specs.declared.record.LogRecord.{LogRecord}
use Rattle.log_image.specs.Log.{groups_part, replayed}
use Rattle.log_image.specs.Overlay.{images_of, newest, overlaid}
use Rattle.log_image.specs.OverlayLaws.{overlaid-none, overlaid-append, overlaid-newest, newest-append, newest-none}
use Rattle.log_batch.specs.Newest.{IsNewestOf, commit_images}
use Rattle.log_image.specs.Step.{AreHome}
use Rattle.log_batch.specs.NewestLaws.{newest-put_all, none_some}
use Rattle.log_batch.specs.Put.{put_all, KeysRise}
use Rattle.log_store.specs.State.{State}
use Rattle.log_store.specs.OnDisk.{AtRest, ReplaysTo, base_of}

-- a write behind the groups leaves them
pub groups-torn : (anchor at : ℕ) (pieces old new : List Sector) → anchor ≤ at → IsTorn at pieces old new → take anchor new ≡ take anchor old
groups-torn anchor at [] old new le torn = ap (take anchor) torn
groups-torn anchor at (piece ∷ pieces) [] new le torn = ap (take anchor) torn
groups-torn anchor at (piece ∷ pieces) (sector ∷ old) [] le torn = absurd torn
groups-torn zero at (piece ∷ pieces) (sector ∷ old) (now ∷ new) le torn = refl
groups-torn (suc anchor) zero (piece ∷ pieces) (sector ∷ old) (now ∷ new) le torn = absurd (omega arith)
groups-torn (suc anchor) (suc at) (piece ∷ pieces) (sector ∷ old) (now ∷ new) le torn =
    let rest = groups-torn anchor at (piece ∷ pieces) old new (omega arith) torn.1 in
    ap (λ (s : Sector). s ∷ take anchor new) torn.0 ∙ ap (λ (l : List Sector). sector ∷ l) rest

pub groups-written : (anchor at : ℕ) (pieces : List Sector) (cells : List Cell) → anchor ≤ at → at + length pieces ≤ length cells
    → groups_part anchor (as_read (written at pieces cells)) ≡ groups_part anchor (as_read cells)
groups-written anchor at pieces cells le within =
    let front : length (take at (as_read cells)) ≡ at = length-take-le at (as_read cells) (omega (arith, length-as_read cells)) in
    ap (take anchor) (as_read-written at pieces cells within)
    ∙ ap (take anchor) (append_assoc (take at (as_read cells)) pieces (drop (at + length pieces) (as_read cells)))
    ∙ take-append-le anchor (take at (as_read cells)) (pieces ++ drop (at + length pieces) (as_read cells)) (omega arith)
    ∙ take-take anchor at (as_read cells) le

-- so the base stays
pub base-written : (s : State) (at : ℕ) (pieces : List Sector) (cells : List Cell) → s.anchor ≤ at → at + length pieces ≤ length cells
    → base_of s (written at pieces cells) ≡ base_of s cells
base-written s at pieces cells le within = ap (λ (l : List Sector). overlaid l s.dirty) (groups-written s.anchor at pieces cells le within)

pub base-partly : (s : State) (at : ℕ) (pieces : List Sector) (old new : List Cell) → s.anchor ≤ at → IsPartlyWritten at pieces old new
    → base_of s new ≡ base_of s old
base-partly s at pieces old new le partly =
    ap (λ (l : List Sector). overlaid l s.dirty) (groups-torn s.anchor at pieces (as_read old) (as_read new) le (as_read-partly_written at pieces old new partly))

pub base-flushed : (s : State) (cells : List Cell) → base_of s (flushed cells) ≡ base_of s cells
base-flushed s cells = ap (λ (l : List Sector). overlaid (take s.anchor l) s.dirty) (as_read-flushed cells)

-- at rest each image replays to the base
pub rest_replays : (s : State) (cells : List Cell) (image : List Sector) → AtRest s cells → IsImage cells image → ReplaysTo s cells image
rest_replays s cells image rest is =
    let has = rest.images image is in record {
      log = rest.log;
      count = 0;
      within = omega arith;
      says = has.says;
      groups = has.groups ∙ sym (overlaid-none (base_of s cells));
      next = rest.next ∙ sym (omega arith);
      end = omega (arith, rest.end);
    }

-- the dirty images with those of a record over them, as the base with the commits of the record
pub base_landed : (sectors : List Sector) (dirty batch : List Image) (commits : List Commit) → KeysRise (λ i. i.home) 0 dirty → IsNewestOf (commit_images commits) batch
    → overlaid sectors (put_all batch dirty) ≡ overlaid (overlaid sectors dirty) (commit_images commits)
base_landed sectors dirty batch commits rises is =
    overlaid-newest sectors (put_all batch dirty) (dirty ++ commit_images commits)
    (λ home. newest-put_all home batch dirty rises
    ∙ ap (λ (o : Option Sector). option_or o (newest home dirty)) (is.same home)
    ∙ sym (newest-append home dirty (commit_images commits)))
    ∙ overlaid-append sectors dirty (commit_images commits)

-- images of one record more
pub images-more : (records : List LogRecord) (item : LogRecord) → images_of (records ++ item ∷ []) ≡ images_of records ++ item.images
images-more records item =
    flat_map-append (λ (r : LogRecord). r.images) records (item ∷ []) ∙ ap (λ (l : List Image). images_of records ++ l) (append-nil item.images)

pub replayed-more : (anchor : ℕ) (image : List Sector) (records : List LogRecord) (item : LogRecord)
    → replayed anchor image (records ++ item ∷ []) ≡ overlaid (replayed anchor image records) item.images
replayed-more anchor image records item =
    ap (overlaid (groups_part anchor image)) (images-more records item) ∙ overlaid-append (groups_part anchor image) (images_of records) item.images

pub newest-more : (home : ℕ) (records : List LogRecord) (item : LogRecord)
    → newest home (images_of (records ++ item ∷ [])) ≡ option_or (newest home item.images) (newest home (images_of records))
newest-more home records item = ap (newest home) (images-more records item) ∙ newest-append home (images_of records) item.images

-- where the groups are the same, so is each sector of them
pub same_home : (anchor home : ℕ) (old new : List Sector) (d : Sector) → take anchor new ≡ take anchor old → home < anchor → get_or new home d ≡ get_or old home d
same_home anchor home old new d same below =
    sym (get_or-take anchor new home d below) ∙ ap (λ (l : List Sector). get_or l home d) same ∙ get_or-take anchor old home d below

-- a logged sector that is not dirty reads as its newest image
abbrev pub ReadsHome : State → List Cell → List LogRecord → Type 0
ReadsHome s cells records = (home : ℕ) (sector d : Sector) → home < s.anchor → newest home (images_of records) ≡ Some sector
    → newest home s.dirty ≡ None → get_or (as_read cells) home d ≡ sector

-- after a flush with nothing dirty all is home
pub clean_flushed : (s : State) (cells : List Cell) (records : List LogRecord) → ReadsHome s (flushed cells) records → s.dirty ≡ []
    → (image : List Sector) → IsImage (flushed cells) image → AreHome s.anchor image records
clean_flushed s cells records home none image is = λ at sector d below newer.
    ap (λ (l : List Sector). get_or l at d) (IsImage-flushed cells image is ∙ sym (as_read-flushed cells))
    ∙ home at sector d below newer (ap (newest at) none ∙ newest-none at)

option_or-some : (a b c : Option Sector) (sector : Sector) → ((s : Sector) → b ≡ Some s → c ≡ Some s) → option_or a b ≡ Some sector → option_or a c ≡ Some sector
option_or-some None b c sector then is = then sector is
option_or-some (Some other) b c sector then is = is

option_or-nones : (a b : Option Sector) → option_or a b ≡ None → (a ≡ None) × (b ≡ None)
option_or-nones None b is = (refl, is)
option_or-nones (Some other) b is = absurd (none_some (sym is))

-- what is dirty after a record is the newest logged image
pub logged_landed : (home : ℕ) (sector : Sector) (batch dirty : List Image) (records : List LogRecord) (item : LogRecord) → item.images ≡ batch → KeysRise (λ i. i.home) 0 dirty
    → ((h : ℕ) (s : Sector) → newest h dirty ≡ Some s → newest h (images_of records) ≡ Some s)
    → newest home (put_all batch dirty) ≡ Some sector → newest home (images_of (records ++ item ∷ [])) ≡ Some sector
logged_landed home sector batch dirty records item of rises logged is =
    newest-more home records item ∙ ap (λ (l : List Image). option_or (newest home l) (newest home (images_of records))) of
    ∙ option_or-some (newest home batch) (newest home dirty) (newest home (images_of records)) sector (logged home) (sym (newest-put_all home batch dirty rises) ∙ is)

-- and what is not dirty after it was logged before it
pub home_landed : (home : ℕ) (sector : Sector) (batch dirty : List Image) (records : List LogRecord) (item : LogRecord) → item.images ≡ batch → KeysRise (λ i. i.home) 0 dirty
    → newest home (images_of (records ++ item ∷ [])) ≡ Some sector → newest home (put_all batch dirty) ≡ None
    → (newest home (images_of records) ≡ Some sector) × (newest home dirty ≡ None)
home_landed home sector batch dirty records item of rises newer none =
    let nones = option_or-nones (newest home batch) (newest home dirty) (sym (newest-put_all home batch dirty rises) ∙ none) in (
      ap (λ (o : Option Sector). option_or o (newest home (images_of records))) (sym (nones.0))
          ∙ ap (λ (l : List Image). option_or (newest home l) (newest home (images_of records))) (sym of)
          ∙ sym (newest-more home records item) ∙ newer,
      nones.1,
    )

-- ---- one sector

pub set-take : (n i : ℕ) (xs : List Sector) (y : Sector) → i < n → take n (set xs i y) ≡ set (take n xs) i y
set-take zero i xs y below = absurd (omega arith)
set-take (suc n) i [] y below = refl
set-take (suc n) zero (x ∷ xs) y below = refl
set-take (suc n) (suc i) (x ∷ xs) y below = ap (λ (l : List Sector). x ∷ l) (set-take n i xs y (omega arith))

pub as_read-one : (at : ℕ) (piece : Sector) (cells : List Cell) → as_read (written at (piece ∷ []) cells) ≡ set (as_read cells) at piece
as_read-one at piece [] = refl
as_read-one zero piece (cell ∷ cells) = refl
as_read-one (suc at) piece (cell ∷ cells) = ap (λ (l : List Sector). cell.reads ∷ l) (as_read-one at piece cells)

-- one sector is torn where it is the old one or the piece
pub torn_one : (at : ℕ) (piece : Sector) (old new : List Sector) → IsTorn at (piece ∷ []) old new → (new ≡ old) ⊎ (new ≡ set old at piece)
torn_one at piece [] new torn = inl torn
torn_one at piece (sector ∷ old) [] torn = absurd torn
torn_one zero piece (sector ∷ old) (now ∷ new) (inl same, rest) =
    inl (ap (λ (s : Sector). s ∷ new) same ∙ ap (λ (l : List Sector). sector ∷ l) rest)
torn_one zero piece (sector ∷ old) (now ∷ new) (inr same, rest) =
    inr (ap (λ (s : Sector). s ∷ new) same ∙ ap (λ (l : List Sector). piece ∷ l) rest)
torn_one (suc at) piece (sector ∷ old) (now ∷ new) (same, rest) =
    elim (torn_one at piece old new rest) [
      | inl is ↦ inl (ap (λ (s : Sector). s ∷ new) same ∙ ap (λ (l : List Sector). sector ∷ l) is)
      | inr is ↦ inr (ap (λ (s : Sector). s ∷ new) same ∙ ap (λ (l : List Sector). sector ∷ l) is)
    ]

pub overlaid-first : (sectors : List Sector) (image : Image) (images : List Image) → overlaid sectors (image ∷ images) ≡ overlaid (set sectors image.home image.sector) images
unfolding overlaid
overlaid-first sectors image images = refl

-- a dirty image that is written home, in the groups and over them
pub base_home : (anchor : ℕ) (reads : List Sector) (image : Image) (images : List Image) → image.home < anchor
    → overlaid (take anchor (set reads image.home image.sector)) images ≡ overlaid (take anchor reads) (image ∷ images)
base_home anchor reads image images below =
    ap (λ (l : List Sector). overlaid l images) (set-take anchor image.home reads image.sector below)
    ∙ sym (overlaid-first (take anchor reads) image images)

pub base_home_twice : (anchor : ℕ) (reads : List Sector) (image : Image) (images : List Image) → image.home < anchor
    → overlaid (take anchor (set reads image.home image.sector)) (image ∷ images) ≡ overlaid (take anchor reads) (image ∷ images)
base_home_twice anchor reads image images below =
    ap (λ (l : List Sector). overlaid l (image ∷ images)) (set-take anchor image.home reads image.sector below)
    ∙ overlaid-first (set (take anchor reads) image.home image.sector) image images
    ∙ ap (λ (l : List Sector). overlaid l images) (set-set (take anchor reads) image.home image.sector image.sector)
    ∙ sym (overlaid-first (take anchor reads) image images)
