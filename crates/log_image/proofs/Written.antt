-- Images over which some of a record's sectors were written.
use Rattle.std.proofs.Common.{◌≡◌, ℕ, zero, suc, ◌+◌, ◌-◌, ◌%◌, ◌^◌, ◌<◌, ◌≤◌, ◌⊎◌, List, [], length, get_or, sym, ap, subst, inl, inr, ◌∙◌, arith}
use Rattle.std.proofs.lemmas.Bool.{cases_lt}
use Rattle.std.proofs.lemmas.Nat.{mod_below}
use Rattle.std.proofs.lemmas.List.{get_or_default}
use Rattle.life_bytes.specs.Fields.{field}
use Rattle.life_bytes.specs.declared.sector.Sector.{Sector}
use Rattle.log_record.specs.declared.record.LogRecord.{LogRecord}
use Rattle.log_record.specs.Encoding.{IsRecord, FitsFields, record_sector}
use Rattle.log_record.specs.Whole.{IsWholeAt, at_place}
use Rattle.log_image.specs.Anchor.{HasAnchor}
use Rattle.log_image.specs.Log.{AreBelow, HasLog, IsLog, Log, record_end, groups_part, ring_part}
use Rattle.log_image.specs.Step.{ExtendsLog, IsLogged, IsPartlyLogged, IsPlaceOf, cover_of, covered, sector_of_position, with_record}
use Rattle.log_image.proofs.Places.{count_of, some_sector, find_place, own_position}
use Rattle.log_image.proofs.TornRing.{WholeLaws, IsTornRing, IsOfRecord, all_written}
use Rattle.log_image.proofs.RingLogs.{Bounds, FitsLog, bounds, log_same, log_more, log_covered, torn_below}
use Rattle.log_image.proofs.Parts.{anchor_kept, get_or-ring_part, length-ring_part, same_groups, same_ring}

none : Sector
none = record { bytes = [] }

pub all_logged : (anchor ring : ℕ) (item : LogRecord) (old new : List Sector) → IsLogged anchor ring item old new → IsPartlyLogged anchor ring item old new
all_logged anchor ring item old new all = record {
  size = all.size;
  places = λ i d within. inr (all.places i d within);
  others = all.others;
}

-- ---- which sectors were written

abbrev Written : ℕ → ℕ → LogRecord → List Sector → ℕ → Type 0
Written anchor ring item new count = (i : ℕ) (d : Sector) → i < count → get_or new (sector_of_position anchor ring (item.position + i)) d ≡ record_sector item i

abbrev SomeOld : ℕ → ℕ → LogRecord → List Sector → List Sector → Type 0
SomeOld anchor ring item old new =
    (i : ℕ) × (i < count_of item) × (get_or new (sector_of_position anchor ring (item.position + i)) none ≡ get_or old (sector_of_position anchor ring (item.position + i)) none)

place_within : (anchor ring position : ℕ) (image : List Sector) → 0 < ring → anchor + 1 + ring ≤ length image → sector_of_position anchor ring position < length image
place_within anchor ring position image some size =
    let low : position % ring < ring = mod_below position ring some in
    omega arith

written_or_not : (anchor ring : ℕ) (item : LogRecord) (old new : List Sector) → 0 < ring → anchor + 1 + ring ≤ length new → IsPartlyLogged anchor ring item old new
    → (k : ℕ) → k ≤ count_of item → Written anchor ring item new k ⊎ SomeOld anchor ring item old new
written_or_not anchor ring item old new some size partly zero within = inl (λ i d lt. absurd (omega arith))
written_or_not anchor ring item old new some size partly (suc k) within =
    elim (written_or_not anchor ring item old new some size partly k (omega arith)) [
      | inr found ↦ inr found
      | inl all ↦ elim (partly.places k none (omega arith)) [
        | inl same ↦ inr (k, omega arith, same)
        | inr here ↦ inl (λ i d lt. elim (cases_lt i k) [
          | inl before ↦ all i d before
          | inr le ↦
              let last : k ≡ i = omega arith in
              let inside = place_within anchor ring (item.position + k) new some size in
              let P : ℕ → Type 0 = λ j. get_or new (sector_of_position anchor ring (item.position + j)) d ≡ record_sector item j in
              subst P last (get_or_default new (sector_of_position anchor ring (item.position + k)) d none inside ∙ here)
        ])
      ]
    ]

-- ---- the ring of such an image

each_sector : (anchor ring : ℕ) (item : LogRecord) (old new : List Sector) → IsPartlyLogged anchor ring item old new
    → (x : ℕ) (d : Sector) → x < ring
    → (get_or (ring_part anchor ring new) x d ≡ get_or (ring_part anchor ring old) x d) ⊎ IsOfRecord ring x item (get_or (ring_part anchor ring new) x d)
each_sector anchor ring item old new partly x d within =
    let before = get_or-ring_part anchor ring old x d within in
    let now = get_or-ring_part anchor ring new x d within in
    elim (find_place item.position ring x (count_of item)) [
      | inl found ↦
          let at : sector_of_position anchor ring (item.position + found.0) ≡ anchor + 1 + x = omega (arith, found.2) in
          elim (partly.places found.0 d found.1) [
            | inl same ↦ inl (now ∙ subst (λ (k : ℕ). get_or new k d ≡ get_or old k d) at same ∙ sym before)
            | inr here ↦ inr (found.0, found.1, found.2, now ∙ subst (λ (k : ℕ). get_or new k d ≡ record_sector item found.0) at here)
          ]
      | inr away ↦ inl (now ∙ partly.others (anchor + 1 + x) d (λ place. away place.0 place.1 (omega (arith, place.2))) ∙ sym before)
    ]

pub torn_ring : (anchor ring : ℕ) (item : LogRecord) (old new : List Sector) → 0 < ring → anchor + 1 + ring ≤ length old → IsRecord item → FitsFields item
    → AreBelow (ring_part anchor ring old) item.position → IsPartlyLogged anchor ring item old new
    → IsTornRing (ring_part anchor ring old) (ring_part anchor ring new) item
torn_ring anchor ring item old new some size form fits below partly =
    let before : length (ring_part anchor ring old) ≡ ring = length-ring_part anchor ring old size in
    let now : length (ring_part anchor ring new) ≡ ring = length-ring_part anchor ring new (omega (arith, partly.size)) in
    record {
      form = form;
      fits = fits;
      some = omega arith;
      size = now ∙ sym before;
      below = below;
      each = λ x d within.
          let inside : x < ring = omega arith in
          let P : ℕ → Type 0 = λ n. (get_or (ring_part anchor ring new) x d ≡ get_or (ring_part anchor ring old) x d) ⊎ IsOfRecord n x item (get_or (ring_part anchor ring new) x d) in
          subst P (sym before) (each_sector anchor ring item old new partly x d inside);
    }

at_ring : (anchor ring : ℕ) (image : List Sector) (position : ℕ) (d : Sector) → 0 < ring → anchor + 1 + ring ≤ length image
    → at_place (ring_part anchor ring image) position d ≡ get_or image (sector_of_position anchor ring position) d
at_ring anchor ring image position d some size =
    ap (λ (n : ℕ). get_or (ring_part anchor ring image) (position % n) d) (length-ring_part anchor ring image size)
    ∙ get_or-ring_part anchor ring image (position % ring) d (mod_below position ring some)

not_whole : (laws : WholeLaws) (anchor ring : ℕ) (item : LogRecord) (old new : List Sector) → 0 < ring → anchor + 1 + ring ≤ length old → length new ≡ length old
    → IsTornRing (ring_part anchor ring old) (ring_part anchor ring new) item → SomeOld anchor ring item old new
    → (other : LogRecord) → IsWholeAt (ring_part anchor ring new) item.position other → ⊥
not_whole laws anchor ring item old new some size same torn found other whole =
    let i = found.0 in
    let p = item.position + i in
    let is : at_place (ring_part anchor ring new) p none ≡ record_sector item i =
    all_written laws (ring_part anchor ring old) (ring_part anchor ring new) item other torn whole i none found.1 in
    let was : at_place (ring_part anchor ring old) p none ≡ record_sector item i =
    at_ring anchor ring old p none some size ∙ sym found.2 ∙ sym (at_ring anchor ring new p none some (omega arith)) ∙ is in
    let own : field 8 0 (at_place (ring_part anchor ring old) p none).bytes ≡ p =
    ap (λ (s : Sector). field 8 0 s.bytes) was ∙ own_position item i torn.form found.1 in
    let old_size = length-ring_part anchor ring old size in
    let low = torn.below.each (p % length (ring_part anchor ring old)) none (mod_below p (length (ring_part anchor ring old)) torn.some) in
    omega arith

-- ---- the anchor and the groups

not_a_place : (anchor ring : ℕ) (item : LogRecord) (at : ℕ) → at ≤ anchor → IsPlaceOf anchor ring item at → ⊥
not_a_place anchor ring item at low place = omega (arith, place.2)

pub logged_anchor : (anchor ring position next : ℕ) (item : LogRecord) (old new : List Sector) → IsPartlyLogged anchor ring item old new
    → HasAnchor old anchor ring position next → HasAnchor new anchor ring position next
logged_anchor anchor ring position next item old new partly has =
    anchor_kept old new anchor ring position next partly.size (λ d. partly.others anchor d (not_a_place anchor ring item anchor (omega arith))) has

pub logged_groups : (old new : List Sector) (anchor ring : ℕ) (item : LogRecord) → IsPartlyLogged anchor ring item old new
    → groups_part anchor new ≡ groups_part anchor old
logged_groups old new anchor ring item partly =
    same_groups old new anchor partly.size (λ at d low. partly.others at d (not_a_place anchor ring item at (omega arith)))

-- ---- a record that goes on

-- what an image's log says of its bounds
pub image_bounds : (image : List Sector) (anchor ring : ℕ) (log : Log) → IsLog image anchor ring log
    → (log.tail ≤ log.end) × (log.end - log.tail ≤ ring) × (ring ≤ log.end) × (log.end < 2 ^ 64) × (1 ≤ log.next) × (log.next < 2 ^ 64)
image_bounds image anchor ring log is =
    let anchored = is.says.2 in
    let b = bounds (ring_part anchor ring image) anchor is.says.0 is.says.1 log anchored.start.1 anchored.number.0 anchored.number.1 is.says.3 in
    let size = length-ring_part anchor ring image is.size in
    (b.ordered, omega (arith, b.turn), omega (arith, b.from, anchored.start.0), b.end, b.some, b.next)

some_ring : (old : List Sector) (anchor ring : ℕ) (log : Log) (item : LogRecord) → IsLog old anchor ring log → ExtendsLog anchor ring log item → 0 < ring
some_ring old anchor ring log item is goes =
    let b = image_bounds old anchor ring log is in
    let some = some_sector item in
    omega (arith, goes.position, goes.room, b.0)

torn_of : (old new : List Sector) (anchor ring : ℕ) (log : Log) (item : LogRecord) → IsLog old anchor ring log → AreBelow (ring_part anchor ring old) log.end
    → ExtendsLog anchor ring log item → IsPartlyLogged anchor ring item old new → IsTornRing (ring_part anchor ring old) (ring_part anchor ring new) item
torn_of old new anchor ring log item is below goes partly =
    torn_ring anchor ring item old new (some_ring old anchor ring log item is goes) is.size goes.form goes.fits
    (subst (λ (p : ℕ). AreBelow (ring_part anchor ring old) p) (sym goes.position) below) partly

fits_log : (anchor ring n : ℕ) (log : Log) (item : LogRecord) → n ≡ ring → ExtendsLog anchor ring log item → FitsLog n anchor log item
fits_log anchor ring n log item size goes = record {
  position = goes.position;
  first = goes.first;
  tail = goes.tail;
  room = omega (arith, goes.room);
  homes = goes.homes;
  end = goes.end;
  next = goes.next;
}

bounds_of : (image : List Sector) (anchor ring : ℕ) (log : Log) (is : IsLog image anchor ring log) → Bounds (ring_part anchor ring image) is.says.0 log
bounds_of image anchor ring log is =
    bounds (ring_part anchor ring image) anchor is.says.0 is.says.1 log is.says.2.start.1 is.says.2.number.0 is.says.2.number.1 is.says.3

pub whole_record : (laws : WholeLaws) (old new : List Sector) (anchor ring : ℕ) (log : Log) (item : LogRecord) → IsLog old anchor ring log
    → AreBelow (ring_part anchor ring old) log.end → ExtendsLog anchor ring log item → IsLogged anchor ring item old new → IsLog new anchor ring (with_record log item)
whole_record laws old new anchor ring log item is below goes logged =
    let partly = all_logged anchor ring item old new logged in
    let torn = torn_of old new anchor ring log item is below goes partly in
    let some = some_ring old anchor ring log item is goes in
    let size : anchor + 1 + ring ≤ length new = omega (arith, logged.size, is.size) in
    let fits = fits_log anchor ring (length (ring_part anchor ring old)) log item (length-ring_part anchor ring old is.size) goes in
    record {
      size = size;
      says = (
        is.says.0,
        is.says.1,
        logged_anchor anchor ring is.says.0 is.says.1 item old new partly is.says.2,
        log_more laws (ring_part anchor ring old) (ring_part anchor ring new) item anchor is.says.0 is.says.1 log (bounds_of old anchor ring log is)
            is.says.2.number.0 torn fits (λ i d within. at_ring anchor ring new (item.position + i) d some size ∙ logged.places i d within) is.says.3,
      );
    }

unfinished : (laws : WholeLaws) (old new : List Sector) (anchor ring : ℕ) (log : Log) (item : LogRecord) → IsLog old anchor ring log
    → AreBelow (ring_part anchor ring old) log.end → ExtendsLog anchor ring log item → IsPartlyLogged anchor ring item old new → SomeOld anchor ring item old new
    → IsLog new anchor ring log
unfinished laws old new anchor ring log item is below goes partly found =
    let torn = torn_of old new anchor ring log item is below goes partly in
    let some = some_ring old anchor ring log item is goes in
    let before = length-ring_part anchor ring old is.size in
    record {
      size = omega (arith, partly.size, is.size);
      says = (
        is.says.0,
        is.says.1,
        logged_anchor anchor ring is.says.0 is.says.1 item old new partly is.says.2,
        log_same laws (ring_part anchor ring old) (ring_part anchor ring new) item anchor is.says.0 is.says.1 log (bounds_of old anchor ring log is)
            torn goes.position (omega (arith, goes.room)) (not_whole laws anchor ring item old new some is.size partly.size torn found) is.says.3,
      );
    }

pub torn_record : (laws : WholeLaws) (old new : List Sector) (anchor ring : ℕ) (log : Log) (item : LogRecord) → IsLog old anchor ring log
    → AreBelow (ring_part anchor ring old) log.end → ExtendsLog anchor ring log item → IsPartlyLogged anchor ring item old new
    → IsLog new anchor ring log ⊎ (IsLogged anchor ring item old new × IsLog new anchor ring (with_record log item))
torn_record laws old new anchor ring log item is below goes partly =
    let some = some_ring old anchor ring log item is goes in
    elim (written_or_not anchor ring item old new some (omega (arith, partly.size, is.size)) partly (count_of item) (omega arith)) [
      | inl all ↦
          let logged : IsLogged anchor ring item old new = record { size = partly.size; places = all; others = partly.others } in
          inr (logged, whole_record laws old new anchor ring log item is below goes logged)
      | inr found ↦ inl (unfinished laws old new anchor ring log item is below goes partly found)
    ]

pub record_below : (old new : List Sector) (anchor ring : ℕ) (log : Log) (item : LogRecord) → IsLog old anchor ring log
    → AreBelow (ring_part anchor ring old) log.end → ExtendsLog anchor ring log item → IsPartlyLogged anchor ring item old new
    → AreBelow (ring_part anchor ring new) (record_end item)
record_below old new anchor ring log item is below goes partly =
    torn_below (ring_part anchor ring old) (ring_part anchor ring new) item (torn_of old new anchor ring log item is below goes partly)

-- ---- a cover

cover_form : (log : Log) → log.end < 2 ^ 64 → IsRecord (cover_of log)
cover_form log low = record {
  few = omega arith;
  homes = λ i within. omega arith;
  tail = omega arith;
  positions = omega arith;
}

cover_fits : (log : Log) → log.next < 2 ^ 64 → FitsFields (cover_of log)
cover_fits log low = record {
  first = low;
  commits = omega arith;
  images = λ k d within. absurd (omega arith);
}

torn_cover : (old new : List Sector) (anchor ring : ℕ) (log : Log) → IsLog old anchor ring log → AreBelow (ring_part anchor ring old) log.end
    → 0 < ring → IsPartlyLogged anchor ring (cover_of log) old new → IsTornRing (ring_part anchor ring old) (ring_part anchor ring new) (cover_of log)
torn_cover old new anchor ring log is below some partly =
    let b = bounds_of old anchor ring log is in
    torn_ring anchor ring (cover_of log) old new some is.size (cover_form log b.end) (cover_fits log b.next) below partly

pub cover_below : (old new : List Sector) (anchor ring : ℕ) (log : Log) → IsLog old anchor ring log → AreBelow (ring_part anchor ring old) log.end
    → 0 < ring → IsPartlyLogged anchor ring (cover_of log) old new → AreBelow (ring_part anchor ring new) (log.end + 1)
cover_below old new anchor ring log is below some partly =
    torn_below (ring_part anchor ring old) (ring_part anchor ring new) (cover_of log) (torn_cover old new anchor ring log is below some partly)

pub whole_cover : (laws : WholeLaws) (old new : List Sector) (anchor ring : ℕ) (log : Log) → IsLog old anchor ring log
    → AreBelow (ring_part anchor ring old) log.end → 0 < ring → log.end + 1 < 2 ^ 64 → IsLogged anchor ring (cover_of log) old new
    → IsLog new anchor ring (covered log)
whole_cover laws old new anchor ring log is below some small logged =
    let item = cover_of log in
    let partly = all_logged anchor ring item old new logged in
    let torn = torn_cover old new anchor ring log is below some partly in
    let size : anchor + 1 + ring ≤ length new = omega (arith, logged.size, is.size) in
    record {
      size = size;
      says = (
        is.says.0,
        is.says.1,
        logged_anchor anchor ring is.says.0 is.says.1 item old new partly is.says.2,
        log_covered laws (ring_part anchor ring old) (ring_part anchor ring new) anchor is.says.0 is.says.1 log (bounds_of old anchor ring log is)
            torn small (λ i d within. at_ring anchor ring new (item.position + i) d some size ∙ logged.places i d within) is.says.3,
      );
    }

-- a cover of which a sector is the old one was not written at all
no_cover : (anchor ring : ℕ) (log : Log) (old new : List Sector) → 0 < ring → anchor + 1 + ring ≤ length old
    → IsPartlyLogged anchor ring (cover_of log) old new → SomeOld anchor ring (cover_of log) old new → (at : ℕ) (d : Sector) → anchor ≤ at → get_or new at d ≡ get_or old at d
no_cover anchor ring log old new some size partly found at d from =
    let zero_is : found.0 ≡ 0 = omega (arith, found.1) in
    let same : sector_of_position anchor ring (log.end + found.0) ≡ sector_of_position anchor ring (log.end + 0) = ap (λ (i : ℕ). sector_of_position anchor ring (log.end + i)) zero_is in
    elim (Rattle.std.proofs.lemmas.Bool.cases_eq at (sector_of_position anchor ring (log.end + found.0))) [
      | inl here ↦
          let inside : sector_of_position anchor ring (log.end + found.0) < length old = place_within anchor ring (log.end + found.0) old some size in
          let within : at < length old = omega arith in
          let at_none : get_or new at none ≡ get_or old at none =
          subst (λ (k : ℕ). get_or new k none ≡ get_or old k none) (sym here) found.2 in
          get_or_default new at d none (omega (arith, partly.size)) ∙ at_none ∙ sym (get_or_default old at d none within)
      | inr away ↦ partly.others at d (λ place.
          let first : place.0 ≡ found.0 = omega (arith, place.1, found.1) in
          away (place.2 ∙ ap (λ (i : ℕ). sector_of_position anchor ring (log.end + i)) first))
    ]

pub torn_or_covered : (laws : WholeLaws) (old new : List Sector) (anchor ring : ℕ) (log : Log) → IsLog old anchor ring log
    → AreBelow (ring_part anchor ring old) log.end → 0 < ring → log.end + 1 < 2 ^ 64 → IsPartlyLogged anchor ring (cover_of log) old new
    → IsLog new anchor ring log ⊎ (IsLogged anchor ring (cover_of log) old new × IsLog new anchor ring (covered log))
torn_or_covered laws old new anchor ring log is below some small partly =
    let item = cover_of log in
    elim (written_or_not anchor ring item old new some (omega (arith, partly.size, is.size)) partly (count_of item) (omega arith)) [
      | inl all ↦
          let logged : IsLogged anchor ring item old new = record { size = partly.size; places = all; others = partly.others } in
          inr (logged, whole_cover laws old new anchor ring log is below some small logged)
      | inr found ↦
          let same : ring_part anchor ring new ≡ ring_part anchor ring old = same_ring old new anchor ring partly.size (no_cover anchor ring log old new some is.size partly found) in
          inl record {
            size = omega (arith, partly.size, is.size);
            says = (
              is.says.0,
              is.says.1,
              logged_anchor anchor ring is.says.0 is.says.1 item old new partly is.says.2,
              subst (λ (r : List Sector). HasLog r anchor is.says.0 is.says.1 log) (sym same) is.says.3,
            );
          }
    ]
