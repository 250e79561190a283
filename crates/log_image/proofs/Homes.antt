-- Images whose groups' sectors were written, and empty logs.
use Rattle.std.proofs.Common.{replicate, ◌≡◌, ℕ, ◌+◌, ◌%◌, ◌<◌, ◌≤◌, ◌⊎◌, List, [], length, take, get_or, set, Option, None, Some, unwrap_or, refl, sym, ap, subst, inl, inr, ◌∙◌, arith, get_or-set_same, get_or-set_other, length-set}
use Rattle.std.proofs.lemmas.Bool.{cases_lt, cases_eq}
use Rattle.std.proofs.lemmas.Nat.{mod_below}
use Rattle.std.proofs.lemmas.List.{length-replicate, get_or-replicate, get_or-take, length-take-le, same_lists, set_past}
use Rattle.life_bytes.specs.Fields.{field}
use Rattle.life_bytes.specs.Sectors.{zero_sector}
use Rattle.life_bytes.specs.declared.sector.Sector.{Sector}
use Rattle.log_record.specs.declared.record.LogRecord.{LogRecord}
use Rattle.log_image.specs.Anchor.{HasAnchor}
use Rattle.log_image.specs.Log.{AreBelow, HasLog, HasNoLast, IsLog, Log, empty_log, groups_part, replayed, ring_part}
use Rattle.log_image.specs.Overlay.{images_of, newest}
use Rattle.log_image.specs.OverlayLaws.{get_or-overlaid, length-overlaid}
use Rattle.log_image.specs.Step.{AreHome, IsPartlyHome}
use Rattle.log_image.proofs.Places.{some_sector}
use Rattle.log_image.proofs.TornRing.{WholeLaws}
use Rattle.log_image.proofs.RingLogs.{log-unique}
use Rattle.log_image.proofs.Parts.{anchor-unique, anchor_kept, same_ring}

none : Sector
none = record { bytes = [] }

-- ---- writes home

pub home_ring : (old new : List Sector) (anchor ring : ℕ) (records : List LogRecord) → IsPartlyHome anchor records old new
    → ring_part anchor ring new ≡ ring_part anchor ring old
home_ring old new anchor ring records partly = same_ring old new anchor ring partly.size partly.others

pub home_log : (old new : List Sector) (anchor ring : ℕ) (log : Log) → IsLog old anchor ring log → IsPartlyHome anchor log.records old new → IsLog new anchor ring log
home_log old new anchor ring log is partly = record {
  size = omega (arith, partly.size, is.size);
  says = (
    is.says.0,
    is.says.1,
    anchor_kept old new anchor ring is.says.0 is.says.1 partly.size (λ d. partly.others anchor d (omega arith)) is.says.2,
    subst (λ (r : List Sector). HasLog r anchor is.says.0 is.says.1 log) (sym (home_ring old new anchor ring log.records partly)) is.says.3,
  );
}

either_way : (o : Option Sector) (x y : Sector) → (x ≡ y) ⊎ (o ≡ Some x) → unwrap_or o x ≡ unwrap_or o y
either_way o x y (inl same) = ap (λ (s : Sector). unwrap_or o s) same
either_way o x y (inr found) =
    ap (λ (p : Option Sector). unwrap_or p x) found ∙ sym (ap (λ (p : Option Sector). unwrap_or p y) found)

pub home_replayed : (old new : List Sector) (anchor : ℕ) (records : List LogRecord) → anchor ≤ length old → IsPartlyHome anchor records old new
    → replayed anchor new records ≡ replayed anchor old records
home_replayed old new anchor records size partly =
    let images = images_of records in
    let now : length (take anchor new) ≡ anchor = length-take-le anchor new (omega (arith, partly.size)) in
    let before : length (take anchor old) ≡ anchor = length-take-le anchor old size in
    let long_now = length-overlaid (take anchor new) images in
    let long_before = length-overlaid (take anchor old) images in
    same_lists (replayed anchor new records) (replayed anchor old records) (omega (arith, long_now, long_before, now, before))
    (λ k d within.
    let low : k < anchor = omega (arith, long_now, now) in
    get_or-overlaid (take anchor new) images k d (omega (arith, now))
    ∙ ap (λ (s : Sector). unwrap_or (newest k images) s) (get_or-take anchor new k d low)
    ∙ either_way (newest k images) (get_or new k d) (get_or old k d) (partly.groups k d low)
    ∙ ap (λ (s : Sector). unwrap_or (newest k images) s) (sym (get_or-take anchor old k d low))
    ∙ sym (get_or-overlaid (take anchor old) images k d (omega (arith, before))))

one_home : (image : List Sector) (anchor home : ℕ) (records : List LogRecord) (sector : Sector) → newest home (images_of records) ≡ Some sector
    → (at : ℕ) (d : Sector) → (get_or (set image home sector) at d ≡ get_or image at d) ⊎ (newest at (images_of records) ≡ Some (get_or (set image home sector) at d))
one_home image anchor home records sector is at d = elim (cases_eq at home) [
  | inr other ↦ inl (get_or-set_other image home at sector d other)
  | inl same ↦ elim (cases_lt home (length image)) [
    | inr past ↦ inl (ap (λ (l : List Sector). get_or l at d) (set_past image home sector past))
    | inl within ↦
        let put : get_or (set image home sector) home d ≡ sector = get_or-set_same image home sector d within in
        let P : ℕ → Type 0 = λ k. newest k (images_of records) ≡ Some (get_or (set image home sector) k d) in
        inr (subst P (sym same) (is ∙ ap (λ (s : Sector). Some s) (sym put)))
  ]
]

pub home_one : (image : List Sector) (anchor home : ℕ) (records : List LogRecord) (sector : Sector) → home < anchor
    → newest home (images_of records) ≡ Some sector → IsPartlyHome anchor records image (set image home sector)
home_one image anchor home records sector low is = record {
  size = length-set image home sector;
  groups = λ at d within. one_home image anchor home records sector is at d;
  others = λ at d from. get_or-set_other image home at sector d (λ same. omega arith);
}

stays : (o : Option Sector) (x : Sector) → ((y : Sector) → o ≡ Some y → x ≡ y) → unwrap_or o x ≡ x
stays None x same = refl
stays (Some y) x same = sym (same y refl)

pub home_all : (image : List Sector) (anchor : ℕ) (records : List LogRecord) → anchor ≤ length image → AreHome anchor image records
    → replayed anchor image records ≡ groups_part anchor image
home_all image anchor records size home =
    let images = images_of records in
    let long : length (take anchor image) ≡ anchor = length-take-le anchor image size in
    let over = length-overlaid (take anchor image) images in
    same_lists (replayed anchor image records) (groups_part anchor image) over
    (λ k d within.
    let low : k < anchor = omega (arith, long, over) in
    let place = get_or-take anchor image k d low in
    get_or-overlaid (take anchor image) images k d (omega (arith, long))
    ∙ stays (newest k images) (get_or (take anchor image) k d) (λ y found. place ∙ home k y d low found))

-- ---- at most one log, and empty ones

pub image-unique : (laws : WholeLaws) (image : List Sector) (anchor ring : ℕ) (a b : Log) → IsLog image anchor ring a → IsLog image anchor ring b → a ≡ b
image-unique laws image anchor ring a b isa isb =
    let same = anchor-unique image anchor ring isa.says.0 isa.says.1 isb.says.0 isb.says.1 isa.says.2 isb.says.2 in
    let at : HasLog (ring_part anchor ring image) anchor isa.says.0 isb.says.1 b =
    subst (λ (p : ℕ). HasLog (ring_part anchor ring image) anchor p isb.says.1 b) (sym same.0) isb.says.3 in
    let here : HasLog (ring_part anchor ring image) anchor isa.says.0 isa.says.1 b =
    subst (λ (n : ℕ). HasLog (ring_part anchor ring image) anchor isa.says.0 n b) (sym same.1) at in
    log-unique laws (ring_part anchor ring image) anchor isa.says.0 isa.says.1 a b isa.says.3 here

no_last : (laws : WholeLaws) (ring : List Sector) (position : ℕ) → AreBelow ring position → HasNoLast ring position
no_last laws ring position below item whole =
    let some = some_sector item in
    let low : item.tail ≤ item.position = whole.form.tail in
    let size : 0 < length ring = omega (arith, whole.room) in
    let stamp = laws.stamped ring item.position 0 none item whole some in
    let reached = below.each ((item.position + 0) % length ring) none (mod_below (item.position + 0) (length ring) size) in
    omega (arith, stamp.0)

pub image_empty : (laws : WholeLaws) (image : List Sector) (anchor ring position next : ℕ) → anchor + 1 + ring ≤ length image
    → HasAnchor image anchor ring position next → AreBelow (ring_part anchor ring image) position → IsLog image anchor ring (empty_log position next)
image_empty laws image anchor ring position next size has below = record {
  size = size;
  says = (
    position,
    next,
    has,
    record {
      records = inr (no_last laws (ring_part anchor ring image) position below, refl);
      below = record { each = λ place d within. omega (arith, below.each place d within) };
    },
  );
}

zero_field : field 8 0 zero_sector.bytes ≡ 0
zero_field = refl

pub zeros_below : (ring position : ℕ) → 0 < position → AreBelow (replicate ring zero_sector) position
zeros_below ring position some = record {
  each = λ place d within.
      let low : place < ring = omega (arith, length-replicate ring zero_sector) in
      let is : get_or (replicate ring zero_sector) place d ≡ zero_sector = get_or-replicate ring place zero_sector d low in
      let field_is : field 8 0 (get_or (replicate ring zero_sector) place d).bytes ≡ 0 = ap (λ (s : Sector). field 8 0 s.bytes) is ∙ zero_field in
      omega arith;
}
