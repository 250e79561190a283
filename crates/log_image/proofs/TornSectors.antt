-- Writes of a disk, sector by sector.
use Rattle.std.proofs.Common.{◌≡◌, ℕ, zero, suc, ◌+◌, ◌-◌, ◌*◌, ◌/◌, ◌%◌, ◌<◌, ◌≤◌, ◌⊎◌, List, [], ◌∷◌, ◌++◌, length, take, drop, get_or, min, Some, refl, sym, ap, subst, inl, inr, ◌∙◌, arith}
use Rattle.std.proofs.Math.Nat.{div-add-mod, mul-add-mod_self_left, mod-eq_of_lt, add-mod_left}
use Rattle.std.proofs.lemmas.Bool.{cases_lt, cases_order}
use Rattle.std.proofs.lemmas.Nat.{mod_below}
use Rattle.std.proofs.lemmas.List.{get_or-take, get_or-drop, get_or_append_left, get_or-append_right, length-append, length-take, length-take-le, length-drop, take_all, drop_all}
use Rattle.std.proofs.lemmas.List.FromFn.{length-map-range_with_len, get_or-map-range_with_len}
use Rattle.life_bytes.specs.declared.sector.Sector.{Sector}
use Rattle.disk_model.specs.Disk.{Cell, IsImage, as_read, written}
use Rattle.disk_model.specs.DiskLaws.{IsTorn, IsTorn-from_image, as_read-written, length-as_read, length-torn, length-written}
use Rattle.log_record.specs.declared.record.LogRecord.{LogRecord}
use Rattle.log_record.specs.Encoding.{record_sector, encoded_record}
use Rattle.log_image.specs.Overlay.{images_of, newest}
use Rattle.log_image.specs.Step.{IsLogged, IsPartlyHome, IsPartlyLogged, IsPlaceOf, sector_of_position}
use Rattle.log_image.specs.Writes.{first_part, rest_part}
use Rattle.log_image.proofs.Places.{count_of}

-- ---- one write

-- In a range of sectors each is the old one or its piece, and elsewhere they are the old ones.
pub record IsTornAt (at : ℕ) (pieces old new : List Sector) : Type 0 where
  pub inside : (k : ℕ) (d : Sector) → k < length pieces → (get_or new (at + k) d ≡ get_or old (at + k) d) ⊎ (get_or new (at + k) d ≡ get_or pieces k d)
  pub before : (place : ℕ) (d : Sector) → place < at → get_or new place d ≡ get_or old place d
  pub behind : (place : ℕ) (d : Sector) → at + length pieces ≤ place → get_or new place d ≡ get_or old place d

same_at : (at : ℕ) (pieces old new : List Sector) → new ≡ old → IsTornAt at pieces old new
same_at at pieces old new same = record {
  inside = λ k d lt. inl (ap (λ (l : List Sector). get_or l (at + k) d) same);
  before = λ place d lt. ap (λ (l : List Sector). get_or l place d) same;
  behind = λ place d le. ap (λ (l : List Sector). get_or l place d) same;
}

-- one sector more in front
later : (at : ℕ) (pieces : List Sector) (sector now : Sector) (old new : List Sector) → now ≡ sector → IsTornAt at pieces old new
    → IsTornAt (suc at) pieces (sector ∷ old) (now ∷ new)
later at pieces sector now old new same rest = record {
  inside = λ k d lt. let e : suc at + k ≡ suc (at + k) = omega arith in rw e (rest.inside k d lt);
  before = before;
  behind = behind;
}
  where
    before : (place : ℕ) (d : Sector) → place < suc at → get_or (now ∷ new) place d ≡ get_or (sector ∷ old) place d
    before zero d lt = same
    before (suc place) d lt = rest.before place d (omega arith)

    behind : (place : ℕ) (d : Sector) → suc at + length pieces ≤ place → get_or (now ∷ new) place d ≡ get_or (sector ∷ old) place d
    behind zero d le = absurd (omega arith)
    behind (suc place) d le = rest.behind place d (omega arith)

-- one piece more in front
here : (piece : Sector) (pieces : List Sector) (sector now : Sector) (old new : List Sector) → (now ≡ sector) ⊎ (now ≡ piece) → IsTornAt 0 pieces old new
    → IsTornAt 0 (piece ∷ pieces) (sector ∷ old) (now ∷ new)
here piece pieces sector now old new either rest = record {
  inside = inside;
  before = λ place d lt. absurd (omega arith);
  behind = behind;
}
  where
    inside : (k : ℕ) (d : Sector) → k < length (piece ∷ pieces)
        → (get_or (now ∷ new) (0 + k) d ≡ get_or (sector ∷ old) (0 + k) d) ⊎ (get_or (now ∷ new) (0 + k) d ≡ get_or (piece ∷ pieces) k d)
    inside zero d lt = either
    inside (suc k) d lt = let e : 0 + suc k ≡ suc k = omega arith in let f : 0 + k ≡ k = omega arith in rw e (rw f at (rest.inside k d (omega arith)))

    behind : (place : ℕ) (d : Sector) → 0 + length (piece ∷ pieces) ≤ place → get_or (now ∷ new) place d ≡ get_or (sector ∷ old) place d
    behind zero d le = absurd (omega arith)
    behind (suc place) d le = rest.behind place d (omega arith)

pub torn_at : (at : ℕ) (pieces old new : List Sector) → IsTorn at pieces old new → IsTornAt at pieces old new
torn_at at [] old new torn = same_at at [] old new torn
torn_at at (piece ∷ pieces) [] new torn = same_at at (piece ∷ pieces) [] new torn
torn_at at (piece ∷ pieces) (sector ∷ old) [] torn = absurd torn
torn_at zero (piece ∷ pieces) (sector ∷ old) (now ∷ new) torn = here piece pieces sector now old new torn.0 (torn_at zero pieces old new torn.1)
torn_at (suc at) (piece ∷ pieces) (sector ∷ old) (now ∷ new) torn = later at (piece ∷ pieces) sector now old new torn.0 (torn_at at (piece ∷ pieces) old new torn.1)

-- ---- a write that is read

-- In a range of sectors each is its piece, and elsewhere they are the old ones.
pub record IsPutAt (at : ℕ) (pieces old new : List Sector) : Type 0 where
  pub inside : (k : ℕ) (d : Sector) → k < length pieces → get_or new (at + k) d ≡ get_or pieces k d
  pub before : (place : ℕ) (d : Sector) → place < at → get_or new place d ≡ get_or old place d
  pub behind : (place : ℕ) (d : Sector) → at + length pieces ≤ place → get_or new place d ≡ get_or old place d

put_torn : (at : ℕ) (pieces old new : List Sector) → IsPutAt at pieces old new → IsTornAt at pieces old new
put_torn at pieces old new put = record {
  inside = λ k d lt. inr (put.inside k d lt);
  before = put.before;
  behind = put.behind;
}

-- the list that a write makes
abbrev laid : ℕ → List Sector → List Sector → List Sector
laid at pieces old = take at old ++ pieces ++ drop (at + length pieces) old

laid_at : (at : ℕ) (pieces old : List Sector) → at + length pieces ≤ length old → IsPutAt at pieces old (laid at pieces old)
laid_at at pieces old within =
    let front : length (take at old) ≡ at = length-take-le at old (omega arith) in
    let both : length (take at old ++ pieces) ≡ at + length pieces = omega (arith, length-append (take at old) pieces) in
    let rest = drop (at + length pieces) old in
    record {
      inside = λ k d lt.
          let back : at + k - at ≡ k = omega arith in
          get_or_append_left (take at old ++ pieces) rest d (at + k) (omega arith)
          ∙ get_or-append_right (take at old) pieces at (at + k) d front (omega arith) ∙ ap (λ (j : ℕ). get_or pieces j d) back;
      before = λ place d lt.
          get_or_append_left (take at old ++ pieces) rest d place (omega arith)
          ∙ get_or_append_left (take at old) pieces d place (omega arith) ∙ get_or-take at old place d lt;
      behind = λ place d le.
          let on : at + length pieces + (place - (at + length pieces)) ≡ place = omega arith in
          get_or-append_right (take at old ++ pieces) rest (at + length pieces) place d both le
          ∙ get_or-drop (at + length pieces) old (place - (at + length pieces)) d ∙ ap (λ (j : ℕ). get_or old j d) on;
    }

read_at : (at : ℕ) (pieces : List Sector) (cells : List Cell) → at + length pieces ≤ length cells → IsPutAt at pieces (as_read cells) (as_read (written at pieces cells))
read_at at pieces cells within =
    subst (λ (l : List Sector). IsPutAt at pieces (as_read cells) l) (sym (as_read-written at pieces cells within))
    (laid_at at pieces (as_read cells) (omega (arith, length-as_read cells)))

-- ---- the two parts of a record

place_low : (ring position i : ℕ) → position % ring + i < ring → (position + i) % ring ≡ position % ring + i
place_low ring position i low =
    let parts : ring * (position / ring) + position % ring ≡ position = div-add-mod position ring in
    let e : position + i ≡ ring * (position / ring) + (position % ring + i) = omega arith in
    ap (λ (p : ℕ). p % ring) e ∙ mul-add-mod_self_left ring (position / ring) (position % ring + i) ∙ mod-eq_of_lt low

place_high : (ring position i : ℕ) → ring ≤ position % ring + i → position % ring + i - ring < ring
    → (position + i) % ring ≡ position % ring + i - ring
place_high ring position i high low =
    let parts : ring * (position / ring) + position % ring ≡ position = div-add-mod position ring in
    let e : position + i ≡ ring * (position / ring) + (ring + (position % ring + i - ring)) = omega arith in
    ap (λ (p : ℕ). p % ring) e ∙ mul-add-mod_self_left ring (position / ring) (ring + (position % ring + i - ring))
    ∙ add-mod_left ring (position % ring + i - ring) ∙ mod-eq_of_lt low

length-all : (item : LogRecord) → length (encoded_record item) ≡ count_of item
unfolding encoded_record
length-all item = length-map-range_with_len (record_sector item) 0 (count_of item)

get_or-all : (item : LogRecord) (i : ℕ) (d : Sector) → i < count_of item → get_or (encoded_record item) i d ≡ record_sector item i
unfolding encoded_record
get_or-all item i d within = get_or-map-range_with_len (record_sector item) 0 (count_of item) i i d within (omega arith)

get_or-first : (ring : ℕ) (item : LogRecord) (i : ℕ) (d : Sector) → i < ring - item.position % ring → i < count_of item
    → get_or (first_part ring item) i d ≡ record_sector item i
get_or-first ring item i d low within = get_or-take (ring - item.position % ring) (encoded_record item) i d low ∙ get_or-all item i d within

get_or-rest : (ring : ℕ) (item : LogRecord) (j i : ℕ) (d : Sector) → ring - item.position % ring + j ≡ i → i < count_of item
    → get_or (rest_part ring item) j d ≡ record_sector item i
get_or-rest ring item j i d e within =
    get_or-drop (ring - item.position % ring) (encoded_record item) j d ∙ ap (λ (k : ℕ). get_or (encoded_record item) k d) e ∙ get_or-all item i d within

-- what is known of a record's two parts
record HasParts (anchor ring : ℕ) (item : LogRecord) : Type 0 where
  low : item.position % ring < ring
  few : count_of item ≤ ring
  first : length (first_part ring item) ≡ min (ring - item.position % ring) (count_of item)
  rest : length (rest_part ring item) ≡ count_of item - (ring - item.position % ring)

has_parts : (anchor ring : ℕ) (item : LogRecord) → 0 < ring → count_of item ≤ ring → HasParts anchor ring item
has_parts anchor ring item some few =
    let all = length-all item in
    record {
      low = mod_below item.position ring some;
      few = few;
      first = length-take (ring - item.position % ring) (encoded_record item) ∙ ap (λ (n : ℕ). min (ring - item.position % ring) n) all;
      rest = length-drop (ring - item.position % ring) (encoded_record item) ∙ ap (λ (n : ℕ). n - (ring - item.position % ring)) all;
    }

-- the place of the i-th sector, in the first part or in the rest
at_first : (anchor ring : ℕ) (item : LogRecord) (i : ℕ) → HasParts anchor ring item → i < ring - item.position % ring
    → sector_of_position anchor ring (item.position + i) ≡ sector_of_position anchor ring item.position + i
at_first anchor ring item i parts lt =
    let e = place_low ring item.position i (omega (arith, parts.low)) in omega arith

at_rest : (anchor ring : ℕ) (item : LogRecord) (i : ℕ) → HasParts anchor ring item → ring - item.position % ring ≤ i → i < count_of item
    → sector_of_position anchor ring (item.position + i) ≡ anchor + 1 + (i - (ring - item.position % ring))
at_rest anchor ring item i parts le within =
    let e = place_high ring item.position i (omega (arith, parts.low)) (omega (arith, parts.low, parts.few)) in omega (arith, parts.low)

-- ---- both writes

-- a sector that no write came to
beside : (anchor ring : ℕ) (item : LogRecord) (old middle new : List Sector) → HasParts anchor ring item
    → IsTornAt (sector_of_position anchor ring item.position) (first_part ring item) old middle → IsTornAt (anchor + 1) (rest_part ring item) middle new
    → (at : ℕ) (d : Sector) → (IsPlaceOf anchor ring item at → ⊥) → get_or new at d ≡ get_or old at d
beside anchor ring item old middle new parts one two at d away =
    let p = sector_of_position anchor ring item.position in
    let m = ring - item.position % ring in
    let before : get_or middle at d ≡ get_or old at d = elim (cases_lt at p) [
      | inl lt ↦ one.before at d lt
      | inr le ↦ elim (cases_lt at (p + length (first_part ring item))) [
        | inr behind ↦ one.behind at d behind
        | inl inside ↦
            let i = at - p in
            let low : i < m = omega (arith, parts.first) in
            let is : at ≡ sector_of_position anchor ring (item.position + i) = omega (arith, at_first anchor ring item i parts low) in
            absurd (away (i, omega (arith, parts.first), is))
      ]
    ] in
    let after : get_or new at d ≡ get_or middle at d = elim (cases_lt at (anchor + 1)) [
      | inl lt ↦ two.before at d lt
      | inr le ↦ elim (cases_lt at (anchor + 1 + length (rest_part ring item))) [
        | inr behind ↦ two.behind at d behind
        | inl inside ↦
            let i = m + (at - (anchor + 1)) in
            let within : i < count_of item = omega (arith, parts.rest) in
            let is : at ≡ sector_of_position anchor ring (item.position + i) = omega (arith, at_rest anchor ring item i parts (omega arith) within) in
            absurd (away (i, within, is))
      ]
    ] in
    after ∙ before

-- a sector of the record
abbrev Either : List Sector → List Sector → LogRecord → ℕ → Sector → ℕ → Type 0
Either old new item i d at = (get_or new at d ≡ get_or old at d) ⊎ (get_or new at d ≡ record_sector item i)

torn_first : (anchor ring : ℕ) (item : LogRecord) (old middle new : List Sector) → HasParts anchor ring item
    → IsTornAt (sector_of_position anchor ring item.position) (first_part ring item) old middle → IsTornAt (anchor + 1) (rest_part ring item) middle new
    → (i : ℕ) (d : Sector) → i < count_of item → i < ring - item.position % ring → Either old new item i d (sector_of_position anchor ring item.position + i)
torn_first anchor ring item old middle new parts one two i d within low =
    let at = sector_of_position anchor ring item.position + i in
    let stays : get_or new at d ≡ get_or middle at d = two.behind at d (omega (arith, parts.rest, parts.few, parts.low)) in
    elim (one.inside i d (omega (arith, parts.first))) [
      | inl same ↦ inl (stays ∙ same)
      | inr put ↦ inr (stays ∙ put ∙ get_or-first ring item i d low within)
    ]

torn_rest : (anchor ring : ℕ) (item : LogRecord) (old middle new : List Sector) → HasParts anchor ring item
    → IsTornAt (sector_of_position anchor ring item.position) (first_part ring item) old middle → IsTornAt (anchor + 1) (rest_part ring item) middle new
    → (i j : ℕ) (d : Sector) → i < count_of item → ring - item.position % ring + j ≡ i → Either old new item i d (anchor + 1 + j)
torn_rest anchor ring item old middle new parts one two i j d within e =
    let at = anchor + 1 + j in
    let stays : get_or middle at d ≡ get_or old at d = one.before at d (omega (arith, parts.few, parts.low)) in
    elim (two.inside j d (omega (arith, parts.rest))) [
      | inl same ↦ inl (same ∙ stays)
      | inr put ↦ inr (put ∙ get_or-rest ring item j i d e within)
    ]

partly_logged : (anchor ring : ℕ) (item : LogRecord) (old middle new : List Sector) → HasParts anchor ring item → length new ≡ length old
    → IsTornAt (sector_of_position anchor ring item.position) (first_part ring item) old middle → IsTornAt (anchor + 1) (rest_part ring item) middle new
    → IsPartlyLogged anchor ring item old new
partly_logged anchor ring item old middle new parts size one two = record {
  size = size;
  places = λ i d within. elim (cases_lt i (ring - item.position % ring)) [
    | inl low ↦ subst (Either old new item i d) (sym (at_first anchor ring item i parts low)) (torn_first anchor ring item old middle new parts one two i d within low)
    | inr high ↦ subst (Either old new item i d) (sym (at_rest anchor ring item i parts high within))
        (torn_rest anchor ring item old middle new parts one two i (i - (ring - item.position % ring)) d within (omega arith))
  ];
  others = beside anchor ring item old middle new parts one two;
}

logged : (anchor ring : ℕ) (item : LogRecord) (old middle new : List Sector) → HasParts anchor ring item → length new ≡ length old
    → IsPutAt (sector_of_position anchor ring item.position) (first_part ring item) old middle → IsPutAt (anchor + 1) (rest_part ring item) middle new
    → IsLogged anchor ring item old new
logged anchor ring item old middle new parts size one two =
    let m = ring - item.position % ring in
    record {
      size = size;
      places = λ i d within. elim (cases_lt i m) [
        | inl low ↦
            let at = sector_of_position anchor ring item.position + i in
            let put : get_or new at d ≡ record_sector item i =
            two.behind at d (omega (arith, parts.rest, parts.few, parts.low)) ∙ one.inside i d (omega (arith, parts.first)) ∙ get_or-first ring item i d low within in
            subst (λ (k : ℕ). get_or new k d ≡ record_sector item i) (sym (at_first anchor ring item i parts low)) put
        | inr high ↦
            let put : get_or new (anchor + 1 + (i - m)) d ≡ record_sector item i =
            two.inside (i - m) d (omega (arith, parts.rest)) ∙ get_or-rest ring item (i - m) i d (omega arith) within in
            subst (λ (k : ℕ). get_or new k d ≡ record_sector item i) (sym (at_rest anchor ring item i parts high within)) put
      ];
      others = beside anchor ring item old middle new parts
          (put_torn (sector_of_position anchor ring item.position) (first_part ring item) old middle one) (put_torn (anchor + 1) (rest_part ring item) middle new two);
    }

-- ---- in the words of disks

pub record_first : (cells : List Cell) (image : List Sector) (anchor ring : ℕ) (item : LogRecord) → 0 < ring
    → count_of item ≤ ring → IsImage (written (sector_of_position anchor ring item.position) (first_part ring item) cells) image
    → (old : List Sector) × IsImage cells old × IsPartlyLogged anchor ring item old image
record_first cells image anchor ring item some few is =
    let p = sector_of_position anchor ring item.position in
    let torn = IsTorn-from_image p (first_part ring item) cells image is in
    let parts = has_parts anchor ring item some few in (
      torn.0,
      torn.1,
      partly_logged anchor ring item torn.0 image image parts (length-torn p (first_part ring item) torn.0 image torn.2)
          (torn_at p (first_part ring item) torn.0 image torn.2) (same_at (anchor + 1) (rest_part ring item) image image refl),
    )

pub record_both : (cells : List Cell) (image : List Sector) (anchor ring : ℕ) (item : LogRecord) → 0 < ring
    → count_of item ≤ ring → IsImage (written (anchor + 1) (rest_part ring item) (written (sector_of_position anchor ring item.position) (first_part ring item) cells)) image
    → (old : List Sector) × IsImage cells old × IsPartlyLogged anchor ring item old image
record_both cells image anchor ring item some few is =
    let p = sector_of_position anchor ring item.position in
    let half = written p (first_part ring item) cells in
    let two = IsTorn-from_image (anchor + 1) (rest_part ring item) half image is in
    let one = IsTorn-from_image p (first_part ring item) cells two.0 two.1 in
    let parts = has_parts anchor ring item some few in (
      one.0,
      one.1,
      partly_logged anchor ring item one.0 two.0 image parts
          (length-torn (anchor + 1) (rest_part ring item) two.0 image two.2 ∙ length-torn p (first_part ring item) one.0 two.0 one.2)
          (torn_at p (first_part ring item) one.0 two.0 one.2) (torn_at (anchor + 1) (rest_part ring item) two.0 image two.2),
    )

pub record_read : (cells : List Cell) (anchor ring : ℕ) (item : LogRecord) → anchor + 1 + ring ≤ length cells → 0 < ring → count_of item ≤ ring
    → IsLogged anchor ring item (as_read cells)
    (as_read (written (anchor + 1) (rest_part ring item) (written (sector_of_position anchor ring item.position) (first_part ring item) cells)))
record_read cells anchor ring item size some few =
    let p = sector_of_position anchor ring item.position in
    let half = written p (first_part ring item) cells in
    let whole = written (anchor + 1) (rest_part ring item) half in
    let parts = has_parts anchor ring item some few in
    let long_half : length half ≡ length cells = length-written p (first_part ring item) cells in
    let long_whole : length whole ≡ length half = length-written (anchor + 1) (rest_part ring item) half in
    logged anchor ring item (as_read cells) (as_read half) (as_read whole) parts
    (length-as_read whole ∙ long_whole ∙ long_half ∙ sym (length-as_read cells))
    (read_at p (first_part ring item) cells (omega (arith, parts.first, parts.low)))
    (read_at (anchor + 1) (rest_part ring item) half (omega (arith, parts.rest, parts.few, parts.low)))

home_groups : (home : ℕ) (records : List LogRecord) (sector : Sector) (old new : List Sector) → newest home (images_of records) ≡ Some sector
    → IsTornAt home (sector ∷ []) old new → (at : ℕ) (d : Sector)
    → (get_or new at d ≡ get_or old at d) ⊎ (newest at (images_of records) ≡ Some (get_or new at d))
home_groups home records sector old new is torn at d = elim (cases_order at home) [
  | inl same ↦
      let e : home + 0 ≡ at = omega arith in
      elim (torn.inside 0 d (omega arith)) [
        | inl old_one ↦ inl (subst (λ (k : ℕ). get_or new k d ≡ get_or old k d) e old_one)
        | inr put ↦
            let there : get_or new at d ≡ sector = subst (λ (k : ℕ). get_or new k d ≡ sector) e put in
            inr (ap (λ (k : ℕ). newest k (images_of records)) same ∙ is ∙ ap (λ (s : Sector). Some s) (sym there))
      ]
  | inr other ↦ elim other [
    | inl lt ↦ inl (torn.before at d lt)
    | inr gt ↦ inl (torn.behind at d (omega arith))
  ]
]

pub home_image : (cells : List Cell) (image : List Sector) (anchor home : ℕ) (records : List LogRecord) (sector : Sector) → home < anchor
    → newest home (images_of records) ≡ Some sector → IsImage (written home (sector ∷ []) cells) image
    → (old : List Sector) × IsImage cells old × IsPartlyHome anchor records old image
home_image cells image anchor home records sector low is written_image =
    let torn = IsTorn-from_image home (sector ∷ []) cells image written_image in
    let at = torn_at home (sector ∷ []) torn.0 image torn.2 in (
      torn.0,
      torn.1,
      record {
        size = length-torn home (sector ∷ []) torn.0 image torn.2;
        groups = λ place d lt. home_groups home records sector torn.0 image is at place d;
        others = λ place d from. at.behind place d (omega arith);
      },
    )

pub record_straight : (ring : ℕ) (item : LogRecord) → item.position % ring + count_of item ≤ ring
    → (first_part ring item ≡ encoded_record item) × (rest_part ring item ≡ [])
record_straight ring item fits =
    let all = length-all item in (
      take_all (ring - item.position % ring) (encoded_record item) (omega arith),
      drop_all (ring - item.position % ring) (encoded_record item) (omega arith),
    )
