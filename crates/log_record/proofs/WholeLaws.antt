-- Laws of whole records.
use Rattle.std.proofs.Common.{◌≡◌, ℕ, ◌+◌, ◌-◌, ◌*◌, ◌^◌, ◌<◌, ◌≤◌, List, [], length, take, drop, get_or, refl, sym, ap, ◌∙◌, arith}
use Rattle.std.specs.List.{flat_map}
use Rattle.std.proofs.lemmas.List.{take-take, drop-take}
use Rattle.std.proofs.lemmas.List.FromFn.{length-map-range_with_len}
use Rattle.byteorder.specs.Endian.{big_bytes, big_from}
use Rattle.byteorder.specs.Numbers.{big_from-take, big_number-reads_back}
use Rattle.life_bytes.specs.Fields.{field}
use Rattle.life_bytes.specs.declared.sector.Sector.{Sector}
use Rattle.log_record.specs.declared.image.Image.{Image}
use Rattle.log_record.specs.declared.record.LogRecord.{LogRecord}
use Rattle.log_record.specs.Whole.{at_place, IsWholeAt}
use Rattle.log_record.specs.Payload.{payload_of, window}
use Rattle.log_record.specs.Encoding.{IsRecord, FitsFields, image_bytes, payload, record_sector, sector_count, encoded_record, stamps}
use Rattle.log_record.proofs.Encoded.{header_of}
use Rattle.log_record.proofs.Images.{images-injective}
use Rattle.log_record.proofs.Window.{none}
use Rattle.log_record.proofs.Whole.{HasHeader, count_of, get_or-encoded, payload_header, payload_images, same_header, sector_part, whole_payload, whole_stamps}

pub length-encoded : (item : LogRecord) → length (encoded_record item) ≡ sector_count (length item.images)
unfolding encoded_record
length-encoded item = length-map-range_with_len (record_sector item) 0 (count_of item)

-- where a record is whole behind the first sector of another, the first parts of their payloads are the same
same_first_part : (ring : List Sector) (position : ℕ) (a b : LogRecord) → ((d : Sector) → at_place ring (position + 0) d ≡ record_sector a 0)
    → IsWholeAt ring position b → take 496 (drop (496 * 0) (payload a)) ≡ take 496 (drop (496 * 0) (payload b))
same_first_part ring position a b first isb =
    sym (sector_part a 0) ∙ ap (λ (s : Sector). drop 16 s.bytes) (sym (first none) ∙ isb.sectors 0 none (omega arith))
    ∙ sector_part b 0

same_headers : (ring : List Sector) (position : ℕ) (a b : LogRecord) → IsRecord a → FitsFields a
    → ((d : Sector) → at_place ring (position + 0) d ≡ record_sector a 0) → IsWholeAt ring position b
    → HasHeader a b.tail b.first b.commits (length b.images)
same_headers ring position a b form fits first isb =
    let le : 32 ≤ 496 = omega arith in
    let same : header_of a ≡ header_of b =
    sym (payload_header a) ∙ sym (take-take 32 496 (drop 0 (payload a)) le)
    ∙ ap (λ (l : List ℕ). take 32 l) (same_first_part ring position a b first isb)
    ∙ take-take 32 496 (drop 0 (payload b)) le ∙ payload_header b in
    let tail : b.tail < 2 ^ 64 = omega (arith, isb.form.tail, isb.form.positions) in
    let images : length b.images < 2 ^ 32 = omega (arith, isb.form.few) in
    same_header a b.tail b.first b.commits (length b.images) form fits tail isb.fits.first isb.fits.commits images same

-- the first sector of a record tells how many images it has
pub first-counts : (ring : List Sector) (position : ℕ) (a b : LogRecord) → IsRecord a → FitsFields a
    → ((d : Sector) → at_place ring position d ≡ record_sector a 0) → IsWholeAt ring position b → length a.images ≡ length b.images
first-counts ring position a b form fits first isb =
    (same_headers ring position a b form fits (λ d. ap (λ (p : ℕ). at_place ring p d) (omega arith) ∙ first d) isb).images

-- at a position of a ring at most one record is whole
pub whole-unique : (ring : List Sector) (position : ℕ) (a b : LogRecord) → IsWholeAt ring position a → IsWholeAt ring position b → a ≡ b
whole-unique ring position a b isa isb =
    let has = same_headers ring position a b isa.form isa.fits (λ d. isa.sectors 0 d (omega arith)) isb in
    let count : count_of a ≡ count_of b = ap (λ (m : ℕ). sector_count m) has.images in
    let payloads : payload a ≡ payload b =
    sym (whole_payload ring position a isa) ∙ ap (λ (k : ℕ). payload_of (window ring position k)) count ∙ whole_payload ring position b isb in
    let bytes : flat_map image_bytes a.images ≡ flat_map image_bytes b.images =
    sym (payload_images a isa.fits) ∙ ap (λ (m : ℕ). take (520 * m) (drop 32 (payload a))) has.images
    ∙ ap (λ (l : List ℕ). take (520 * length b.images) (drop 32 l)) payloads ∙ payload_images b isb.fits in
    let images : a.images ≡ b.images = images-injective a.images b.images isa.fits.images isb.fits.images has.images bytes in
    let of : ℕ → ℕ → ℕ → ℕ → List Image → LogRecord =
    λ p t f c l. record { position = p; tail = t; first = f; commits = c; images = l } in
    ap (λ (p : ℕ). of p a.tail a.first a.commits a.images) (isa.begins ∙ sym isb.begins)
    ∙ ap (λ (t : ℕ). of b.position t a.first a.commits a.images) has.tail
    ∙ ap (λ (f : ℕ). of b.position b.tail f a.commits a.images) has.first
    ∙ ap (λ (c : ℕ). of b.position b.tail b.first c a.images) has.commits
    ∙ ap (λ (l : List Image). of b.position b.tail b.first b.commits l) images

-- a record that stands in its places, in a ring that has room for it, is whole
pub whole_from_encoded : (ring : List Sector) (item : LogRecord) → IsRecord item → FitsFields item
    → item.position + sector_count (length item.images) - item.tail ≤ length ring
    → ((i : ℕ) (d : Sector) → i < length (encoded_record item) → at_place ring (item.position + i) d ≡ get_or (encoded_record item) i d)
    → IsWholeAt ring item.position item
whole_from_encoded ring item form fits room stands = record {
  begins = refl;
  form = form;
  fits = fits;
  room = room;
  sectors = λ i d h. stands i d (omega (arith, length-encoded item)) ∙ get_or-encoded item i d h;
}

-- only the sectors in a record's places tell whether it is whole
pub whole-same_places : (ring other : List Sector) (position : ℕ) (item : LogRecord) → length other ≡ length ring
    → ((i : ℕ) (d : Sector) → i < sector_count (length item.images) → at_place other (position + i) d ≡ at_place ring (position + i) d)
    → IsWholeAt ring position item → IsWholeAt other position item
whole-same_places ring other position item size same is = record {
  begins = is.begins;
  form = is.form;
  fits = is.fits;
  room = omega (arith, is.room);
  sectors = λ i d h. same i d h ∙ is.sectors i d h;
}

-- the numbers in a sector's stamps
field-stamps : (bytes : List ℕ) (p f : ℕ) → take 16 bytes ≡ stamps p f → p < 2 ^ 64 → field 8 0 bytes ≡ p
unfolding stamps
field-stamps bytes p f same small =
    let le : 0 + 8 ≤ 16 = omega arith in
    sym (big_from-take 0 8 16 bytes le) ∙ ap (λ (l : List ℕ). big_from 0 8 l) same ∙ big_number-reads_back 8 p (big_bytes 8 f) small

field-stamps_first : (bytes : List ℕ) (p f : ℕ) → take 16 bytes ≡ stamps p f → f < 2 ^ 64 → field 8 8 bytes ≡ f
unfolding stamps
field-stamps_first bytes p f same small =
    let le : 0 + 8 ≤ 8 = omega arith in
    sym (big_from-take 0 8 8 (drop 8 bytes) le) ∙ ap (λ (l : List ℕ). big_from 0 8 l) (sym (drop-take 8 8 bytes))
    ∙ ap (λ (l : List ℕ). big_from 0 8 (drop 8 l)) same ∙ big_number-reads_back 8 f [] small

-- each sector of a whole record begins with its own position, and then the record's
pub whole_field : (ring : List Sector) (position i : ℕ) (d : Sector) (item : LogRecord) → IsWholeAt ring position item
    → i < sector_count (length item.images)
    → (field 8 0 (at_place ring (position + i) d).bytes ≡ position + i) × (field 8 8 (at_place ring (position + i) d).bytes ≡ position)
whole_field ring position i d item is within =
    let same = whole_stamps ring position item is i d within in
    let begins : item.position ≡ position = is.begins in
    let positions : item.position + count_of item ≤ 2 ^ 64 = is.form.positions in (
      field-stamps (at_place ring (position + i) d).bytes (position + i) position same (omega arith),
      field-stamps_first (at_place ring (position + i) d).bytes (position + i) position same (omega arith),
    )
