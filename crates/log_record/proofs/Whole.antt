-- What a whole record tells of its ring, and the other way round.
use Rattle.std.proofs.Common.{◌≡◌, ℕ, zero, suc, ◌+◌, ◌-◌, ◌*◌, ◌%◌, ◌^◌, ◌<◌, ◌≤◌, List, ◌++◌, length, take, drop, get_or, map, replicate, refl, sym, ap, subst, ◌∙◌, arith, length-append}
use Rattle.std.specs.List.{flat_map, All}
use Rattle.std.specs.List.Sorted.{IsStrictlyIncreasing}
use Rattle.std.proofs.lemmas.List.{take_at, drop_at, take-append-drop, take_all, drop-drop, length-drop, length-take-le, length-replicate, nil_from_length, get_or_default}
use Rattle.std.proofs.lemmas.List.FromFn.{get_or-map-range_with_len}
use Rattle.life_bytes.specs.Fields.{field}
use Rattle.life_bytes.specs.declared.sector.Sector.{Sector}
use Rattle.life_bytes.specs.Sectors.{AreSectors}
use Rattle.log_record.specs.declared.image.Image.{Image}
use Rattle.log_record.specs.declared.record.LogRecord.{LogRecord}
use Rattle.log_record.specs.Whole.{at_place, IsWholeAt}
use Rattle.log_record.specs.declared.read.Header.{Header}
use Rattle.log_record.specs.Outline.{HasOutline, HasRoom, IsRecordHeader, IsStamped, filling, header_bytes}
use Rattle.log_record.specs.Payload.{payload_of, stamps_of, HasStamps, window, HoldsPayload}
use Rattle.log_record.specs.Encoding.{FitsImage, IsRecord, FitsFields, record_header, image_bytes, payload, record_sector, sector_count, encoded_record, stamps}
use Rattle.log_record.proofs.Encoded.{header_of, length-header, length-images, length-stamps, part_at, encoded_from_parts}
use Rattle.log_record.proofs.Images.{header_tail, header_first, header_commits, header_images, images-injective}
use Rattle.log_record.proofs.Window.{none, length-window, get_or-window, whole_window, stamps_of_window, HoldsPayload-append}

abbrev pub count_of : LogRecord → ℕ
count_of item = sector_count (length item.images)

payload_is : (item : LogRecord) → payload item ≡ header_of item ++ (flat_map image_bytes item.images ++ replicate (496 * count_of item - (32 + 520 * length item.images)) 0)
unfolding payload
payload_is item = refl

pub length-payload : (item : LogRecord) → FitsFields item → length (payload item) ≡ 496 * count_of item
length-payload item fits =
    let m = length item.images in
    let images : length (flat_map image_bytes item.images) ≡ 520 * m = length-images item.images fits.images in
    let rest : List ℕ = replicate (496 * count_of item - (32 + 520 * m)) 0 in
    let zeros : length rest ≡ 496 * count_of item - (32 + 520 * m) = length-replicate {A = ℕ} (496 * count_of item - (32 + 520 * m)) 0 in
    ap (λ (l : List ℕ). length l) (payload_is item)
    ∙ omega (
      arith,
      length-append (header_of item) (flat_map image_bytes item.images ++ rest),
      length-append (flat_map image_bytes item.images) rest,
      length-header item.tail item.first item.commits m,
    )

-- the parts of a payload
pub payload_header : (item : LogRecord) → take 32 (drop 0 (payload item)) ≡ header_of item
unfolding payload
payload_header item =
    let m = length item.images in
    take_at (header_of item) (flat_map image_bytes item.images ++ replicate (496 * count_of item - (32 + 520 * m)) 0) 32
    (length-header item.tail item.first item.commits m)

pub payload_images : (item : LogRecord) → FitsFields item
    → take (520 * length item.images) (drop 32 (payload item)) ≡ flat_map image_bytes item.images
unfolding payload
payload_images item fits =
    let m = length item.images in
    let zeros = replicate (496 * count_of item - (32 + 520 * m)) 0 in
    ap (λ (l : List ℕ). take (520 * m) l)
    (drop_at (header_of item) (flat_map image_bytes item.images ++ zeros) 32 (length-header item.tail item.first item.commits m))
    ∙ take_at (flat_map image_bytes item.images) zeros (520 * m) (length-images item.images fits.images)

pub payload_zeros : (item : LogRecord) → FitsFields item
    → drop (32 + 520 * length item.images) (payload item) ≡ replicate (496 * count_of item - (32 + 520 * length item.images)) 0
unfolding payload
payload_zeros item fits =
    let m = length item.images in
    let zeros = replicate (496 * count_of item - (32 + 520 * m)) 0 in
    sym (drop-drop (520 * m) 32 (header_of item ++ (flat_map image_bytes item.images ++ zeros)))
    ∙ ap (λ (l : List ℕ). drop (520 * m) l)
    (drop_at (header_of item) (flat_map image_bytes item.images ++ zeros) 32 (length-header item.tail item.first item.commits m))
    ∙ drop_at (flat_map image_bytes item.images) zeros (520 * m) (length-images item.images fits.images)

-- the parts of a record's sector
pub sector_stamps : (item : LogRecord) (i : ℕ) → stamps_of (record_sector item i) ≡ stamps (item.position + i) item.position
unfolding record_sector
sector_stamps item i =
    take_at (stamps (item.position + i) item.position) (take 496 (drop (496 * i) (payload item))) 16 (length-stamps (item.position + i) item.position)

pub sector_part : (item : LogRecord) (i : ℕ) → drop 16 (record_sector item i).bytes ≡ take 496 (drop (496 * i) (payload item))
unfolding record_sector
sector_part item i =
    drop_at (stamps (item.position + i) item.position) (take 496 (drop (496 * i) (payload item))) 16 (length-stamps (item.position + i) item.position)

pub sector_size : (item : LogRecord) (i : ℕ) → FitsFields item → i < count_of item → length (record_sector item i).bytes ≡ 512
unfolding record_sector
sector_size item i fits within =
    let all = length-payload item fits in
    let rest : length (drop (496 * i) (payload item)) ≡ length (payload item) - 496 * i = length-drop (496 * i) (payload item) in
    let part : length (take 496 (drop (496 * i) (payload item))) ≡ 496 = length-take-le 496 (drop (496 * i) (payload item)) (omega arith) in
    omega (
      arith,
      length-append (stamps (item.position + i) item.position) (take 496 (drop (496 * i) (payload item))),
      length-stamps (item.position + i) item.position,
    )

-- two lists of so many parts that have the same parts
same_from_parts : (n : ℕ) (xs ys : List ℕ) → length xs ≡ 496 * n → length ys ≡ 496 * n
    → ((i : ℕ) → i < n → take 496 (drop (496 * i) xs) ≡ take 496 (drop (496 * i) ys)) → xs ≡ ys
same_from_parts zero xs ys lx ly parts = nil_from_length xs (omega arith) ∙ sym (nil_from_length ys (omega arith))
same_from_parts (suc n) xs ys lx ly parts =
    let front : take 496 xs ≡ take 496 ys = parts 0 (omega arith) in
    let each : (i : ℕ) → i < n → take 496 (drop (496 * i) (drop 496 xs)) ≡ take 496 (drop (496 * i) (drop 496 ys)) = λ i h.
    let e : 496 * suc i ≡ 496 + 496 * i = omega arith in
    ap (λ (l : List ℕ). take 496 l) (drop-drop (496 * i) 496 xs ∙ ap (λ (k : ℕ). drop k xs) (sym e))
    ∙ parts (suc i) (omega arith)
    ∙ ap (λ (l : List ℕ). take 496 l) (ap (λ (k : ℕ). drop k ys) e ∙ sym (drop-drop (496 * i) 496 ys)) in
    let behind : drop 496 xs ≡ drop 496 ys =
    same_from_parts n (drop 496 xs) (drop 496 ys) (omega (arith, length-drop 496 xs)) (omega (arith, length-drop 496 ys)) each in
    sym (take-append-drop 496 xs) ∙ ap (λ (l : List ℕ). l ++ drop 496 xs) front ∙ ap (λ (l : List ℕ). take 496 ys ++ l) behind ∙ take-append-drop 496 ys

-- the sectors where a record is whole
pub whole_sectors : (ring : List Sector) (position : ℕ) (item : LogRecord) → IsWholeAt ring position item
    → AreSectors (window ring position (count_of item))
whole_sectors ring position item is =
    whole_window ring position (count_of item)
    (λ i h. ap (λ (s : Sector). length s.bytes) (is.sectors i none h) ∙ sector_size item i is.fits h)

pub whole_stamps : (ring : List Sector) (position : ℕ) (item : LogRecord) → IsWholeAt ring position item
    → (i : ℕ) (d : Sector) → i < count_of item → stamps_of (at_place ring (position + i) d) ≡ stamps (position + i) position
whole_stamps ring position item is i d h =
    ap (λ (s : Sector). stamps_of s) (is.sectors i d h) ∙ sector_stamps item i ∙ ap (λ (p : ℕ). stamps (p + i) p) is.begins

pub whole_payload : (ring : List Sector) (position : ℕ) (item : LogRecord) → IsWholeAt ring position item
    → payload_of (window ring position (count_of item)) ≡ payload item
whole_payload ring position item is =
    let w = window ring position (count_of item) in
    let whole = whole_sectors ring position item is in
    same_from_parts (count_of item) (payload_of w) (payload item)
    (Rattle.log_record.proofs.Pieces.length-payload_of w whole ∙ ap (λ (k : ℕ). 496 * k) (length-window ring position (count_of item)))
    (length-payload item is.fits)
    (λ i h. part_at w i none whole (omega (arith, length-window ring position (count_of item)))
    ∙ ap (λ (s : Sector). drop 16 s.bytes) (get_or-window ring position (count_of item) i none h ∙ is.sectors i none h)
    ∙ sector_part item i)

-- what was read of the payload is what the record has there
pub whole_holds : (ring : List Sector) (position : ℕ) (item : LogRecord) (at : ℕ) (bytes : List ℕ) → IsWholeAt ring position item
    → HoldsPayload ring position at bytes → at + length bytes ≤ 496 * count_of item → take (length bytes) (drop at (payload item)) ≡ bytes
whole_holds ring position item at bytes is held fits =
    ap (λ (l : List ℕ). take (length bytes) (drop at l)) (sym (whole_payload ring position item is))
    ∙ held (count_of item) (whole_sectors ring position item is) fits

-- the numbers of a record's header
pub record HasHeader (item : LogRecord) (t f c m : ℕ) : Type 0 where
  pub tail : item.tail ≡ t
  pub first : item.first ≡ f
  pub commits : item.commits ≡ c
  pub images : length item.images ≡ m

pub same_header : (item : LogRecord) (t f c m : ℕ) → IsRecord item → FitsFields item → t < 2 ^ 64 → f < 2 ^ 64 → c < 2 ^ 32 → m < 2 ^ 32
    → header_of item ≡ record_header t f c m → HasHeader item t f c m
same_header item t f c m form fits ht hf hc hm same =
    let i = length item.images in
    let tail : item.tail < 2 ^ 64 = omega (arith, form.tail, form.positions) in
    let images : i < 2 ^ 32 = omega (arith, form.few) in
    record {
      tail = sym (header_tail item.tail item.first item.commits i tail) ∙ ap (λ (l : List ℕ). field 8 0 l) same ∙ header_tail t f c m ht;
      first = sym (header_first item.tail item.first item.commits i fits.first) ∙ ap (λ (l : List ℕ). field 8 8 l) same ∙ header_first t f c m hf;
      commits = sym (header_commits item.tail item.first item.commits i fits.commits) ∙ ap (λ (l : List ℕ). field 4 16 l) same ∙ header_commits t f c m hc;
      images = sym (header_images item.tail item.first item.commits i images) ∙ ap (λ (l : List ℕ). field 4 20 l) same ∙ header_images t f c m hm;
    }

pub whole_header : (ring : List Sector) (position : ℕ) (item : LogRecord) (bytes : List ℕ) → IsWholeAt ring position item
    → HoldsPayload ring position 0 bytes → length bytes ≡ 32 → header_of item ≡ bytes
whole_header ring position item bytes is held size =
    sym (payload_header item) ∙ ap (λ (k : ℕ). take k (drop 0 (payload item))) (sym size)
    ∙ whole_holds ring position item 0 bytes is held (omega arith)

pub whole_images : (ring : List Sector) (position : ℕ) (item : LogRecord) (images : List Image) → IsWholeAt ring position item
    → All FitsImage images → length images ≡ length item.images → HoldsPayload ring position 32 (flat_map image_bytes images)
    → images ≡ item.images
whole_images ring position item images is all count held =
    let size : length (flat_map image_bytes images) ≡ 520 * length item.images = length-images images all ∙ ap (λ (k : ℕ). 520 * k) count in
    images-injective images item.images all is.fits.images count
    (sym (whole_holds ring position item 32 (flat_map image_bytes images) is held (omega arith))
    ∙ ap (λ (k : ℕ). take k (drop 32 (payload item))) size ∙ payload_images item is.fits)

pub whole_zeros : (ring : List Sector) (position : ℕ) (item : LogRecord) (bytes : List ℕ) → IsWholeAt ring position item
    → length bytes ≡ 496 * count_of item - (32 + 520 * length item.images)
    → HoldsPayload ring position (32 + 520 * length item.images) bytes → bytes ≡ replicate (length bytes) 0
whole_zeros ring position item bytes is size held =
    let zeros = payload_zeros item is.fits in
    let n = 496 * count_of item - (32 + 520 * length item.images) in
    sym (whole_holds ring position item (32 + 520 * length item.images) bytes is held (omega arith))
    ∙ ap (λ (l : List ℕ). take (length bytes) l) zeros
    ∙ take_all (length bytes) (replicate n 0) (omega (arith, length-replicate {A = ℕ} n 0))
    ∙ ap (λ (k : ℕ). replicate k 0) (sym size)

-- in a ring that is not empty each position has its place
pub any_default : (ring : List Sector) (position : ℕ) (d e : Sector) → 0 < length ring → at_place ring position d ≡ at_place ring position e
any_default ring position d e some = get_or_default ring (position % length ring) d e (omega arith)

pub get_or-encoded : (item : LogRecord) (i : ℕ) (d : Sector) → i < count_of item → get_or (encoded_record item) i d ≡ record_sector item i
unfolding encoded_record
get_or-encoded item i d within = get_or-map-range_with_len (record_sector item) 0 (count_of item) i i d within (omega arith)

-- a record whose sectors have its stamps and its payload is whole
pub whole_from_parts : (ring : List Sector) (item : LogRecord) → IsRecord item → FitsFields item
    → item.position + count_of item - item.tail ≤ length ring → AreSectors (window ring item.position (count_of item))
    → HasStamps item.position (window ring item.position (count_of item)) → HoldsPayload ring item.position 0 (payload item)
    → IsWholeAt ring item.position item
whole_from_parts ring item form fits room whole stamped held =
    let w = window ring item.position (count_of item) in
    let size = length-payload item fits in
    let all : length (payload_of w) ≡ 496 * count_of item =
    Rattle.log_record.proofs.Pieces.length-payload_of w whole ∙ ap (λ (k : ℕ). 496 * k) (length-window ring item.position (count_of item)) in
    let same : payload_of w ≡ payload item =
    sym (take_all (length (payload item)) (payload_of w) (omega arith)) ∙ held (count_of item) whole (omega arith) in
    let is : w ≡ encoded_record item = encoded_from_parts w item (length-window ring item.position (count_of item)) whole stamped same in
    record {
      begins = refl;
      form = form;
      fits = fits;
      room = room;
      sectors = λ i d h. any_default ring (item.position + i) d none (omega arith) ∙ sym (get_or-window ring item.position (count_of item) i none h)
          ∙ ap (λ (l : List Sector). get_or l i none) is ∙ get_or-encoded item i none h;
    }

-- a whole record's header, as its bytes were read
pub whole_numbers : (ring : List Sector) (position : ℕ) (item : LogRecord) (bytes : List ℕ) (h : Header) → IsWholeAt ring position item
    → HoldsPayload ring position 0 bytes → length bytes ≡ 32 → bytes ≡ header_bytes h → IsRecordHeader h
    → HasHeader item h.tail h.first h.commits h.images
whole_numbers ring position item bytes h is held size same form =
    let images : h.images < 2 ^ 32 = omega (arith, form.images) in
    same_header item h.tail h.first h.commits h.images is.form is.fits form.tail form.first form.commits images
    (whole_header ring position item bytes is held size ∙ same)

-- the numbers of a record's header
abbrev pub header_from : LogRecord → Header
header_from item = record { tail = item.tail; first = item.first; commits = item.commits; images = length item.images }

pub header_from-is : (item : LogRecord) → IsRecord item → FitsFields item → IsRecordHeader (header_from item)
header_from-is item form fits = record {
  tail = omega (arith, form.tail, form.positions);
  first = fits.first;
  commits = fits.commits;
  images = form.few;
}

pub whole_room : (ring : List Sector) (position : ℕ) (item : LogRecord) (h : Header) → IsWholeAt ring position item
    → HasHeader item h.tail h.first h.commits h.images → HasRoom h position (length ring)
whole_room ring position item h is has =
    let count : count_of item ≡ sector_count h.images = ap (λ (m : ℕ). sector_count m) has.images in
    let tail : item.tail ≤ item.position = is.form.tail in
    let positions : item.position + count_of item ≤ 2 ^ 64 = is.form.positions in
    let room : position + count_of item - item.tail ≤ length ring = is.room in
    let begins : item.position ≡ position = is.begins in
    let same : item.tail ≡ h.tail = has.tail in
    record { tail = omega arith; positions = omega arith; room = omega arith }

pub whole_stamped : (ring : List Sector) (position : ℕ) (item : LogRecord) (m : ℕ) → IsWholeAt ring position item → length item.images ≡ m
    → IsStamped ring position (sector_count m)
whole_stamped ring position item m is same =
    let P : ℕ → Type 0 = λ k. IsStamped ring position (sector_count k) in
    subst P same (whole_stamps ring position item is)

abbrev pub homes_of : List Image → List ℕ
homes_of images = map (λ (image : Image). image.home) images

-- what was read where all of a record but its images stands
abbrev pub read_as : ℕ → Header → List Image → LogRecord
read_as position h images = record { position = position; tail = h.tail; first = h.first; commits = h.commits; images = images }

-- the header, the images and the filling are the payload
pub payload_held : (ring : List Sector) (position : ℕ) (h : Header) (images : List Image) → length images ≡ h.images → All FitsImage images
    → HoldsPayload ring position 0 (header_bytes h) → HoldsPayload ring position 32 (flat_map image_bytes images)
    → HoldsPayload ring position (32 + 520 * h.images) (filling h.images)
    → HoldsPayload ring position 0 (payload (read_as position h images))
payload_held ring position h images count all head middle end =
    let item = read_as position h images in
    let flat = flat_map image_bytes images in
    let m = length images in
    let size : length flat ≡ 520 * m = length-images images all in
    let width : length (header_of item) ≡ 32 = length-header h.tail h.first h.commits m in
    let Head : ℕ → Type 0 = λ k. HoldsPayload ring position 0 (record_header h.tail h.first h.commits k) in
    let End : ℕ → Type 0 = λ k. HoldsPayload ring position (32 + 520 * k) (filling k) in
    let EndAt : ℕ → Type 0 = λ k. HoldsPayload ring position (32 + k) (filling m) in
    let MiddleAt : ℕ → Type 0 = λ k. HoldsPayload ring position (0 + k) (flat ++ filling m) in
    let Whole : List ℕ → Type 0 = λ l. HoldsPayload ring position 0 l in
    let ends = subst EndAt (sym size) (subst End (sym count) end) in
    let rest : HoldsPayload ring position 32 (flat ++ filling m) = HoldsPayload-append ring position 32 flat (filling m) middle ends in
    let thirty_two : 32 ≡ length (header_of item) = sym width in
    subst Whole (sym (payload_is item))
    (HoldsPayload-append ring position 0 (header_of item) (flat ++ filling m) (subst Head (sym count) head) (subst MiddleAt thirty_two rest))

pub whole_from_outline : (ring : List Sector) (position : ℕ) (h : Header) (images : List Image) → HasOutline ring position h
    → length images ≡ h.images → All FitsImage images → HoldsPayload ring position 32 (flat_map image_bytes images)
    → IsStrictlyIncreasing (homes_of images) → IsWholeAt ring position (read_as position h images)
whole_from_outline ring position h images outline count all held rising =
    let item = read_as position h images in
    let same : sector_count h.images ≡ count_of item = ap (λ (m : ℕ). sector_count m) (sym count) in
    let few : h.images ≤ 128 = outline.form.images in
    let tail : h.tail ≤ position = outline.room.tail in
    let positions : position + sector_count h.images ≤ 2 ^ 64 = outline.room.positions in
    let room : position + sector_count h.images - h.tail ≤ length ring = outline.room.room in
    let Sectors : ℕ → Type 0 = λ k. AreSectors (window ring position k) in
    let Stamped : ℕ → Type 0 = λ k. IsStamped ring position k in
    let stamped = subst Stamped same outline.stamped in
    whole_from_parts ring item
    (record { few = omega arith; homes = rising; tail = tail; positions = omega arith })
    (record { first = outline.form.first; commits = outline.form.commits; images = all })
    (omega arith)
    (subst Sectors same outline.whole)
    (stamps_of_window ring position (count_of item) (λ i h. stamped i none h))
    (payload_held ring position h images count all outline.header held outline.filling)

-- the images of a whole record are those that were read
pub whole_as_read : (ring : List Sector) (position : ℕ) (h : Header) (images : List Image) (item : LogRecord) → HasOutline ring position h
    → length images ≡ h.images → All FitsImage images → HoldsPayload ring position 32 (flat_map image_bytes images)
    → IsWholeAt ring position item → images ≡ item.images
whole_as_read ring position h images item outline count all held is =
    let numbers = whole_numbers ring position item (header_bytes h) h is outline.header
    (length-header h.tail h.first h.commits h.images) refl outline.form in
    whole_images ring position item images is all (count ∙ sym numbers.images) held
