-- Sectors whose stamps and payload are those of a record are what the record is encoded as.
use Rattle.std.proofs.Common.{◌≡◌, ℕ, zero, suc, ◌+◌, ◌-◌, ◌*◌, ◌<◌, ◌≤◌, List, [], ◌∷◌, ◌++◌, length, take, drop, get_or, map, replicate, refl, sym, ap, ◌∙◌, arith, append_assoc, subst}
use Rattle.std.specs.List.{flat_map, All}
use Rattle.std.proofs.Math.Seq.{drop-append-add}
use Rattle.std.proofs.lemmas.List.{take_at, drop_at, take-append-drop, get_or-map, length-append, length-drop, length-replicate, drop-replicate, replicate-append-replicate, length-map, take_more, flat_map_more}
use Rattle.std.proofs.lemmas.List.Elements.{All-push}
use Rattle.std.proofs.lemmas.List.FromFn.{fill_by_all}
use Rattle.life_bytes.specs.Fields.{with_piece, with_field}
use Rattle.life_bytes.specs.declared.sector.Sector.{Sector}
use Rattle.life_bytes.specs.Sectors.{AreSectors}
use Rattle.log_record.specs.declared.image.Image.{Image}
use Rattle.log_record.specs.declared.record.LogRecord.{LogRecord}
use Rattle.log_record.specs.Payload.{payload_of, part_of, stamps_of, HasStamps}
use Rattle.log_record.specs.Encoding.{FitsImage, sector_count, record_header, image_bytes, payload, stamps, record_sector, encoded_record}

abbrev sector_of : List ℕ → Sector
sector_of bytes = record { bytes = bytes }

pub length-stamps : (p f : ℕ) → length (stamps p f) ≡ 16
unfolding stamps
length-stamps p f = refl

pub length-header : (tail first commits images : ℕ) → length (record_header tail first commits images) ≡ 32
unfolding record_header
length-header tail first commits images = refl

pub length-image_bytes : (image : Image) → FitsImage image → length (image_bytes image) ≡ 520
unfolding image_bytes
length-image_bytes image is = omega (arith, is.size)

pub length-images : (images : List Image) → All FitsImage images → length (flat_map image_bytes images) ≡ 520 * length images
length-images [] all = refl
length-images (x ∷ xs) all =
    omega (arith, length-append (image_bytes x) (flat_map image_bytes xs), length-image_bytes x (all 0 x (omega arith)), length-images xs (λ k d h. all (suc k) d (omega arith)))

-- a sector's part of the payload
pub part_at : (xs : List Sector) (i : ℕ) (d : Sector) → AreSectors xs → i < length xs
    → take 496 (drop (496 * i) (payload_of xs)) ≡ part_of (get_or xs i d)
unfolding payload_of
part_at [] i d whole within = absurd (omega arith)
part_at (x ∷ xs) zero d whole within =
    let wide : length x.bytes ≡ 512 = whole 0 d (omega arith) in
    take_at (drop 16 x.bytes) (payload_of xs) 496 (omega (arith, length-drop 16 x.bytes))
part_at (x ∷ xs) (suc i) d whole within =
    let wide : length x.bytes ≡ 512 = whole 0 d (omega arith) in
    let tail : AreSectors xs = λ k e h. whole (suc k) e (omega arith) in
    let e : 496 * suc i ≡ length (drop 16 x.bytes) + 496 * i = omega (arith, length-drop 16 x.bytes) in
    ap (λ (k : ℕ). take 496 (drop k (drop 16 x.bytes ++ payload_of xs))) e
    ∙ ap (λ (l : List ℕ). take 496 l) (drop-append-add (drop 16 x.bytes) (payload_of xs) (496 * i))
    ∙ part_at xs i d tail (omega arith)

sector_is : (item : LogRecord) (i : ℕ) → sector_of (stamps (item.position + i) item.position ++ take 496 (drop (496 * i) (payload item))) ≡ record_sector item i
unfolding record_sector
sector_is item i = refl

-- the sectors of a record are told by their stamps and their payload
pub encoded_from_parts : (xs : List Sector) (item : LogRecord) → length xs ≡ sector_count (length item.images)
    → AreSectors xs → HasStamps item.position xs → payload_of xs ≡ payload item → xs ≡ encoded_record item
unfolding encoded_record
encoded_from_parts xs item count whole stamped same =
    let none : Sector = record { bytes = [] } in
    fill_by_all (record_sector item) xs (sector_count (length item.images)) none count
    (λ k h.
    let within : k < length xs = omega arith in
    let x = get_or xs k none in
    let front : take 16 x.bytes ≡ stamps (item.position + k) item.position =
    sym (get_or-map stamps_of xs k none [] within) ∙ stamped k within in
    let back : drop 16 x.bytes ≡ take 496 (drop (496 * k) (payload item)) =
    sym (part_at xs k none whole within) ∙ ap (λ (l : List ℕ). take 496 (drop (496 * k) l)) same in
    let both : x.bytes ≡ stamps (item.position + k) item.position ++ take 496 (drop (496 * k) (payload item)) =
    sym (take-append-drop 16 x.bytes) ∙ ap (λ (l : List ℕ). l ++ drop 16 x.bytes) front ∙ ap (λ (l : List ℕ). stamps (item.position + k) item.position ++ l) back in
    ap sector_of both ∙ sector_is item k)

-- sectors that are stamped, with a payload of zero bytes
pub blank_whole : (xs : List Sector) (p : ℕ)
    → ((i : ℕ) (d : Sector) → i < length xs → (get_or xs i d).bytes ≡ stamps (p + i) p ++ replicate 496 0) → AreSectors xs
blank_whole xs p blank k d h =
    ap (λ (l : List ℕ). length l) (blank k d h)
    ∙ omega (arith, length-append (stamps (p + k) p) (replicate 496 0), length-stamps (p + k) p, length-replicate {A = ℕ} 496 0)

pub blank_stamps : (xs : List Sector) (p : ℕ)
    → ((i : ℕ) (d : Sector) → i < length xs → (get_or xs i d).bytes ≡ stamps (p + i) p ++ replicate 496 0) → HasStamps p xs
blank_stamps xs p blank k h =
    let none : Sector = record { bytes = [] } in
    get_or-map stamps_of xs k none [] h ∙ ap (λ (l : List ℕ). take 16 l) (blank k none h)
    ∙ take_at (stamps (p + k) p) (replicate 496 0) 16 (length-stamps (p + k) p)

zero_parts : (xs : List Sector) → ((i : ℕ) (d : Sector) → i < length xs → part_of (get_or xs i d) ≡ replicate 496 0)
    → payload_of xs ≡ replicate (496 * length xs) 0
unfolding payload_of
zero_parts [] zeros = refl
zero_parts (x ∷ xs) zeros =
    let part : drop 16 x.bytes ≡ replicate 496 0 = zeros 0 x (omega arith) in
    let rest : payload_of xs ≡ replicate (496 * length xs) 0 = zero_parts xs (λ k d h. zeros (suc k) d (omega arith)) in
    let e : 496 + 496 * length xs ≡ 496 * suc (length xs) = omega arith in
    ap (λ (l : List ℕ). l ++ payload_of xs) part ∙ ap (λ (l : List ℕ). replicate 496 0 ++ l) rest
    ∙ replicate-append-replicate 496 (496 * length xs) 0 ∙ ap (λ (k : ℕ). replicate k 0) e

pub blank_payload : (xs : List Sector) (p : ℕ)
    → ((i : ℕ) (d : Sector) → i < length xs → (get_or xs i d).bytes ≡ stamps (p + i) p ++ replicate 496 0)
    → payload_of xs ≡ replicate (496 * length xs) 0
blank_payload xs p blank =
    zero_parts xs (λ k d h. ap (λ (l : List ℕ). drop 16 l) (blank k d h) ∙ drop_at (stamps (p + k) p) (replicate 496 0) 16 (length-stamps (p + k) p))

-- a piece put over the zero bytes behind a front
pub with_piece-zeros : (front piece : List ℕ) (n at m : ℕ) → length front ≡ at → n ≤ m
    → with_piece n at piece (front ++ replicate m 0) ≡ front ++ piece ++ replicate (m - n) 0
with_piece-zeros front piece n at m start fits =
    let behind : drop (length front + n) (front ++ replicate m 0) ≡ replicate (m - n) 0 =
    drop-append-add front (replicate m 0) n ∙ drop-replicate n m 0 in
    ap (λ (k : ℕ). with_piece n k piece (front ++ replicate m 0)) (sym start)
    ∙ ap (λ (l : List ℕ). l ++ (piece ++ drop (length front + n) (front ++ replicate m 0))) (take_at front (replicate m 0) (length front) refl)
    ∙ ap (λ (l : List ℕ). front ++ (piece ++ l)) behind ∙ sym (append_assoc front piece (replicate (m - n) 0))

-- stamps, written one after the other
pub stamps_are : (position first : ℕ) → with_field 8 8 first (with_field 8 0 position (replicate 16 0)) ≡ stamps position first
unfolding stamps
stamps_are position first = refl

pub stamped_is : (position first : ℕ)
    → with_field 8 8 first (with_field 8 0 position (replicate 512 0)) ≡ stamps position first ++ replicate 496 0
unfolding stamps
stamped_is position first = refl

-- the header of a record
abbrev pub header_of : LogRecord → List ℕ
header_of item = record_header item.tail item.first item.commits (length item.images)

-- the fields of a header, written one after the other
pub header_is : (tail first commits images : ℕ) → with_field 4 24 (sector_count images) (with_field 4 20 images
    (with_field 4 16 commits (with_field 8 8 first (with_field 8 0 tail (replicate 32 0))))) ≡ record_header tail first commits images
unfolding record_header
header_is tail first commits images = refl

-- the next image put behind those before it
pub image_step : (front : List ℕ) (images : List Image) (i at total : ℕ) (d : Image) → i < length images
    → length (front ++ flat_map image_bytes (take i images)) ≡ at → at + 520 ≤ total
    → with_piece 520 at (image_bytes (get_or images i d)) (front ++ flat_map image_bytes (take i images) ++ replicate (total - at) 0)
    ≡ front ++ flat_map image_bytes (take (i + 1) images) ++ replicate (total - (at + 520)) 0
image_step front images i at total d within start room =
    let e : total - at - 520 ≡ total - (at + 520) = omega arith in
    let fits : 520 ≤ total - at = omega arith in
    with_piece-zeros (front ++ flat_map image_bytes (take i images)) (image_bytes (get_or images i d)) 520 at (total - at) start fits
    ∙ ap (λ (l : List ℕ). l ++ replicate (total - at - 520) 0)
    (flat_map_more image_bytes front (take i images) (get_or images i d)
    ∙ ap (λ (l : List Image). front ++ flat_map image_bytes l) (sym (take_more images i d within)))
    ∙ ap (λ (k : ℕ). front ++ flat_map image_bytes (take (i + 1) images) ++ replicate k 0) e

-- the stamps stay where only payload is written
pub stamps_follow : (xs ys : List Sector) (p : ℕ) → map stamps_of ys ≡ map stamps_of xs → HasStamps p xs → HasStamps p ys
stamps_follow xs ys p same stamped i h =
    let le : i < length xs = omega (arith, length-map xs stamps_of, length-map ys stamps_of, ap (λ (l : List (List ℕ)). length l) same) in
    ap (λ (l : List (List ℕ)). get_or l i []) same ∙ stamped i le

-- one more image that is one
pub more_images : (images : List Image) (i : ℕ) (d : Image) → i < length images → All FitsImage (take i images) → FitsImage (get_or images i d)
    → All FitsImage (take (i + 1) images)
more_images images i d within all is =
    let P : List Image → Type 0 = λ l. All FitsImage l in
    subst P (sym (take_more images i d within)) (All-push FitsImage (take i images) (get_or images i d) all is)
