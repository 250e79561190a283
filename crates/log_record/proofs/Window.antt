-- The sectors of a ring from a position on, and their payload.
use Rattle.std.proofs.Common.{◌≡◌, ℕ, zero, suc, ◌+◌, ◌-◌, ◌*◌, ◌/◌, ◌%◌, ◌<◌, ◌≤◌, List, [], ◌∷◌, ◌++◌, length, take, drop, get_or, map, replicate, refl, sym, ap, subst, ◌∙◌, arith}
use Rattle.std.specs.List.{flat_map, All}
use Rattle.std.proofs.Math.Nat.{div-add-mod}
use Rattle.std.proofs.Math.Seq.{take-add}
use Rattle.std.proofs.lemmas.List.{drop-take, take-take, drop-drop, get_or-map, length-drop, length-append, length-take-le, flat_map_more}
use Rattle.std.proofs.lemmas.Slice.{take-put_mid}
use borrow.Rule.Slice.PartMut.{put_mid}
use Rattle.std.proofs.lemmas.List.FromFn.{length-map-range_with_len, get_or-map-range_with_len}
use Rattle.life_bytes.specs.declared.sector.Sector.{Sector}
use Rattle.life_bytes.specs.Sectors.{AreSectors}
use Rattle.log_record.specs.declared.image.Image.{Image}
use Rattle.log_record.specs.Whole.{at_place}
use Rattle.log_record.specs.Payload.{payload_of, stamps_of, HasStamps, window, HoldsPayload}
use Rattle.log_record.specs.Encoding.{FitsImage, image_bytes, stamps}
use Rattle.log_record.proofs.Encoded.{length-images, part_at}

abbrev pub none : Sector
none = record { bytes = [] }

pub length-window : (ring : List Sector) (position count : ℕ) → length (window ring position count) ≡ count
unfolding window
length-window ring position count = length-map-range_with_len (λ i. at_place ring (position + i) none) 0 count

pub get_or-window : (ring : List Sector) (position count i : ℕ) (d : Sector) → i < count
    → get_or (window ring position count) i d ≡ at_place ring (position + i) none
unfolding window
get_or-window ring position count i d within =
    get_or-map-range_with_len (λ i. at_place ring (position + i) none) 0 count i i d within (omega arith)

-- a part of a part
part-of_part : (xs : List ℕ) (from at n m : ℕ) → at + n ≤ m → take n (drop at (take m (drop from xs))) ≡ take n (drop (from + at) xs)
part-of_part xs from at n m fits =
    let e : m ≡ at + (m - at) = omega arith in
    let le : n ≤ m - at = omega arith in
    ap (λ (k : ℕ). take n (drop at (take k (drop from xs)))) e
    ∙ ap (λ (l : List ℕ). take n l) (drop-take at (m - at) (drop from xs))
    ∙ take-take n (m - at) (drop at (drop from xs)) le
    ∙ ap (λ (l : List ℕ). take n l) (drop-drop at from xs)

-- a piece of the payload that lies in one sector
pub piece_at : (ring : List Sector) (position count at n : ℕ) → AreSectors (window ring position count) → at % 496 + n ≤ 496
    → 0 < n → at + n ≤ 496 * count
    → take n (drop at (payload_of (window ring position count))) ≡ take n (drop (16 + at % 496) (at_place ring (position + at / 496) none).bytes)
piece_at ring position count at n whole inside some fits =
    let place : 496 * (at / 496) + at % 496 ≡ at = div-add-mod at 496 in
    let within : at / 496 < count = omega arith in
    let w = window ring position count in
    let listed : at / 496 < length w = omega (arith, length-window ring position count) in
    ap (λ (k : ℕ). take n (drop k (payload_of w))) (sym place)
    ∙ sym (part-of_part (payload_of w) (496 * (at / 496)) (at % 496) n 496 inside)
    ∙ ap (λ (l : List ℕ). take n (drop (at % 496) l))
    (part_at w (at / 496) none whole listed ∙ ap (λ (s : Sector). drop 16 s.bytes) (get_or-window ring position count (at / 496) none within))
    ∙ ap (λ (l : List ℕ). take n l) (drop-drop (at % 496) 16 (at_place ring (position + at / 496) none).bytes)

-- two pieces, one behind the other
pub HoldsPayload-append : (ring : List Sector) (position at : ℕ) (xs ys : List ℕ) → HoldsPayload ring position at xs
    → HoldsPayload ring position (at + length xs) ys → HoldsPayload ring position at (xs ++ ys)
HoldsPayload-append ring position at xs ys front behind count whole fits =
    let p = payload_of (window ring position count) in
    let all : length (xs ++ ys) ≡ length xs + length ys = Rattle.std.proofs.Common.length-append xs ys in
    let first : take (length xs) (drop at p) ≡ xs = front count whole (omega arith) in
    let second : take (length ys) (drop (at + length xs) p) ≡ ys = behind count whole (omega arith) in
    ap (λ (k : ℕ). take k (drop at p)) all ∙ take-add (length xs) (length ys) (drop at p)
    ∙ ap (λ (l : List ℕ). take (length xs) (drop at p) ++ take (length ys) l) (drop-drop (length xs) at p)
    ∙ ap (λ (l : List ℕ). l ++ take (length ys) (drop (at + length xs) p)) first ∙ ap (λ (l : List ℕ). xs ++ l) second

-- the stamps of a window, place by place
pub stamps_of_window : (ring : List Sector) (position count : ℕ)
    → ((i : ℕ) → i < count → stamps_of (at_place ring (position + i) none) ≡ stamps (position + i) position)
    → HasStamps position (window ring position count)
stamps_of_window ring position count each i h =
    let within : i < count = omega (arith, length-window ring position count) in
    get_or-map stamps_of (window ring position count) i none [] h
    ∙ ap (λ (s : Sector). stamps_of s) (get_or-window ring position count i none within) ∙ each i within

pub whole_window : (ring : List Sector) (position count : ℕ)
    → ((i : ℕ) → i < count → length (at_place ring (position + i) none).bytes ≡ 512) → AreSectors (window ring position count)
whole_window ring position count each i d h =
    let within : i < count = omega (arith, length-window ring position count) in
    ap (λ (s : Sector). length s.bytes) (get_or-window ring position count i d within) ∙ each i within

-- the first bytes of the payload with one piece more, copied into a list
pub copied_more : (ring : List Sector) (position count at done n k : ℕ) (into piece : List ℕ) → AreSectors (window ring position count)
    → at + length into ≤ 496 * count → done + n ≤ length into → 0 < n → (at + done) % 496 + n ≤ 496 → k ≡ n
    → take done (drop at (payload_of (window ring position count))) ≡ take done into
    → piece ≡ take n (drop (16 + (at + done) % 496) (at_place ring (position + (at + done) / 496) none).bytes) → length piece ≡ n
    → take (done + n) (drop at (payload_of (window ring position count))) ≡ take (done + n) (put_mid done k into piece)
copied_more ring position count at done n k into piece whole fits within some inside width before is size =
    let p = payload_of (window ring position count) in
    take-add done n (drop at p)
    ∙ ap (λ (l : List ℕ). l ++ take n (drop done (drop at p))) before
    ∙ ap (λ (l : List ℕ). take done into ++ take n l) (drop-drop done at p)
    ∙ ap (λ (l : List ℕ). take done into ++ l) (piece_at ring position count (at + done) n whole inside some (omega arith) ∙ sym is)
    ∙ sym (take-put_mid done k into piece (done + n) (omega arith) (omega arith))

pub length-put_mid : (a k : ℕ) (xs ys : List ℕ) → length ys ≡ k → a + k ≤ length xs → length (put_mid a k xs ys) ≡ length xs
length-put_mid a k xs ys size within =
    omega (
      arith,
      length-append (take a xs) (ys ++ drop k (drop a xs)),
      length-append ys (drop k (drop a xs)),
      length-take-le a xs (omega arith),
      length-drop k (drop a xs),
      length-drop a xs,
    )

-- one image more
pub more_held : (ring : List Sector) (position i : ℕ) (images : List Image) (image : Image) → All FitsImage images → length images ≡ i
    → HoldsPayload ring position 32 (flat_map image_bytes images) → HoldsPayload ring position (32 + 520 * i) (image_bytes image)
    → HoldsPayload ring position 32 (flat_map image_bytes (images ++ image ∷ []))
more_held ring position i images image all count before here =
    let size : 520 * i ≡ length (flat_map image_bytes images) = sym (length-images images all ∙ ap (λ (k : ℕ). 520 * k) count) in
    let At : ℕ → Type 0 = λ k. HoldsPayload ring position (32 + k) (image_bytes image) in
    let Of : List ℕ → Type 0 = λ l. HoldsPayload ring position 32 l in
    subst Of (flat_map_more image_bytes [] images image)
    (HoldsPayload-append ring position 32 (flat_map image_bytes images) (image_bytes image) before (subst At size here))

-- bytes that are all zero
pub zeros_are : (xs : List ℕ) → ((i : ℕ) → i < length xs → get_or xs i 0 ≡ 0) → xs ≡ replicate (length xs) 0
zeros_are [] each = refl
zeros_are (x ∷ xs) each =
    let head : x ≡ 0 = each 0 (omega arith) in
    let rest : xs ≡ replicate (length xs) 0 = zeros_are xs (λ i h. each (suc i) (omega arith)) in
    cc
