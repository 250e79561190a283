-- Words as they stand in sectors.
use Rattle.std.proofs.Common.{◌≡◌, ◌<◌, ◌≤◌, ◌+◌, ◌-◌, ◌*◌, ◌/◌, ◌%◌, ◌^◌, ℕ, zero, suc, false, eqb, ltb, List, [], ◌∷◌, ◌++◌, length, get_or, set, take, drop, get_or-set_same, get_or-set_other, min, inl, inr, refl, ap, sym, ◌∙◌, arith}
use Rattle.std.specs.Prelude.{bit_and, ◌&&◌}
use Rattle.std.specs.Int.{bit_at}
use Rattle.std.specs.List.{flat_map}
use Rattle.std.proofs.lemmas.Nat.Bits.{bit_at_cat_low, bit_at_cat_high, bit_at_and, bit_at-lt, bit_at_ones, bit_at_ones_above, bit_at-zero}
use Rattle.std.proofs.lemmas.List.{get_or_past, get_or-drop, get_or-take, get_or_append_left, get_or-append_right, length-take-le, length-take, length-drop, length-append, take_more, take_more_set, append-nil, take-take, drop-take, take-append-drop}
use Rattle.std.proofs.lemmas.List.Concat.{flat_map-append}
use borrow.Rule.Slice.PartMut.{put_mid}
use Rattle.byteorder.specs.Endian.{little_number, little_from, little_bytes, IsRead}
use Rattle.life_bytes.specs.Fields.{AreBytes}
use Rattle.life_bytes.specs.SectorBytes.{bytes_of}
use Rattle.life_bytes.specs.declared.sector.Sector.{Sector}
use Rattle.std.proofs.lemmas.Bool.{cases_lt, cases_eq, lt-ltb, le-ltb, and_right}
use Rattle.free_map.specs.Bitmap.{says_free}
use Rattle.free_map.specs.Words.{block_bit}

-- the k-th number of 8 bytes
unfoldable pub word_at : List ℕ → ℕ → ℕ
word_at bytes k = little_number 8 (drop (8 * k) bytes)

-- word k without the bits of the blocks from a number on
unfoldable pub cleared_word : ℕ → ℕ → ℕ → ℕ
cleared_word blocks k word = bit_and word (2 ^ (min (blocks - 64 * k) 64) - 1)

-- a bit of a number that is read
little_bit : (i n p : ℕ) (bytes : List ℕ) → AreBytes bytes → p < 8 * n → bit_at (little_from i n bytes) p ≡ bit_at (get_or bytes (i + p / 8) 0) (p % 8)
little_bit i zero p bytes small h = absurd (omega arith)
little_bit i (suc n) p bytes small h =
    let rest : ℕ = little_from (suc i) n bytes in
    let form : get_or bytes i 0 + 256 * rest ≡ rest * 2 ^ 8 + get_or bytes i 0 = omega arith in
    ap (λ (x : ℕ). bit_at x p) form ∙ elim (cases_lt p 8) [
      | inl low ↦
          let place : i + p / 8 ≡ i = omega arith in
          let at : p % 8 ≡ p = omega arith in
          bit_at_cat_low rest 8 (get_or bytes i 0) p low ∙ rw (place, at) refl
      | inr high ↦
          let place : suc i + (p - 8) / 8 ≡ i + p / 8 = omega arith in
          let at : (p - 8) % 8 ≡ p % 8 = omega arith in
          bit_at_cat_high rest 8 (get_or bytes i 0) p (small i) high
          ∙ little_bit (suc i) n (p - 8) bytes small (omega arith)
          ∙ rw (place, at) refl
    ]

-- a bit of the k-th word
pub word_bit : (bytes : List ℕ) (k p : ℕ) → AreBytes bytes → p < 64 → bit_at (word_at bytes k) p ≡ bit_at (get_or bytes (8 * k + p / 8) 0) (p % 8)
unfolding word_at
word_bit bytes k p small h =
    little_bit 0 8 p (drop (8 * k) bytes) (λ i. rw (get_or-drop (8 * k) bytes i 0) (small (8 * k + i))) h
    ∙ ap (λ (x : ℕ). bit_at x (p % 8)) (
    get_or-drop (8 * k) bytes (0 + p / 8) 0
    ∙ (let e : 0 + p / 8 ≡ p / 8 = omega arith in ap (λ (j : ℕ). get_or bytes (8 * k + j) 0) e))

-- words that are read say what the bytes say
pub words_say : (words bytes : List ℕ) (m : ℕ) → AreBytes bytes → ((k : ℕ) → k < m → get_or words k 0 ≡ word_at bytes k)
    → (b : ℕ) → b < 64 * m → block_bit words b ≡ says_free bytes b
words_say words bytes m small read b h =
    let place : 8 * (b / 64) + b % 64 / 8 ≡ b / 8 = omega arith in
    let at : b % 64 % 8 ≡ b % 8 = omega arith in
    ap (λ (x : ℕ). eqb x 1) (
    ap (λ (x : ℕ). bit_at x (b % 64)) (read (b / 64) (omega arith))
    ∙ word_bit bytes (b / 64) (b % 64) small (omega arith)
    ∙ rw (place, at) refl)

-- numbers read from bytes that agree are equal
little-agree : (i n : ℕ) (xs ys : List ℕ) → ((j : ℕ) → j < i + n → get_or xs j 0 ≡ get_or ys j 0) → little_from i n xs ≡ little_from i n ys
little-agree i zero xs ys same = refl
little-agree i (suc n) xs ys same =
    let first = same i (omega arith) in
    let rest = little-agree (suc i) n xs ys (λ j h. same j (omega arith)) in
    rw (first, rest) refl

-- a word that stands in the front of some bytes
word_at-left : (old piece : List ℕ) (k : ℕ) → 8 * k + 8 ≤ length old → word_at (old ++ piece) k ≡ word_at old k
unfolding word_at
word_at-left old piece k h =
    little-agree 0 8 (drop (8 * k) (old ++ piece)) (drop (8 * k) old) (λ j l.
    get_or-drop (8 * k) (old ++ piece) j 0 ∙ get_or_append_left old piece 0 (8 * k + j) (omega arith) ∙ sym (get_or-drop (8 * k) old j 0))

-- a word that stands behind them
word_at-right : (old piece : List ℕ) (i k : ℕ) → length old ≡ 8 * i → i ≤ k → word_at (old ++ piece) k ≡ little_number 8 (drop (8 * (k - i)) piece)
unfolding word_at
word_at-right old piece i k long h =
    little-agree 0 8 (drop (8 * k) (old ++ piece)) (drop (8 * (k - i)) piece) (λ j l.
    let place : 8 * k + j - 8 * i ≡ 8 * (k - i) + j = omega arith in
    get_or-drop (8 * k) (old ++ piece) j 0
    ∙ get_or-append_right old piece (8 * i) (8 * k + j) 0 long (omega arith)
    ∙ ap (λ (m : ℕ). get_or piece m 0) place
    ∙ sym (get_or-drop (8 * (k - i)) piece j 0))

-- the words of one piece more
pub load_more : (old piece words got : List ℕ) (i : ℕ) → length old ≡ 512 * i → length piece ≡ 8 * length got → length got ≡ 64 → 64 * i + 64 ≤ length words
    → IsRead little_number 8 piece got
    → ((k : ℕ) → k < 64 * i → get_or words k 0 ≡ word_at old k)
    → (k : ℕ) → k < 64 * (i + 1) → get_or (put_mid (64 * i) (64 * i + 64 - 64 * i) words got) k 0 ≡ word_at (old ++ piece) k
load_more old piece words got i long whole many room read before k h =
    let width : 64 * i + 64 - 64 * i ≡ 64 = omega arith in
    let front : length (take (64 * i) words) ≡ 64 * i = length-take-le (64 * i) words (omega arith) in
    elim (cases_lt k (64 * i)) [
      | inl low ↦
          get_or_append_left (take (64 * i) words) _ 0 k (omega (arith, front))
          ∙ get_or-take (64 * i) words k 0 low
          ∙ before k low
          ∙ sym (word_at-left old piece k (omega arith))
      | inr high ↦
          get_or-append_right (take (64 * i) words) _ (64 * i) k 0 front high
          ∙ get_or_append_left got _ 0 (k - 64 * i) (omega arith)
          ∙ read (k - 64 * i) (omega arith)
          ∙ sym (word_at-right old piece (64 * i) k (omega arith) high)
    ]

-- bytes behind bytes
pub AreBytes-append : (xs ys : List ℕ) → AreBytes xs → AreBytes ys → AreBytes (xs ++ ys)
AreBytes-append xs ys bx by i =
    elim (cases_lt i (length xs)) [
      | inl low ↦ rw (get_or_append_left xs ys 0 i low) (bx i)
      | inr high ↦ rw (get_or-append_right xs ys (length xs) i 0 refl high) (by (i - length xs))
    ]

-- the bytes of one sector more
pub bytes_of-more : (sectors : List Sector) (i : ℕ) (d : Sector) → i < length sectors
    → bytes_of (take (i + 1) sectors) ≡ bytes_of (take i sectors) ++ (get_or sectors i d).bytes
bytes_of-more sectors i d h =
    ap bytes_of (take_more sectors i d h)
    ∙ flat_map-append (λ (s : Sector). s.bytes) (take i sectors) (get_or sectors i d ∷ [])
    ∙ ap (λ (xs : List ℕ). bytes_of (take i sectors) ++ xs) (append-nil (get_or sectors i d).bytes)

-- a part written over does not change the length
pub length_put : (a k width : ℕ) (xs ys : List ℕ) → width ≡ k → length ys ≡ k → a + k ≤ length xs → length (put_mid a width xs ys) ≡ length xs
length_put a k width xs ys w many room =
    length-append (take a xs) (ys ++ drop width (drop a xs))
    ∙ omega (arith, w, many, length-take a xs, length-append ys (drop width (drop a xs)), length-drop width (drop a xs), length-drop a xs)

-- a bit of a word that was cleared from a block on
pub cleared_bit : (words old : List ℕ) (blocks b : ℕ) → get_or words (b / 64) 0 ≡ cleared_word blocks (b / 64) (get_or old (b / 64) 0)
    → block_bit words b ≡ (ltb b blocks && block_bit old b)
unfolding cleared_word
cleared_bit words old blocks b now =
    let k : ℕ = b / 64 in
    let p : ℕ = b % 64 in
    let m : ℕ = min (blocks - 64 * k) 64 in
    let bit : bit_at (get_or words k 0) p ≡ min (bit_at (get_or old k 0) p) (bit_at (2 ^ m - 1) p) =
    ap (λ (x : ℕ). bit_at x p) now ∙ bit_at_and (get_or old k 0) (2 ^ m - 1) p in
    let small = bit_at-lt (get_or old k 0) p in
    elim (cases_lt b blocks) [
      | inl below ↦
          let one : bit_at (2 ^ m - 1) p ≡ 1 = bit_at_ones m p (omega arith) in
          rw (lt-ltb b blocks below) (ap (λ (x : ℕ). eqb x 1) (omega (arith, bit, one)))
      | inr past ↦
          let none : bit_at (2 ^ m - 1) p ≡ 0 = bit_at_ones_above m p (omega arith) in
          let nil : bit_at (get_or words k 0) p ≡ 0 = omega (arith, bit, none) in
          rw (le-ltb b blocks past, nil) refl
    ]

-- past the words no bit is set
pub has_past : (words : List ℕ) (b : ℕ) → length words ≤ b / 64 → block_bit words b ≡ false
has_past words b h = ap (λ (x : ℕ). eqb x 1) (ap (λ (x : ℕ). bit_at x (b % 64)) (get_or_past words (b / 64) 0 h) ∙ bit_at-zero (b % 64))

-- past the words both are false
pub uncleared_bit : (words old : List ℕ) (blocks b : ℕ) → length words ≤ b / 64 → length old ≤ b / 64 → block_bit words b ≡ (ltb b blocks && block_bit old b)
uncleared_bit words old blocks b h g = has_past words b h ∙ sym (and_right (ltb b blocks) (block_bit old b) (has_past old b g))

-- one word more is cleared
pub clear_more : (words old : List ℕ) (blocks i left mask : ℕ) → i < length words → left ≡ blocks - 64 * i → mask ≡ 2 ^ (min left 64) - 1
    → ((k : ℕ) → k < i → get_or words k 0 ≡ cleared_word blocks k (get_or old k 0)) → get_or words i 0 ≡ get_or old i 0
    → (k : ℕ) → k < i + 1 → get_or (set words i (bit_and (get_or words i 0) mask)) k 0 ≡ cleared_word blocks k (get_or old k 0)
unfolding cleared_word
clear_more words old blocks i left mask within l m before here k h =
    elim (cases_eq k i) [
      | inl e ↦ rw (e, get_or-set_same words i (bit_and (get_or words i 0) mask) 0 within, here, m, l) refl
      | inr ne ↦ rw (get_or-set_other words i k (bit_and (get_or words i 0) mask) 0 ne) (before k (omega (arith, ne)))
    ]

-- two parts of a front
take-append-take : (m n : ℕ) (xs : List ℕ) → take m xs ++ take n (drop m xs) ≡ take (m + n) xs
take-append-take m n xs =
    ap (λ (ys : List ℕ). ys ++ take n (drop m xs)) (sym (take-take m (m + n) xs (omega arith)))
    ∙ ap (λ (ys : List ℕ). take m (take (m + n) xs) ++ ys) (sym (drop-take m n xs))
    ∙ take-append-drop m (take (m + n) xs)

-- the sectors written so far, with one more
pub store_more : (into : List Sector) (words bytes : List ℕ) (i : ℕ) → i < length into → 64 * i + 64 ≤ length words
    → bytes ≡ flat_map (little_bytes 8) (take (64 * i + 64 - 64 * i) (drop (64 * i) words))
    → bytes_of (take i into) ≡ flat_map (little_bytes 8) (take (64 * i) words)
    → bytes_of (take (i + 1) (set into i record { bytes = bytes })) ≡ flat_map (little_bytes 8) (take (64 * (i + 1)) words)
store_more into words bytes i within room written before =
    let width : 64 * i + 64 - 64 * i ≡ 64 = omega arith in
    let next : 64 * i + 64 ≡ 64 * (i + 1) = omega arith in
    ap bytes_of (take_more_set into i record { bytes = bytes } within)
    ∙ flat_map-append (λ (s : Sector). s.bytes) (take i into) (record { bytes = bytes } ∷ [])
    ∙ ap (λ (xs : List ℕ). bytes_of (take i into) ++ xs) (append-nil bytes ∙ written ∙ ap (λ (n : ℕ). flat_map (little_bytes 8) (take n (drop (64 * i) words))) width)
    ∙ ap (λ (xs : List ℕ). xs ++ flat_map (little_bytes 8) (take 64 (drop (64 * i) words))) before
    ∙ sym (flat_map-append (little_bytes 8) (take (64 * i) words) (take 64 (drop (64 * i) words)))
    ∙ ap (flat_map (little_bytes 8)) (take-append-take (64 * i) 64 words ∙ ap (λ (n : ℕ). take n words) next)
