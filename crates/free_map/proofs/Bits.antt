-- Bits of words, and a set of blocks by its words.
use Rattle.std.proofs.Common.{◌≡◌, ◌≢◌, ◌<◌, ◌≤◌, ◌+◌, ◌-◌, ◌*◌, ◌/◌, ◌%◌, ◌^◌, ℕ, true, false, eqb, List, [], ◌∷◌, ◌++◌, length, take, get_or, set, inl, inr, refl, ap, sym, ◌∙◌, arith, get_or-set_same, get_or-set_other}
use Rattle.std.specs.Prelude.{bit_and, bit_or}
use Rattle.std.specs.Int.{bit_at, bit_not, trailing_zeros, w64}
use Rattle.std.specs.List.{range_with_len, filter}
use Rattle.std.proofs.lemmas.Bool.{cases_eq}
use Rattle.std.proofs.lemmas.List.{append_assoc, append-nil, take_all, take_at, take-append-le, length-take}
use Rattle.std.proofs.lemmas.List.Elements.{filter-append}
use Rattle.std.proofs.lemmas.Nat.{shr-shr, and_le_r}
use Rattle.std.proofs.lemmas.Nat.Bits.{bit_at_clear_same, bit_at_clear_other, bit_at_set_same, bit_at_set_other, bit_at-lt, bit_at-zero, bit_at_and, bit_at_ones, bit_at-trailing_zeros, same_from_bits_below}
use Rattle.life_bytes.specs.Bits.{is_set}
use Rattle.free_map.specs.Words.{block_bit, places, IsFull}
use Rattle.free_map.proofs.Ranges.{filter-range_first, filter-range_none, filter-range_agree, range-append}

-- the block of a word that was written
pub has-set_same : (words : List ℕ) (block v : ℕ) → block / 64 < length words → block_bit (set words (block / 64) v) block ≡ is_set v (block % 64)
has-set_same words block v h = rw (get_or-set_same words (block / 64) v 0 h) refl

-- another block, where the word that was written changed at no other bit
pub has-set_other : (words : List ℕ) (block v : ℕ) → block / 64 < length words
    → ((i : ℕ) → i < 64 → i ≢ block % 64 → bit_at v i ≡ bit_at (get_or words (block / 64) 0) i)
    → (b : ℕ) → b ≢ block → block_bit (set words (block / 64) v) b ≡ block_bit words b
has-set_other words block v h same b ne =
    elim (cases_eq (b / 64) (block / 64)) [
      | inl e ↦ rw (e, get_or-set_same words (block / 64) v 0 h) (ap (λ (x : ℕ). eqb x 1) (same (b % 64) (omega arith) (λ q. ne (omega (arith, q, e)))))
      | inr d ↦ rw (get_or-set_other words (block / 64) (b / 64) v 0 d) refl
    ]

-- a cleared bit
pub cleared_here : (words : List ℕ) (block : ℕ) → block / 64 < length words
    → block_bit (set words (block / 64) (bit_and (get_or words (block / 64) 0) (bit_not w64 (1 * 2 ^ (block % 64) % 2 ^ 64)))) block ≡ false
cleared_here words block h =
    has-set_same words block _ h ∙ ap (λ (x : ℕ). eqb x 1) (bit_at_clear_same w64 (get_or words (block / 64) 0) (block % 64) (omega arith))

pub cleared_others : (words : List ℕ) (block : ℕ) → block / 64 < length words → (b : ℕ) → b ≢ block
    → block_bit (set words (block / 64) (bit_and (get_or words (block / 64) 0) (bit_not w64 (1 * 2 ^ (block % 64) % 2 ^ 64)))) b ≡ block_bit words b
cleared_others words block h b ne =
    has-set_other words block _ h (λ i p d. bit_at_clear_other w64 (get_or words (block / 64) 0) (block % 64) (omega arith) i p d) b ne

-- a set bit
pub set_here : (words : List ℕ) (block : ℕ) → block / 64 < length words
    → block_bit (set words (block / 64) (bit_or (get_or words (block / 64) 0) (1 * 2 ^ (block % 64) % 2 ^ 64))) block ≡ true
set_here words block h =
    has-set_same words block _ h ∙ ap (λ (x : ℕ). eqb x 1) (bit_at_set_same w64 (get_or words (block / 64) 0) (block % 64) (omega arith))

pub set_others : (words : List ℕ) (block : ℕ) → block / 64 < length words → (b : ℕ) → b ≢ block
    → block_bit (set words (block / 64) (bit_or (get_or words (block / 64) 0) (1 * 2 ^ (block % 64) % 2 ^ 64))) b ≡ block_bit words b
set_others words block h b ne =
    has-set_other words block _ h (λ i p d. bit_at_set_other w64 (get_or words (block / 64) 0) (block % 64) (omega arith) i d) b ne

-- the lowest set bit of a word, and the word without it
pub places_first : (base word : ℕ) → 0 < word → word < 2 ^ 64
    → places base word ≡ (base + trailing_zeros w64 word) ∷ places base (bit_and word (bit_not w64 (1 * 2 ^ trailing_zeros w64 word % 2 ^ 64)))
unfolding places
places_first base word positive fits =
    let t : ℕ = trailing_zeros w64 word in
    let lowest = bit_at-trailing_zeros w64 word positive fits in
    let rest : ℕ = bit_and word (bit_not w64 (1 * 2 ^ t % 2 ^ 64)) in
    let back : (i : ℕ) → base + i - base ≡ i = λ i. omega arith in
    filter-range_first (λ b. is_set word (b - base)) (λ b. is_set rest (b - base)) base 64 t lowest.0
    (λ i h. rw (back i, lowest.2 i h) refl)
    (rw (back t, lowest.1) refl)
    (rw (back t, bit_at_clear_same w64 word t lowest.0) refl)
    (λ i h d. rw (back i) (ap (λ (x : ℕ). eqb x 1) (bit_at_clear_other w64 word t lowest.0 i h d)))

pub places-zero : (base : ℕ) → places base 0 ≡ []
unfolding places
places-zero base = filter-range_none (λ b. is_set 0 (b - base)) base 64 (λ i l u. ap (λ (x : ℕ). eqb x 1) (bit_at-zero (i - base)))

-- the set bits of word w, as blocks
pub places_of : (words : List ℕ) (w : ℕ) → places (64 * w) (get_or words w 0) ≡ filter (block_bit words) (range_with_len (64 * w) 64)
unfolding places
places_of words w =
    filter-range_agree (λ b. is_set (get_or words w 0) (b - 64 * w)) (block_bit words) (64 * w) 64 (λ i l u.
    let e : i / 64 ≡ w = omega arith in
    let f : i % 64 ≡ i - 64 * w = omega (arith, e) in
    rw (e, f) refl)

-- bit i of the low byte of what stands from bit k on
pub low_byte : (word k i : ℕ) → i < 8 → bit_at (bit_and (word / 2 ^ k) 255) i ≡ bit_at word (k + i)
low_byte word k i h =
    let e : bit_at (word / 2 ^ k) i ≡ bit_at word (k + i) = ap (λ (x : ℕ). x % 2) (shr-shr word k i) in
    let ones : bit_at 255 i ≡ 1 = bit_at_ones 8 i h in
    let small = bit_at-lt word (k + i) in
    rw (bit_at_and (word / 2 ^ k) 255 i, e, ones) (omega arith)

pub full_from_byte : (word k : ℕ) → bit_and (word / 2 ^ (8 * k)) 255 ≡ 255 → IsFull word k
full_from_byte word k e i h = sym (low_byte word (8 * k) i h) ∙ ap (λ (x : ℕ). bit_at x i) e ∙ bit_at_ones 8 i h

pub byte_from_full : (word k : ℕ) → IsFull word k → bit_and (word / 2 ^ (8 * k)) 255 ≡ 255
byte_from_full word k full =
    let below = and_le_r (word / 2 ^ (8 * k)) 255 in
    same_from_bits_below 8 _ _ (omega (arith, below)) (omega arith) (λ i h. low_byte word (8 * k) i h ∙ full i h ∙ sym (bit_at_ones 8 i h))

-- one block more is found
pub places_step : (found more told : List ℕ) (base word : ℕ) → 0 < word → word < 2 ^ 64
    → more ≡ found ++ (base + trailing_zeros w64 word) ∷ [] → found ++ places base word ≡ told
    → more ++ places base (bit_and word (bit_not w64 (1 * 2 ^ trailing_zeros w64 word % 2 ^ 64))) ≡ told
places_step found more told base word positive fits pushed before =
    ap (λ (xs : List ℕ). xs ++ places base (bit_and word (bit_not w64 (1 * 2 ^ trailing_zeros w64 word % 2 ^ 64)))) pushed
    ∙ append_assoc found _ _
    ∙ ap (λ (xs : List ℕ). found ++ xs) (sym (places_first base word positive fits))
    ∙ before

-- no block is left
pub places_end : (found told : List ℕ) (base word limit : ℕ) → word ≡ 0 → length found ≤ limit → found ++ places base word ≡ told → found ≡ take limit told
places_end found told base word limit zero few before =
    let all : found ≡ told = sym (append-nil found) ∙ ap (λ (xs : List ℕ). found ++ xs) (sym (places-zero base)) ∙ ap (λ (x : ℕ). found ++ places base x) (sym zero) ∙ before in
    sym (take_all limit found few) ∙ ap (λ (xs : List ℕ). take limit xs) all

-- there are as many as wanted
pub places_full : (found told rest : List ℕ) (limit : ℕ) → length found ≤ limit → limit ≤ length found → found ++ rest ≡ told → found ≡ take limit told
places_full found told rest limit few many before =
    let e : length found ≡ limit = omega arith in
    sym (take_at found rest limit e) ∙ ap (λ (xs : List ℕ). take limit xs) before

-- the blocks of the next word, behind the lowest n of those before it
pub lowest_step : (words found more : List ℕ) (n w : ℕ) → found ≡ take n (filter (block_bit words) (range_with_len 0 (64 * w)))
    → length found < n → more ≡ take n (found ++ places (64 * w) (get_or words w 0))
    → more ≡ take n (filter (block_bit words) (range_with_len 0 (64 * (w + 1))))
lowest_step words found more n w before few told =
    let all : List ℕ = filter (block_bit words) (range_with_len 0 (64 * w)) in
    let short : length all ≤ n = omega (arith, ap length before, length-take n all) in
    let whole : found ≡ all = before ∙ take_all n all short in
    let next : 64 * (w + 1) ≡ 64 * w + 64 = omega arith in
    let from : 0 + 64 * w ≡ 64 * w = omega arith in
    told
    ∙ ap (λ (xs : List ℕ). take n xs) (
    ap (λ (xs : List ℕ). xs ++ places (64 * w) (get_or words w 0)) whole
    ∙ ap (λ (xs : List ℕ). all ++ xs) (places_of words w ∙ ap (λ (a : ℕ). filter (block_bit words) (range_with_len a 64)) (sym from))
    ∙ sym (filter-append (block_bit words) (range_with_len 0 (64 * w)) (range_with_len (0 + 64 * w) 64))
    ∙ ap (λ (xs : List ℕ). filter (block_bit words) xs) (sym (range-append 0 (64 * w) 64))
    ∙ ap (λ (m : ℕ). filter (block_bit words) (range_with_len 0 m)) (sym next))

-- there are n blocks before the words that are left
pub lowest_enough : (words found : List ℕ) (n w : ℕ) → found ≡ take n (filter (block_bit words) (range_with_len 0 (64 * w)))
    → n ≤ length found → w ≤ length words → found ≡ take n (filter (block_bit words) (range_with_len 0 (64 * length words)))
lowest_enough words found n w before many within =
    let all : List ℕ = filter (block_bit words) (range_with_len 0 (64 * w)) in
    let long : n ≤ length all = omega (arith, ap length before, length-take n all) in
    let rest : ℕ = 64 * length words - 64 * w in
    let split : 64 * length words ≡ 64 * w + rest = omega arith in
    before
    ∙ sym (take-append-le n all (filter (block_bit words) (range_with_len (0 + 64 * w) rest)) long)
    ∙ ap (λ (xs : List ℕ). take n xs) (
    sym (filter-append (block_bit words) (range_with_len 0 (64 * w)) (range_with_len (0 + 64 * w) rest))
    ∙ ap (λ (xs : List ℕ). filter (block_bit words) xs) (sym (range-append 0 (64 * w) rest))
    ∙ ap (λ (m : ℕ). filter (block_bit words) (range_with_len 0 m)) (sym split))
