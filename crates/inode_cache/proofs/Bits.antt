-- Bits of words, and a set of numbers by its words.
use Rattle.std.proofs.Common.{◌≡◌, ◌≢◌, ◌<◌, ◌≤◌, ◌+◌, ◌-◌, ◌*◌, ◌/◌, ◌%◌, ◌^◌, ℕ, true, false, eqb, List, length, get_or, set, inl, inr, refl, ap, sym, ◌∙◌, arith, get_or-set_same, get_or-set_other}
use Rattle.std.specs.Prelude.{bit_and, bit_or, replicate}
use Rattle.std.specs.Int.{bit_at, bit_not, w64}
use Rattle.std.proofs.lemmas.Bool.{cases_eq, cases_lt}
use Rattle.std.proofs.lemmas.Nat.{shr-shr}
use Rattle.std.proofs.lemmas.Nat.Bits.{bit_at_clear_same, bit_at_clear_other, bit_at_set_same, bit_at_set_other, bit_at-zero, bit_at_above}
use Rattle.std.proofs.lemmas.List.{get_or_default, get_or_past, get_or-replicate, length-replicate}
use Rattle.std.proofs.Math.Nat.{div-le_self}
use Rattle.inode_cache.specs.Numbers.{has_number}

-- the number whose word was written
has-set_same : (words : List ℕ) (n v : ℕ) → n / 64 < length words → has_number (set words (n / 64) v) n ≡ eqb (bit_at v (n % 64)) 1
has-set_same words n v h = rw (get_or-set_same words (n / 64) v 0 h) refl

-- another number, where the word that was written changed at no other bit
has-set_other : (words : List ℕ) (n v : ℕ) → n / 64 < length words → ((i : ℕ) → i < 64 → i ≢ n % 64 → bit_at v i ≡ bit_at (get_or words (n / 64) 0) i)
    → (m : ℕ) → m ≢ n → has_number (set words (n / 64) v) m ≡ has_number words m
has-set_other words n v h same m ne =
    elim (cases_eq (m / 64) (n / 64)) [
      | inl e ↦ rw (e, get_or-set_same words (n / 64) v 0 h) (ap (λ (x : ℕ). eqb x 1) (same (m % 64) (omega arith) (λ q. ne (omega (arith, q, e)))))
      | inr d ↦ rw (get_or-set_other words (n / 64) (m / 64) v 0 d) refl
    ]

pub removed_here : (words : List ℕ) (n w : ℕ) → n / 64 < length words → has_number (set words (n / 64) (bit_and w (bit_not w64 (1 * 2 ^ (n % 64) % 2 ^ 64)))) n ≡ false
removed_here words n w h = has-set_same words n _ h ∙ ap (λ (x : ℕ). eqb x 1) (bit_at_clear_same w64 w (n % 64) (omega arith))

pub removed_others : (words : List ℕ) (n w : ℕ) → n / 64 < length words → w ≡ get_or words (n / 64) 0 → (m : ℕ) → m ≢ n
    → has_number (set words (n / 64) (bit_and w (bit_not w64 (1 * 2 ^ (n % 64) % 2 ^ 64)))) m ≡ has_number words m
removed_others words n w h e m ne =
    has-set_other words n _ h (λ i p d. bit_at_clear_other w64 w (n % 64) (omega arith) i p d ∙ ap (λ (x : ℕ). bit_at x i) e) m ne

pub inserted_here : (words : List ℕ) (n w : ℕ) → n / 64 < length words → has_number (set words (n / 64) (bit_or w (1 * 2 ^ (n % 64) % 2 ^ 64))) n ≡ true
inserted_here words n w h = has-set_same words n _ h ∙ ap (λ (x : ℕ). eqb x 1) (bit_at_set_same w64 w (n % 64) (omega arith))

pub inserted_others : (words : List ℕ) (n w : ℕ) → n / 64 < length words → w ≡ get_or words (n / 64) 0 → (m : ℕ) → m ≢ n
    → has_number (set words (n / 64) (bit_or w (1 * 2 ^ (n % 64) % 2 ^ 64))) m ≡ has_number words m
inserted_others words n w h e m ne =
    has-set_other words n _ h (λ i p d. bit_at_set_other w64 w (n % 64) (omega arith) i d ∙ ap (λ (x : ℕ). bit_at x i) e) m ne

-- the bits of a word from a place on
from_place : (w p k : ℕ) → p ≤ k → bit_at w k ≡ bit_at (w / 2 ^ p) (k - p)
from_place w p k le =
    let e : k ≡ p + (k - p) = omega arith in
    ap (λ (i : ℕ). w / 2 ^ i % 2) e ∙ ap (λ (x : ℕ). x % 2) (sym (shr-shr w p (k - p)))

pub no_bit_from : (w p : ℕ) → w / 2 ^ p ≡ 0 → (k : ℕ) → p ≤ k → bit_at w k ≡ 0
no_bit_from w p none k le = from_place w p k le ∙ ap (λ (x : ℕ). bit_at x (k - p)) none ∙ bit_at-zero (k - p)

pub first_bit_from : (w p t : ℕ) → w < 2 ^ 64 → (t < 64) × (bit_at (w / 2 ^ p) t ≡ 1) × ((i : ℕ) → i < t → bit_at (w / 2 ^ p) i ≡ 0)
    → (p ≤ p + t) × (p + t < 64) × (bit_at w (p + t) ≡ 1)
first_bit_from w p t fits lowest =
    let back : p + t - p ≡ t = omega arith in
    let one : bit_at w (p + t) ≡ 1 = from_place w p (p + t) (omega arith) ∙ ap (bit_at (w / 2 ^ p)) back ∙ lowest.1 in
    (omega arith, elim (cases_lt (p + t) 64) [ inl lt ↦ lt | inr past ↦ absurd (omega (arith, one, bit_at_above w 64 (p + t) fits past)) ], one)

pub clear_before : (w p t : ℕ) → (t < 64) × (bit_at (w / 2 ^ p) t ≡ 1) × ((i : ℕ) → i < t → bit_at (w / 2 ^ p) i ≡ 0) → (k : ℕ) → p ≤ k → k < p + t → bit_at w k ≡ 0
clear_before w p t lowest k le lt = from_place w p k le ∙ lowest.2 (k - p) (omega arith)

pub positive : (n : ℕ) → n ≢ 0 → 0 < n
positive n ne = omega arith

pub small_shift : (w p : ℕ) → w < 2 ^ 64 → w / 2 ^ p < 2 ^ 64
small_shift w p fits = omega (arith, div-le_self w (2 ^ p))

-- what an index reads, at the default of clauses
pub read : (xs : List ℕ) (i x : ℕ) → x ≡ get_or xs i x → i < length xs → x ≡ get_or xs i 0
read xs i x is lt = is ∙ get_or_default xs i x 0 lt

-- ---- the search

-- no number from `from` on is in the set, up to a place of a word
pub record Looked (words : List ℕ) (from index place : ℕ) : Type 0 where
  pub within : place < 64
  pub above : from ≤ 64 * index + place
  pub clear : (k : ℕ) → from ≤ k → k < 64 * index + place → has_number words k ≡ false

pub looked_none : (words : List ℕ) (from : ℕ) → Looked words from (from / 64) (from % 64)
looked_none words from = record { within = omega arith; above = omega arith; clear = λ k le lt. absurd (omega arith) }

in_word : (words : List ℕ) (index k b : ℕ) → k / 64 ≡ index → bit_at (get_or words index 0) (k % 64) ≡ b → has_number words k ≡ eqb b 1
in_word words index k b e bit = ap (λ (i : ℕ). eqb (bit_at (get_or words i 0) (k % 64)) 1) e ∙ ap (λ (x : ℕ). eqb x 1) bit

pub looked_more : (words : List ℕ) (from index place : ℕ) → Looked words from index place → ((k : ℕ) → place ≤ k → bit_at (get_or words index 0) k ≡ 0) → Looked words from (index + 1) 0
looked_more words from index place so_far none = record {
  within = omega arith;
  above = omega (arith, so_far.within, so_far.above);
  clear = λ k le lt. elim (cases_lt k (64 * index + place)) [
    | inl before ↦ so_far.clear k le before
    | inr here ↦ in_word words index k 0 (omega (arith, so_far.within)) (none (k % 64) (omega (arith, so_far.within)))
  ];
}

pub looked_found : (words : List ℕ) (from index place bit : ℕ) → Looked words from index place → place ≤ bit → bit < 64 → bit_at (get_or words index 0) bit ≡ 1
    → (from ≤ 64 * index + bit) × (has_number words (64 * index + bit) ≡ true)
looked_found words from index place bit so_far le small one =
    let e : (64 * index + bit) % 64 ≡ bit = omega arith in
    (omega (arith, so_far.above), in_word words index (64 * index + bit) 1 (omega arith) (ap (bit_at (get_or words index 0)) e ∙ one))

pub looked_least : (words : List ℕ) (from index place bit : ℕ) → Looked words from index place → bit < 64 → ((k : ℕ) → place ≤ k → k < bit → bit_at (get_or words index 0) k ≡ 0)
    → (k : ℕ) → from ≤ k → k < 64 * index + bit → has_number words k ≡ false
looked_least words from index place bit so_far small none k le lt = elim (cases_lt k (64 * index + place)) [
  | inl before ↦ so_far.clear k le before
  | inr here ↦ in_word words index k 0 (omega arith) (none (k % 64) (omega arith) (omega arith))
]

pub looked_all : (words : List ℕ) (from index place : ℕ) → Looked words from index place → length words ≤ index → (k : ℕ) → from ≤ k → has_number words k ≡ false
looked_all words from index place so_far all k le = elim (cases_lt k (64 * index + place)) [
  | inl before ↦ so_far.clear k le before
  | inr past ↦ ap (λ (w : ℕ). eqb (bit_at w (k % 64)) 1) (get_or_past words (k / 64) 0 (omega arith)) ∙ ap (λ (x : ℕ). eqb x 1) (bit_at-zero (k % 64))
]

zero_at : (n i z : ℕ) → z ≡ 0 → get_or (replicate n z) i 0 ≡ z
zero_at n i z e = elim (cases_lt i n) [ inl lt ↦ get_or-replicate n i z 0 lt | inr past ↦ get_or_past (replicate n z) i 0 (omega (arith, length-replicate n z)) ∙ sym e ]

pub none_in_zeros : (words : List ℕ) (count : ℕ) → words ≡ replicate count 0 → (n : ℕ) → has_number words n ≡ false
none_in_zeros words count zeros n =
    ap (λ (l : List ℕ). eqb (bit_at (get_or l (n / 64) 0) (n % 64)) 1) zeros
    ∙ ap (λ (w : ℕ). eqb (bit_at w (n % 64)) 1) (zero_at count (n / 64) 0 refl)
    ∙ ap (λ (x : ℕ). eqb x 1) (bit_at-zero (n % 64))
