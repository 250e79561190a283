-- Counts of set bits.
use Rattle.std.proofs.Common.{◌≡◌, ◌<◌, ◌+◌, ◌-◌, ◌*◌, ◌%◌, ◌^◌, ℕ, zero, suc, Bool, true, false, cond, List, ◌∷◌, length, get_or, inl, inr, refl, ap, sym, ◌∙◌, arith}
use Rattle.std.specs.Prelude.{count_ones}
use lib.Count.{ones}
use Rattle.std.specs.Int.{bit_at}
use Rattle.std.specs.List.{range_with_len, filter}
use Rattle.std.proofs.lemmas.Bool.{cases_eq}
use Rattle.std.proofs.lemmas.List.{length-append}
use Rattle.std.proofs.lemmas.List.Elements.{filter-append}
use Rattle.std.proofs.lemmas.Nat.{mod-pow-add, ones_cat, mod_below, pow_pos}
use Rattle.std.proofs.lemmas.Nat.Bits.{bit_at-lt}
use Rattle.std.proofs.Math.Nat.{mod-eq_of_lt}
use Rattle.life_bytes.specs.Bits.{is_set}
use Rattle.free_map.specs.Words.{block_bit, places}
use Rattle.free_map.proofs.Ranges.{range-append}
use Rattle.free_map.proofs.Bits.{places_of}

-- how many numbers of a range pass, in two parts
pub length-filter-range : (p : ℕ → Bool) (m n : ℕ)
    → length (filter p (range_with_len 0 (m + n))) ≡ length (filter p (range_with_len 0 m)) + length (filter p (range_with_len (0 + m) n))
length-filter-range p m n =
    ap (λ (xs : List ℕ). length (filter p xs)) (range-append 0 m n)
    ∙ ap length (filter-append p (range_with_len 0 m) (range_with_len (0 + m) n))
    ∙ length-append (filter p (range_with_len 0 m)) (filter p (range_with_len (0 + m) n))

-- the same of a range that was moved
length-filter-moved : (p : ℕ → Bool) (a c n : ℕ) → length (filter (λ b. p (b - a)) (range_with_len (a + c) n)) ≡ length (filter p (range_with_len c n))
length-filter-moved p a c zero = refl
length-filter-moved p a c (suc n) =
    let back : a + c - a ≡ c = omega arith in
    let next : a + c + 1 ≡ a + (c + 1) = omega arith in
    let rest : length (filter (λ b. p (b - a)) (range_with_len (a + c + 1) n)) ≡ length (filter p (range_with_len (c + 1) n)) =
    ap (λ (x : ℕ). length (filter (λ b. p (b - a)) (range_with_len x n))) next ∙ length-filter-moved p a (c + 1) n in
    rw back (
    elim (p c) as (λ t. length (cond t ((a + c) ∷ filter (λ b. p (b - a)) (range_with_len (a + c + 1) n)) (filter (λ b. p (b - a)) (range_with_len (a + c + 1) n))) ≡ length (cond t (c ∷ filter p (range_with_len (c + 1) n)) (filter p (range_with_len (c + 1) n)))) [
      | true ↦ ap suc rest
      | false ↦ rest
    ])

-- one bit
one_bit : (word k : ℕ) → length (filter (is_set word) (range_with_len (0 + k) 1)) ≡ count_ones (bit_at word k)
unfolding ones
one_bit word k =
    let e : 0 + k ≡ k = omega arith in
    let small = bit_at-lt word k in
    rw e (elim (cases_eq (bit_at word k) 1) [
      | inl one ↦ rw one refl
      | inr other ↦ let nil : bit_at word k ≡ 0 = omega (arith, other) in rw nil refl
    ])

-- the set bits of a word below a place
pub ones_range : (word k : ℕ) → length (filter (is_set word) (range_with_len 0 k)) ≡ count_ones (word % 2 ^ k)
unfolding ones
ones_range word zero = let e : word % 2 ^ 0 ≡ 0 = omega arith in sym (ap count_ones e)
ones_range word (suc k) =
    let next : suc k ≡ k + 1 = omega arith in
    let turned : 1 + k ≡ suc k = omega arith in
    let below : word % 2 ^ k < 2 ^ k = mod_below word (2 ^ k) (pow_pos k) in
    ap (λ (n : ℕ). length (filter (is_set word) (range_with_len 0 n))) next
    ∙ length-filter-range (is_set word) k 1
    ∙ omega (arith, ones_range word k, one_bit word k)
    ∙ sym (ones_cat k (bit_at word k) (word % 2 ^ k) below)
    ∙ ap count_ones (sym (mod-pow-add word 1 k))
    ∙ ap (λ (n : ℕ). count_ones (word % 2 ^ n)) turned

-- the set bits of one word more
pub count_step : (words : List ℕ) (w count : ℕ) → get_or words w 0 < 2 ^ 64 → count ≡ length (filter (block_bit words) (range_with_len 0 (64 * w)))
    → count + count_ones (get_or words w 0) ≡ length (filter (block_bit words) (range_with_len 0 (64 * (w + 1))))
unfolding places
count_step words w count fits before =
    let next : 64 * (w + 1) ≡ 64 * w + 64 = omega arith in
    let from : 64 * w + 0 ≡ 64 * w = omega arith in
    let start : 0 + 64 * w ≡ 64 * w = omega arith in
    let word : ℕ = get_or words w 0 in
    let bits : length (filter (block_bit words) (range_with_len (0 + 64 * w) 64)) ≡ count_ones word =
    ap (λ (a : ℕ). length (filter (block_bit words) (range_with_len a 64))) start
    ∙ ap length (sym (places_of words w))
    ∙ ap (λ (a : ℕ). length (filter (λ b. is_set word (b - 64 * w)) (range_with_len a 64))) (sym from)
    ∙ length-filter-moved (is_set word) (64 * w) 0 64
    ∙ ones_range word 64
    ∙ ap count_ones (mod-eq_of_lt fits) in
    omega (arith, before, bits, length-filter-range (block_bit words) (64 * w) 64, ap (λ (n : ℕ). length (filter (block_bit words) (range_with_len 0 n))) next)
