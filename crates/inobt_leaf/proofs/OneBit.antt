-- Masks that differ in one bit.
use Rattle.std.proofs.Common.{◌≡◌, ◌≢◌, ◌<◌, ◌+◌, ◌-◌, ◌*◌, ◌/◌, ◌%◌, ◌^◌, ℕ, true, false, eqb, ap, sym, ◌∙◌, arith}
use Rattle.std.specs.Prelude.{bit_and, bit_or, count_ones}
use Rattle.std.specs.Int.{bit_at, bit_not, w64}
use lib.Count.{ones}
use Rattle.std.proofs.lemmas.Bool.{eqb-true, eqb-false}
use Rattle.std.proofs.lemmas.Nat.{one_shl, or_disjoint, ones_cat, and-not, and_comm, mod_below, pow_pos, pow_below}
use Rattle.std.proofs.lemmas.Nat.Bits.{and_pow, bit_at-lt, bit_at_clear_same, bit_at_clear_other, bit_at_set_same, bit_at_set_other}
use Rattle.std.proofs.Math.Nat.{div-add-mod', add-mul, one-mul}
use Rattle.life_bytes.specs.Bits.{is_set}
use Rattle.inobt_leaf.specs.Masks.{without_bit, with_bit}

pub clear_here : (mask i : ℕ) → mask < 2 ^ 64 → i < 64 → is_set (without_bit mask i) i ≡ false
clear_here mask i fits h =
    ap (λ (x : ℕ). eqb x 1) (ap (λ (p : ℕ). bit_at (bit_and mask (bit_not w64 p)) i) (sym (one_shl i 64 h)) ∙ bit_at_clear_same w64 mask i h)

pub clear_other : (mask i j : ℕ) → mask < 2 ^ 64 → i < 64 → j < 64 → j ≢ i → is_set (without_bit mask i) j ≡ is_set mask j
clear_other mask i j fits h g ne =
    ap (λ (x : ℕ). eqb x 1) (ap (λ (p : ℕ). bit_at (bit_and mask (bit_not w64 p)) j) (sym (one_shl i 64 h)) ∙ bit_at_clear_other w64 mask i h j g ne)

pub set_here : (mask i : ℕ) → i < 64 → is_set (with_bit mask i) i ≡ true
set_here mask i h =
    ap (λ (x : ℕ). eqb x 1) (ap (λ (p : ℕ). bit_at (bit_or mask p) i) (sym (one_shl i 64 h)) ∙ bit_at_set_same w64 mask i h)

pub set_other : (mask i j : ℕ) → i < 64 → j < 64 → j ≢ i → is_set (with_bit mask i) j ≡ is_set mask j
set_other mask i j h g ne =
    ap (λ (x : ℕ). eqb x 1) (ap (λ (p : ℕ). bit_at (bit_or mask p) j) (sym (one_shl i 64 h)) ∙ bit_at_set_other w64 mask i h j ne)

-- a number with its lowest bit clear, and one more
ones_even : (q : ℕ) → q % 2 ≡ 0 → count_ones (q + 1) ≡ count_ones q + 1
unfolding ones
ones_even q even =
    let up : q + 1 ≡ q / 2 * 2 ^ 1 + 1 = omega (arith, even) in
    let same : q ≡ q / 2 * 2 ^ 1 + 0 = omega (arith, even) in
    let one : count_ones (q / 2 * 2 ^ 1 + 1) ≡ count_ones (q / 2) + 1 = ones_cat 1 (q / 2) 1 (omega arith) in
    let nil : count_ones (q / 2 * 2 ^ 1 + 0) ≡ count_ones (q / 2) + 0 = ones_cat 1 (q / 2) 0 (omega arith) in
    omega (arith, ap count_ones up, ap count_ones same, one, nil)

-- a bit that was clear counts one more
pub ones-add : (mask i : ℕ) → bit_at mask i ≡ 0 → count_ones (mask + 2 ^ i) ≡ count_ones mask + 1
ones-add mask i clear =
    let q : ℕ = mask / 2 ^ i in
    let r : ℕ = mask % 2 ^ i in
    let below : r < 2 ^ i = mod_below mask (2 ^ i) (pow_pos i) in
    let same : mask ≡ q * 2 ^ i + r = sym (div-add-mod' mask (2 ^ i)) in
    let more : (q + 1) * 2 ^ i ≡ q * 2 ^ i + 2 ^ i = add-mul q 1 (2 ^ i) ∙ ap (λ (x : ℕ). q * 2 ^ i + x) (one-mul (2 ^ i)) in
    let up : mask + 2 ^ i ≡ (q + 1) * 2 ^ i + r = omega (arith, same, more) in
    let old : count_ones mask ≡ count_ones q + count_ones r = ap count_ones same ∙ ones_cat i q r below in
    let new : count_ones (mask + 2 ^ i) ≡ count_ones (q + 1) + count_ones r = ap count_ones up ∙ ones_cat i (q + 1) r below in
    omega (arith, old, new, ones_even q clear)

-- the cleared mask and the bit that it lost
split_bit : (mask i : ℕ) → mask < 2 ^ 64 → i < 64 → without_bit mask i + bit_at mask i * 2 ^ i ≡ mask
split_bit mask i fits h =
    let low : 2 ^ i < 2 ^ 64 = pow_below i 64 h in
    let parts : bit_and (2 ^ 64 - 1 - 2 ^ i) mask + bit_and (2 ^ i) mask ≡ mask = and-not 64 (2 ^ i) mask low fits in
    omega (arith, parts, and_comm mask (2 ^ 64 - 1 - 2 ^ i), and_comm (2 ^ i) mask, and_pow mask i)

pub clear_count : (mask i : ℕ) → mask < 2 ^ 64 → i < 64 → is_set mask i ≡ true → count_ones (without_bit mask i) + 1 ≡ count_ones mask
clear_count mask i fits h set =
    let one : bit_at mask i ≡ 1 = eqb-true (bit_at mask i) 1 set in
    let parts : without_bit mask i + 1 * 2 ^ i ≡ mask = ap (λ (b : ℕ). without_bit mask i + b * 2 ^ i) (sym one) ∙ split_bit mask i fits h in
    let whole : without_bit mask i + 2 ^ i ≡ mask = ap (λ (x : ℕ). without_bit mask i + x) (sym (one-mul (2 ^ i))) ∙ parts in
    let small = bit_at-lt (without_bit mask i) i in
    let nil : bit_at (without_bit mask i) i ≡ 0 = omega (arith, small, eqb-false (bit_at (without_bit mask i) i) 1 (clear_here mask i fits h)) in
    sym (ones-add (without_bit mask i) i nil) ∙ ap count_ones whole

pub set_count : (mask i : ℕ) → i < 64 → is_set mask i ≡ false → count_ones (with_bit mask i) ≡ count_ones mask + 1
set_count mask i h clear =
    let small = bit_at-lt mask i in
    let nil : bit_at mask i ≡ 0 = omega (arith, small, eqb-false (bit_at mask i) 1 clear) in
    let apart : bit_and mask (2 ^ i) ≡ 0 = and_pow mask i ∙ ap (λ (b : ℕ). b * 2 ^ i) nil ∙ omega arith in
    ap count_ones (or_disjoint mask (2 ^ i) apart) ∙ ones-add mask i nil
