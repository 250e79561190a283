-- The mask of a chunk, bit by bit.
use Rattle.std.proofs.Common.{◌≡◌, ◌+◌, ◌-◌, ◌*◌, ◌/◌, ◌%◌, ◌^◌, ◌<◌, ℕ, zero, suc, Bool, true, false, cond, eqb, List, [], ◌∷◌, length, get_or, set, refl, sym, ap, ◌∙◌, arith}
use Rattle.std.specs.Prelude.{bit_and}
use Rattle.std.specs.Int.{bit_at}
use Rattle.std.proofs.lemmas.Bool.{eqb-true, eqb-false}
use Rattle.std.proofs.lemmas.Nat.{or_disjoint, and-not, and_comm, pow_below, pow-add}
use Rattle.std.proofs.lemmas.Nat.Bits.{and_pow, bit_at-lt, bit_at-zero, bit_at_lowest, bit_at-suc}
use Rattle.std.proofs.Math.Nat.{one-mul}
use Rattle.free_map.specs.Bitmap.{number_of_bits}
use Rattle.inobt_leaf.specs.Masks.{without_bit, with_bit}
use Rattle.life_bytes.specs.Bits.{is_set}

low_bit : (b : Bool) (m : ℕ) → (cond b 1 0 + 2 * m) % 2 ≡ cond b 1 0
low_bit true m = omega arith
low_bit false m = omega arith

high_bits : (b : Bool) (m : ℕ) → (cond b 1 0 + 2 * m) / 2 ≡ m
high_bits true m = omega arith
high_bits false m = omega arith

one_is : (b : Bool) → eqb (cond b 1 0) 1 ≡ b
one_is true = refl
one_is false = refl

-- a number has the bits that it is made of, and no others
pub bit_of_number : (bits : List Bool) (i : ℕ) → is_set (number_of_bits bits) i ≡ get_or bits i false
bit_of_number [] i = ap (λ (n : ℕ). eqb n 1) (bit_at-zero i)
bit_of_number (b ∷ bits) zero = ap (λ (n : ℕ). eqb n 1) (bit_at_lowest (cond b 1 0 + 2 * number_of_bits bits) ∙ low_bit b (number_of_bits bits)) ∙ one_is b
bit_of_number (b ∷ bits) (suc i) =
    ap (λ (n : ℕ). eqb n 1) (bit_at-suc (cond b 1 0 + 2 * number_of_bits bits) i ∙ ap (λ (n : ℕ). bit_at n i) (high_bits b (number_of_bits bits))) ∙ bit_of_number bits i

power_more : (i : ℕ) → 2 ^ suc i ≡ 2 ^ i * 2
power_more i = let e : suc i ≡ i + 1 = omega arith in ap (λ (n : ℕ). 2 ^ n) e ∙ pow-add 2 i 1

-- the number after one bit was set
pub number-set : (bits : List Bool) (i : ℕ) → i < length bits → get_or bits i false ≡ false → number_of_bits (set bits i true) ≡ number_of_bits bits + 2 ^ i
number-set [] i low clear = absurd (omega arith)
number-set (b ∷ bits) zero low clear = rw clear (omega arith)
number-set (b ∷ bits) (suc i) low clear =
    let rest = number-set bits i (omega arith) clear in
    let power : 2 ^ suc i ≡ 2 ^ i * 2 = power_more i in
    ap (λ (n : ℕ). cond b 1 0 + 2 * n) rest ∙ omega (arith, power)

-- and after one was cleared
pub number-clear : (bits : List Bool) (i : ℕ) → i < length bits → get_or bits i false ≡ true → number_of_bits (set bits i false) + 2 ^ i ≡ number_of_bits bits
number-clear [] i low is = absurd (omega arith)
number-clear (b ∷ bits) zero low is = rw is (omega arith)
number-clear (b ∷ bits) (suc i) low is =
    let rest = number-clear bits i (omega arith) is in
    let power : 2 ^ suc i ≡ 2 ^ i * 2 = power_more i in
    omega (arith, power, rest)

-- the cleared mask and the bit that it lost
split_bit : (mask i : ℕ) → mask < 2 ^ 64 → i < 64 → without_bit mask i + bit_at mask i * 2 ^ i ≡ mask
split_bit mask i fits h =
    let low : 2 ^ i < 2 ^ 64 = pow_below i 64 h in
    let parts : bit_and (2 ^ 64 - 1 - 2 ^ i) mask + bit_and (2 ^ i) mask ≡ mask = and-not 64 (2 ^ i) mask low fits in
    omega (arith, parts, and_comm mask (2 ^ 64 - 1 - 2 ^ i), and_comm (2 ^ i) mask, and_pow mask i)

cleared : (mask i : ℕ) → mask < 2 ^ 64 → i < 64 → is_set mask i ≡ true → without_bit mask i + 2 ^ i ≡ mask
cleared mask i fits h is =
    let one : bit_at mask i ≡ 1 = eqb-true (bit_at mask i) 1 is in
    let parts : without_bit mask i + 1 * 2 ^ i ≡ mask = ap (λ (b : ℕ). without_bit mask i + b * 2 ^ i) (sym one) ∙ split_bit mask i fits h in
    ap (λ (x : ℕ). without_bit mask i + x) (sym (one-mul (2 ^ i))) ∙ parts

added : (mask i : ℕ) → is_set mask i ≡ false → with_bit mask i ≡ mask + 2 ^ i
added mask i clear =
    let small = bit_at-lt mask i in
    let nil : bit_at mask i ≡ 0 = omega (arith, small, eqb-false (bit_at mask i) 1 clear) in
    or_disjoint mask (2 ^ i) (and_pow mask i ∙ ap (λ (b : ℕ). b * 2 ^ i) nil ∙ omega arith)

-- the mask of bits, one of which is cleared or set
pub mask-clear : (bits : List Bool) (i : ℕ) → i < length bits → i < 64 → number_of_bits bits < 2 ^ 64 → get_or bits i false ≡ true
    → without_bit (number_of_bits bits) i ≡ number_of_bits (set bits i false)
mask-clear bits i low small fits is =
    omega (arith, cleared (number_of_bits bits) i fits small (bit_of_number bits i ∙ is), number-clear bits i low is)

pub mask-set : (bits : List Bool) (i : ℕ) → i < length bits → get_or bits i false ≡ false → with_bit (number_of_bits bits) i ≡ number_of_bits (set bits i true)
mask-set bits i low clear = added (number_of_bits bits) i (bit_of_number bits i ∙ clear) ∙ sym (number-set bits i low clear)
