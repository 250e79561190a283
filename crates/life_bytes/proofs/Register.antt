-- The register is linear: bits of two sums are the sums of the bits.
use Rattle.std.proofs.Common.{◌≡◌, ℕ, zero, suc, ◌+◌, ◌*◌, ◌/◌, ◌%◌, ◌^◌, ◌<◌, cond, eqb, refl, sym, ap, ◌∙◌, arith, pow-suc}
use lib.Bits.{bit_xor, xor_assoc, xor_comm, xor_self, xor_zero_r, xor_shr, xor_mod}
use Rattle.life_bytes.specs.Crc.{polynomial, after_bit, after_bits}

-- (a + b) + (c + d) with the middle two exchanged
pub swapped : (a b c d : ℕ) → bit_xor (bit_xor a b) (bit_xor c d) ≡ bit_xor (bit_xor a c) (bit_xor b d)
swapped a b c d =
    xor_assoc a b (bit_xor c d) ∙ ap (bit_xor a) (sym (xor_assoc b c d) ∙ ap (λ (x : ℕ). bit_xor x d) (xor_comm b c) ∙ xor_assoc c b d)
    ∙ sym (xor_assoc a c (bit_xor b d))

cases : (p : ℕ) (t : ℕ) (a : ℕ) → ℕ
cases p t a = cond (eqb p 1) (bit_xor a t) a

joined : (t p q a b : ℕ) → p < 2 → q < 2 → cases (bit_xor p q) t (bit_xor a b) ≡ bit_xor (cases p t a) (cases q t b)
unfolding cases
joined t zero zero a b hp hq = refl
joined t zero (suc zero) a b hp hq = xor_assoc a b t
joined t (suc zero) zero a b hp hq = xor_assoc a b t ∙ ap (bit_xor a) (xor_comm b t) ∙ sym (xor_assoc a t b)
joined t (suc zero) (suc zero) a b hp hq =
    sym (xor_zero_r (bit_xor a b)) ∙ ap (bit_xor (bit_xor a b)) (sym (xor_self t)) ∙ swapped a b t t
joined t (suc (suc p)) q a b hp hq = absurd (omega arith)
joined t zero (suc (suc q)) a b hp hq = absurd (omega arith)
joined t (suc zero) (suc (suc q)) a b hp hq = absurd (omega arith)

after_bit-xor : (x y : ℕ) → after_bit (bit_xor x y) ≡ bit_xor (after_bit x) (after_bit y)
unfolding cases
after_bit-xor x y =
    ap (λ (p : ℕ). cases p polynomial (bit_xor x y / 2)) (xor_mod x y 1) ∙ ap (cases (bit_xor (x % 2) (y % 2)) polynomial) (xor_shr x y 1)
    ∙ joined polynomial (x % 2) (y % 2) (x / 2) (y / 2) (omega arith) (omega arith)

pub after_bits-xor : (n x y : ℕ) → after_bits n (bit_xor x y) ≡ bit_xor (after_bits n x) (after_bits n y)
unfolding after_bits
after_bits-xor zero x y = refl
after_bits-xor (suc n) x y = ap (after_bits n) (after_bit-xor x y) ∙ after_bits-xor n (after_bit x) (after_bit y)

after_bit-double : (x : ℕ) → after_bit (x * 2) ≡ x
after_bit-double x =
    let even : (x * 2) % 2 ≡ 0 = omega arith in
    let half : (x * 2) / 2 ≡ x = omega arith in
    rw even half

-- zero bits are only shifted out
pub after_bits-shifted : (n x : ℕ) → after_bits n (x * 2 ^ n) ≡ x
unfolding after_bits
after_bits-shifted zero x = omega arith
after_bits-shifted (suc n) x =
    let e : x * 2 ^ suc n ≡ x * 2 ^ n * 2 = rw pow-suc (omega arith) in
    ap (after_bits (suc n)) e ∙ ap (after_bits n) (after_bit-double (x * 2 ^ n)) ∙ after_bits-shifted n x

pub after_bits-add : (m n x : ℕ) → after_bits n (after_bits m x) ≡ after_bits (m + n) x
unfolding after_bits
after_bits-add zero n x = let e : n ≡ 0 + n = omega arith in ap (λ (k : ℕ). after_bits k x) e
after_bits-add (suc m) n x =
    let e : suc (m + n) ≡ suc m + n = omega arith in
    after_bits-add m n (after_bit x) ∙ ap (λ (k : ℕ). after_bits k x) e

pub after_bits-none : (x : ℕ) → after_bits 0 x ≡ x
unfolding after_bits
after_bits-none x = refl
