-- One byte, and eight bytes, by the tables.
use Rattle.std.proofs.Common.{◌≡◌, ℕ, suc, ◌+◌, ◌*◌, ◌/◌, ◌%◌, ◌^◌, ◌<◌, List, [], ◌∷◌, length, get_or, refl, sym, ap, ◌∙◌, arith, pow-suc}
use Rattle.std.specs.List.{fold}
use Rattle.std.proofs.lemmas.Nat.{and_mask, shr_split, div_below}
use lib.Bits.{bit_and, bit_xor, xor_assoc, xor_comm, xor_zero_r, xor_shr, xor_block, xor_shifted}
use Rattle.life_bytes.specs.Crc.{after_bits, after_byte}
use Rattle.life_bytes.proofs.Register.{swapped, after_bits-xor, after_bits-shifted, after_bits-add, after_bits-none}

-- a number by its lowest byte and the rest
parts : (x : ℕ) → bit_xor (x / 256 * 256) (x % 256) ≡ x
parts x = xor_shifted (x / 256) 8 (x % 256) (omega arith) ∙ shr_split x 8

pub step_is : (r b : ℕ) → b < 256 → bit_xor (after_bits 8 (bit_and (bit_xor r b) 255)) (r / 256) ≡ after_byte r b
unfolding after_byte
step_is r b small =
    let x = bit_xor r b in
    let low : bit_and x 255 ≡ x % 256 = and_mask x 8 in
    let nothing : b / 256 ≡ 0 = omega arith in
    let high : x / 256 ≡ r / 256 = xor_shr r b 8 ∙ ap (bit_xor (r / 256)) nothing ∙ xor_zero_r (r / 256) in
    let shifted : after_bits 8 (x / 256 * 256) ≡ x / 256 = after_bits-shifted 8 (x / 256) in
    ap (λ (y : ℕ). bit_xor (after_bits 8 y) (r / 256)) low ∙ xor_comm (after_bits 8 (x % 256)) (r / 256)
    ∙ ap (λ (y : ℕ). bit_xor y (after_bits 8 (x % 256))) (sym high ∙ sym shifted)
    ∙ sym (after_bits-xor 8 (x / 256 * 256) (x % 256)) ∙ ap (after_bits 8) (parts x)

-- ---- several bytes at once

-- the bytes as one number, the first of them the lowest
little : List ℕ → ℕ
little [] = 0
little (b ∷ bs) = bit_xor (little bs * 256) b

fold_is : (bs : List ℕ) (r : ℕ) → fold after_byte r bs ≡ after_bits (8 * length bs) (bit_xor r (little bs))
unfolding little after_byte
fold_is [] r = sym (xor_zero_r r) ∙ sym (after_bits-none (bit_xor r 0))
fold_is (b ∷ bs) r =
    let w = little bs in
    let n = 8 * length bs in
    let e : 8 + n ≡ 8 * length (b ∷ bs) = omega arith in
    fold_is bs (after_bits 8 (bit_xor r b)) ∙ ap (λ (y : ℕ). after_bits n (bit_xor (after_bits 8 (bit_xor r b)) y)) (sym (after_bits-shifted 8 w))
    ∙ ap (after_bits n) (sym (after_bits-xor 8 (bit_xor r b) (w * 256))) ∙ after_bits-add 8 n (bit_xor (bit_xor r b) (w * 256))
    ∙ ap (after_bits (8 + n)) (xor_assoc r b (w * 256) ∙ ap (bit_xor r) (xor_comm b (w * 256))) ∙ ap (λ (k : ℕ). after_bits k (bit_xor r (bit_xor (w * 256) b))) e

-- what each byte leaves, all of it added
spread : List ℕ → ℕ
spread [] = 0
spread (x ∷ xs) = bit_xor (after_bits (8 * length (x ∷ xs)) x) (spread xs)

split : (xs : List ℕ) → after_bits (8 * length xs) (little xs) ≡ spread xs
unfolding little spread
split [] = after_bits-none 0
split (x ∷ xs) =
    let n = 8 * length xs in
    let w = little xs in
    let e : 8 + n ≡ 8 * length (x ∷ xs) = omega arith in
    after_bits-xor (8 * length (x ∷ xs)) (w * 256) x ∙ xor_comm (after_bits (8 * length (x ∷ xs)) (w * 256)) (after_bits (8 * length (x ∷ xs)) x)
    ∙ ap (bit_xor (after_bits (8 * length (x ∷ xs)) x))
    (ap (λ (k : ℕ). after_bits k (w * 256)) (sym e) ∙ sym (after_bits-add 8 n (w * 256)) ∙ ap (after_bits n) (after_bits-shifted 8 w) ∙ split xs)

-- the register's bytes added to the first of them
mixed : ℕ → List ℕ → List ℕ
mixed r [] = []
mixed r (b ∷ bs) = bit_xor (r % 256) b ∷ mixed (r / 256) bs

length-mixed : (bs : List ℕ) (r : ℕ) → length (mixed r bs) ≡ length bs
unfolding mixed
length-mixed [] r = refl
length-mixed (b ∷ bs) r = ap suc (length-mixed bs (r / 256))

mixed_is : (bs : List ℕ) (r : ℕ) → r < 256 ^ length bs → bit_xor r (little bs) ≡ little (mixed r bs)
unfolding mixed little
mixed_is [] r small = let e : r ≡ 0 = omega arith in ap (λ (x : ℕ). bit_xor x 0) e
mixed_is (b ∷ bs) r small =
    let w = little bs in
    let high = r / 256 in
    let below : high < 256 ^ length bs = div_below r 256 (256 ^ length bs) (omega arith) (rw (← pow-suc 256 (length bs)) small) in
    let plain_high : high * 256 + 0 ≡ high * 256 = omega arith in
    let plain_w : w * 256 + 0 ≡ w * 256 = omega arith in
    let plain : bit_xor high w * 256 + bit_xor 0 0 ≡ bit_xor high w * 256 = omega arith in
    let block : bit_xor (high * 256) (w * 256) ≡ bit_xor high w * 256 =
    ap (λ (x : ℕ). bit_xor x (w * 256)) (sym plain_high) ∙ ap (bit_xor (high * 256 + 0)) (sym plain_w) ∙ xor_block 8 high w 0 0 (omega arith) (omega arith) ∙ plain in
    ap (λ (x : ℕ). bit_xor x (bit_xor (w * 256) b)) (sym (parts r)) ∙ swapped (high * 256) (r % 256) (w * 256) b
    ∙ ap (λ (x : ℕ). bit_xor x (bit_xor (r % 256) b)) (block ∙ ap (λ (x : ℕ). x * 256) (mixed_is bs high below))

together : (r : ℕ) (bs : List ℕ) → r < 256 ^ length bs → fold after_byte r bs ≡ spread (mixed r bs)
together r bs small =
    fold_is bs r ∙ ap (after_bits (8 * length bs)) (mixed_is bs r small) ∙ ap (λ (n : ℕ). after_bits (8 * n) (little (mixed r bs))) (sym (length-mixed bs r)) ∙ split (mixed r bs)

mixed_8 : (r b0 b1 b2 b3 b4 b5 b6 b7 : ℕ) → r < 2 ^ 32 → mixed r (b0 ∷ b1 ∷ b2 ∷ b3 ∷ b4 ∷ b5 ∷ b6 ∷ b7 ∷ [])
    ≡ bit_xor (r % 256) b0 ∷ bit_xor (r / 256 % 256) b1 ∷ bit_xor (r / 65536 % 256) b2 ∷ bit_xor (r / 16777216 % 256) b3 ∷ b4 ∷ b5 ∷ b6 ∷ b7 ∷ []
unfolding mixed
mixed_8 r b0 b1 b2 b3 b4 b5 b6 b7 small =
    let r4 : r / 256 / 256 / 256 / 256 ≡ 0 = omega arith in
    let r3 : r / 256 / 256 / 256 ≡ r / 16777216 = omega arith in
    let r2 : r / 256 / 256 ≡ r / 65536 = omega arith in
    rw (r4, r3, r2) refl

regrouped : (t0 t1 t2 t3 t4 t5 t6 t7 : ℕ) → bit_xor t0 (bit_xor t1 (bit_xor t2 (bit_xor t3 (bit_xor t4 (bit_xor t5 (bit_xor t6 (bit_xor t7 0)))))))
    ≡ bit_xor (bit_xor (bit_xor (bit_xor t0 t1) t2) t3) (bit_xor (bit_xor (bit_xor t4 t5) t6) t7)
regrouped t0 t1 t2 t3 t4 t5 t6 t7 = simp (xor_assoc, xor_zero_r)

spread_8 : (m0 m1 m2 m3 m4 m5 m6 m7 : ℕ) → spread (m0 ∷ m1 ∷ m2 ∷ m3 ∷ m4 ∷ m5 ∷ m6 ∷ m7 ∷ [])
    ≡ bit_xor (bit_xor (bit_xor (bit_xor (after_bits 64 m0) (after_bits 56 m1)) (after_bits 48 m2)) (after_bits 40 m3))
    (bit_xor (bit_xor (bit_xor (after_bits 32 m4) (after_bits 24 m5)) (after_bits 16 m6)) (after_bits 8 m7))
unfolding spread
spread_8 m0 m1 m2 m3 m4 m5 m6 m7 =
    regrouped (after_bits 64 m0) (after_bits 56 m1) (after_bits 48 m2) (after_bits 40 m3) (after_bits 32 m4) (after_bits 24 m5) (after_bits 16 m6) (after_bits 8 m7)

-- eight bytes, as the code adds what each of them leaves
pub block_is : (r : ℕ) (bs : List ℕ) → r < 2 ^ 32 → length bs ≡ 8
    → bit_xor (bit_xor (bit_xor (bit_xor (after_bits 64 (bit_xor (r % 256) (get_or bs 0 0))) (after_bits 56 (bit_xor (r / 256 % 256) (get_or bs 1 0))))
    (after_bits 48 (bit_xor (r / 65536 % 256) (get_or bs 2 0)))) (after_bits 40 (bit_xor (r / 16777216 % 256) (get_or bs 3 0))))
    (bit_xor (bit_xor (bit_xor (after_bits 32 (get_or bs 4 0)) (after_bits 24 (get_or bs 5 0))) (after_bits 16 (get_or bs 6 0))) (after_bits 8 (get_or bs 7 0)))
    ≡ fold after_byte r bs
block_is r (b0 ∷ b1 ∷ b2 ∷ b3 ∷ b4 ∷ b5 ∷ b6 ∷ b7 ∷ []) small len =
    sym (together r (b0 ∷ b1 ∷ b2 ∷ b3 ∷ b4 ∷ b5 ∷ b6 ∷ b7 ∷ []) (omega arith) ∙ ap spread (mixed_8 r b0 b1 b2 b3 b4 b5 b6 b7 small)
    ∙ spread_8 (bit_xor (r % 256) b0) (bit_xor (r / 256 % 256) b1) (bit_xor (r / 65536 % 256) b2) (bit_xor (r / 16777216 % 256) b3) b4 b5 b6 b7)
block_is r [] small len = absurd (omega arith)
block_is r (b0 ∷ []) small len = absurd (omega arith)
block_is r (b0 ∷ b1 ∷ []) small len = absurd (omega arith)
block_is r (b0 ∷ b1 ∷ b2 ∷ []) small len = absurd (omega arith)
block_is r (b0 ∷ b1 ∷ b2 ∷ b3 ∷ []) small len = absurd (omega arith)
block_is r (b0 ∷ b1 ∷ b2 ∷ b3 ∷ b4 ∷ []) small len = absurd (omega arith)
block_is r (b0 ∷ b1 ∷ b2 ∷ b3 ∷ b4 ∷ b5 ∷ []) small len = absurd (omega arith)
block_is r (b0 ∷ b1 ∷ b2 ∷ b3 ∷ b4 ∷ b5 ∷ b6 ∷ []) small len = absurd (omega arith)
block_is r (b0 ∷ b1 ∷ b2 ∷ b3 ∷ b4 ∷ b5 ∷ b6 ∷ b7 ∷ b8 ∷ bs) small len = absurd (omega arith)
