-- Laws of the numbers at a place in a list of bytes.
use Rattle.std.specs.Prelude.{◌≡◌, ◌<◌, ◌≤◌, ◌+◌, ◌-◌, ◌*◌, ◌/◌, ◌%◌, ◌^◌, ℕ, zero, suc, List, [], ◌∷◌, ◌++◌, length, take, drop}
use Rattle.std.proofs.Common.{arith, sym, ap, refl, ◌∙◌}
use Rattle.std.proofs.lemmas.List.{drop_all, drop-drop, drop_at, length-take-le, length-take, append-nil}
use Rattle.std.proofs.lemmas.Nat.{div-mul-add, mod-mul-add}
use Rattle.byteorder.specs.Endian.{big_bytes, big_from}
use Rattle.byteorder.specs.Numbers.{big_from-cons, big_from-lt, big_number-reads_back}
use borrow.Rule.Slice.PartMut.{put_mid, mid_of}
use Rattle.life_bytes.specs.Fields.{field, with_field, AreBytes}

-- a write into the part of n bytes from a place on is a piece put there
pub with_piece_by_slice : (n at value : ℕ) (bytes : List ℕ) → at + n ≤ length bytes
    → put_mid at (at + n - at) bytes (big_bytes n value ++ drop n (mid_of at (at + n - at) bytes)) ≡ with_field n at value bytes
with_piece_by_slice n at value bytes fits =
    let width : at + n - at ≡ n = omega arith in
    let nothing : drop n (take n (drop at bytes)) ≡ [] = drop_all n (take n (drop at bytes)) (omega (arith, length-take n (drop at bytes))) in
    let rest : drop n (drop at bytes) ≡ drop (at + n) bytes = drop-drop n at bytes in
    rw (width, nothing, append-nil (big_bytes n value), rest) refl

-- what was written is read
pub field-with_field : (n at value : ℕ) (bytes : List ℕ) → value < 256 ^ n → at + n ≤ length bytes
    → field n at (with_field n at value bytes) ≡ value
field-with_field n at value bytes small fits =
    let front : drop at (take at bytes ++ (big_bytes n value ++ drop (at + n) bytes)) ≡ big_bytes n value ++ drop (at + n) bytes =
    drop_at (take at bytes) (big_bytes n value ++ drop (at + n) bytes) at (length-take-le at bytes (omega arith)) in
    ap (λ (l : List ℕ). big_from 0 n l) front ∙ big_number-reads_back n value (drop (at + n) bytes) small

-- the head of an equation of two sums below a width
same_head : (x y a b w : ℕ) → a < w → b < w → x * w + a ≡ y * w + b → x ≡ y
same_head x y a b w la lb e = sym (div-mul-add x w a la) ∙ ap (λ (k : ℕ). k / w) e ∙ div-mul-add y w b lb

-- the rest of it
same_rest : (x y a b w : ℕ) → a < w → b < w → x * w + a ≡ y * w + b → a ≡ b
same_rest x y a b w la lb e = sym (mod-mul-add x w a la) ∙ ap (λ (k : ℕ). k % w) e ∙ mod-mul-add y w b lb

-- two strings of n bytes that read as the same number are the same
pub field-injective : (n : ℕ) (xs ys : List ℕ) → AreBytes xs → AreBytes ys → length xs ≡ n → length ys ≡ n
    → field n 0 xs ≡ field n 0 ys → xs ≡ ys
field-injective zero [] [] bx by lx ly e = refl
field-injective zero [] (y ∷ ys) bx by lx ly e = absurd (omega arith)
field-injective zero (x ∷ xs) ys bx by lx ly e = absurd (omega arith)
field-injective (suc n) [] ys bx by lx ly e = absurd (omega arith)
field-injective (suc n) (x ∷ xs) [] bx by lx ly e = absurd (omega arith)
field-injective (suc n) (x ∷ xs) (y ∷ ys) bx by lx ly e =
    let tail_x : AreBytes xs = λ i. bx (suc i) in
    let tail_y : AreBytes ys = λ i. by (suc i) in
    let small_x = big_from-lt 0 n xs tail_x in
    let small_y = big_from-lt 0 n ys tail_y in
    let sums : x * 256 ^ n + big_from 0 n xs ≡ y * 256 ^ n + big_from 0 n ys =
    rw (← big_from-cons 0 n x xs, ← big_from-cons 0 n y ys) e in
    let head = same_head x y (big_from 0 n xs) (big_from 0 n ys) (256 ^ n) small_x small_y sums in
    let rest = same_rest x y (big_from 0 n xs) (big_from 0 n ys) (256 ^ n) small_x small_y sums in
    let tails = field-injective n xs ys tail_x tail_y (omega arith) (omega arith) rest in
    cc
