-- Pieces put into lists of bytes, and into the payload of sectors.
use Rattle.std.proofs.Common.{◌≡◌, ℕ, zero, suc, ◌+◌, ◌*◌, ◌<◌, ◌≤◌, List, [], ◌∷◌, ◌++◌, length, take, drop, set, get_or, map, refl, sym, ap, ◌∙◌, arith, append_assoc}
use Rattle.std.proofs.Math.Seq.{take-append-add, drop-append-add}
use Rattle.std.proofs.lemmas.List.{take-append-le, drop-append-le, drop-drop, drop-take, take-take, map-set, set-get_or, get_or-map, length-drop, length-append, take_at, length-take-le, drop_at}
use Rattle.life_bytes.specs.Fields.{with_piece}
use Rattle.life_bytes.specs.declared.sector.Sector.{Sector}
use Rattle.life_bytes.specs.Sectors.{AreSectors}
use Rattle.log_record.specs.Payload.{payload_of, stamps_of}

-- a piece put behind a front
pub with_piece-append : (front rest piece : List ℕ) (n at : ℕ)
    → with_piece n (length front + at) piece (front ++ rest) ≡ front ++ with_piece n at piece rest
with_piece-append front rest piece n at =
    let e : length front + at + n ≡ length front + (at + n) = omega arith in
    rw (take-append-add front rest at, e, drop-append-add front rest (at + n), append_assoc) refl

-- a piece put into a front
pub with_piece-front : (front rest piece : List ℕ) (n at : ℕ) → at + n ≤ length front
    → with_piece n at piece (front ++ rest) ≡ with_piece n at piece front ++ rest
with_piece-front front rest piece n at fits =
    let low : at ≤ length front = omega arith in
    rw (take-append-le at front rest low, drop-append-le (at + n) front rest fits) (simp append_assoc)

-- what stands behind the stamps, and the stamps, after a piece was put behind them
pub part-with_piece : (bytes piece : List ℕ) (n at : ℕ) → 16 + at ≤ length bytes
    → drop 16 (with_piece n (16 + at) piece bytes) ≡ with_piece n at piece (drop 16 bytes)
part-with_piece bytes piece n at fits =
    let low : 16 ≤ length (take (16 + at) bytes) = omega (arith, length-take-le (16 + at) bytes fits) in
    let e : 16 + at + n ≡ 16 + (at + n) = omega arith in
    rw (drop-append-le 16 (take (16 + at) bytes) (piece ++ drop (16 + at + n) bytes) low, drop-take 16 at bytes, e, ← drop-drop (at + n) 16 bytes) refl

pub stamps-with_piece : (bytes piece : List ℕ) (n at : ℕ) → 16 + at ≤ length bytes
    → take 16 (with_piece n (16 + at) piece bytes) ≡ take 16 bytes
stamps-with_piece bytes piece n at fits =
    let low : 16 ≤ length (take (16 + at) bytes) = omega (arith, length-take-le (16 + at) bytes fits) in
    let le : 16 ≤ 16 + at = omega arith in
    take-append-le 16 (take (16 + at) bytes) (piece ++ drop (16 + at + n) bytes) low ∙ take-take 16 (16 + at) bytes le

-- the first part of a piece, and then the rest of it
pub with_piece-split : (bytes front behind : List ℕ) (at : ℕ) → at + length front ≤ length bytes
    → with_piece (length behind) (at + length front) behind (with_piece (length front) at front bytes)
    ≡ with_piece (length (front ++ behind)) at (front ++ behind) bytes
with_piece-split bytes front behind at fits =
    let start : length (take at bytes) ≡ at = length-take-le at bytes (omega arith) in
    let whole : length (take at bytes ++ front) ≡ at + length front = omega (arith, length-append (take at bytes) front) in
    let rest = drop (at + length front) bytes in
    let regroup : take at bytes ++ (front ++ rest) ≡ take at bytes ++ front ++ rest = sym (append_assoc (take at bytes) front rest) in
    let taken : take (at + length front) (take at bytes ++ (front ++ rest)) ≡ take at bytes ++ front =
    ap (λ (l : List ℕ). take (at + length front) l) regroup ∙ take_at (take at bytes ++ front) rest (at + length front) whole in
    let dropped : drop (at + length front + length behind) (take at bytes ++ (front ++ rest)) ≡ drop (length behind) rest =
    sym (drop-drop (length behind) (at + length front) (take at bytes ++ (front ++ rest)))
    ∙ ap (λ (l : List ℕ). drop (length behind) (drop (at + length front) l)) regroup
    ∙ ap (λ (l : List ℕ). drop (length behind) l) (drop_at (take at bytes ++ front) rest (at + length front) whole) in
    let end : drop (length behind) rest ≡ drop (at + length (front ++ behind)) bytes =
    drop-drop (length behind) (at + length front) bytes ∙ ap (λ (k : ℕ). drop k bytes) (omega (arith, length-append front behind)) in
    ap (λ (l : List ℕ). l ++ (behind ++ drop (at + length front + length behind) (take at bytes ++ (front ++ rest)))) taken
    ∙ ap (λ (l : List ℕ). take at bytes ++ front ++ (behind ++ l)) (dropped ∙ end)
    ∙ simp append_assoc

-- the payload after a piece was put into one sector
pub payload_of-set : (xs : List Sector) (s d : Sector) (i at n : ℕ) (piece : List ℕ) → AreSectors xs → i < length xs → at + n ≤ 496
    → s.bytes ≡ with_piece n (16 + at) piece (get_or xs i d).bytes
    → payload_of (set xs i s) ≡ with_piece n (496 * i + at) piece (payload_of xs)
unfolding payload_of
payload_of-set [] s d i at n piece whole within fits is = absurd (omega arith)
payload_of-set (x ∷ xs) s d zero at n piece whole within fits is =
    let wide : length x.bytes ≡ 512 = whole 0 d (omega arith) in
    let part : drop 16 s.bytes ≡ with_piece n at piece (drop 16 x.bytes) =
    ap (λ (l : List ℕ). drop 16 l) is ∙ part-with_piece x.bytes piece n at (omega arith) in
    let room : at + n ≤ length (drop 16 x.bytes) = omega (arith, length-drop 16 x.bytes) in
    let e : 496 * zero + at ≡ at = omega arith in
    rw (part, e, with_piece-front (drop 16 x.bytes) (payload_of xs) piece n at room) refl
payload_of-set (x ∷ xs) s d (suc i) at n piece whole within fits is =
    let wide : length x.bytes ≡ 512 = whole 0 d (omega arith) in
    let part : length (drop 16 x.bytes) ≡ 496 = omega (arith, length-drop 16 x.bytes) in
    let tail : AreSectors xs = λ k e h. whole (suc k) e (omega arith) in
    let before = payload_of-set xs s d i at n piece tail (omega arith) fits is in
    let e : 496 * suc i + at ≡ length (drop 16 x.bytes) + (496 * i + at) = omega arith in
    rw (before, e, with_piece-append (drop 16 x.bytes) (payload_of xs) piece n (496 * i + at)) refl

-- the stamps after it
pub stamps-set : (xs : List Sector) (s d : Sector) (i : ℕ) → i < length xs → stamps_of s ≡ stamps_of (get_or xs i d)
    → map stamps_of (set xs i s) ≡ map stamps_of xs
stamps-set xs s d i within same =
    map-set stamps_of xs i s ∙ ap (λ (l : List ℕ). set (map stamps_of xs) i l) (same ∙ sym (get_or-map stamps_of xs i d [] within))
    ∙ set-get_or (map stamps_of xs) i []

pub length-payload_of : (xs : List Sector) → AreSectors xs → length (payload_of xs) ≡ 496 * length xs
unfolding payload_of
length-payload_of [] whole = refl
length-payload_of (x ∷ xs) whole =
    let wide : length x.bytes ≡ 512 = whole 0 x (omega arith) in
    let tail : AreSectors xs = λ k e h. whole (suc k) e (omega arith) in
    omega (arith, length-append (drop 16 x.bytes) (payload_of xs), length-drop 16 x.bytes, length-payload_of xs tail)
