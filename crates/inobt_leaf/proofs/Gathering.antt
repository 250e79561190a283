-- Sectors as bytes, one sector more.
use Rattle.std.proofs.Common.{◌≡◌, ◌<◌, ◌≤◌, ◌+◌, ◌-◌, ◌*◌, ℕ, List, [], ◌∷◌, ◌++◌, length, take, drop, get_or, set, ap, sym, ◌∙◌, arith}
use Rattle.std.proofs.lemmas.List.{append-nil, length-append, length-take, length-drop, take_more, take_more_set, take-take, drop-take, take-append-drop}
use Rattle.std.proofs.lemmas.List.Concat.{flat_map-append}
use Rattle.std.proofs.lemmas.Slice.{take-put_mid}
use borrow.Rule.Slice.PartMut.{put_mid}
use Rattle.life_bytes.specs.SectorBytes.{bytes_of}
use Rattle.life_bytes.specs.declared.sector.Sector.{Sector}

-- the bytes of one sector more
bytes_of-more : (sectors : List Sector) (i : ℕ) (d : Sector) → i < length sectors
    → bytes_of (take (i + 1) sectors) ≡ bytes_of (take i sectors) ++ (get_or sectors i d).bytes
bytes_of-more sectors i d h =
    ap bytes_of (take_more sectors i d h)
    ∙ flat_map-append (λ (s : Sector). s.bytes) (take i sectors) (get_or sectors i d ∷ [])
    ∙ ap (λ (xs : List ℕ). bytes_of (take i sectors) ++ xs) (append-nil (get_or sectors i d).bytes)

pub length_put : (a k width : ℕ) (xs ys : List ℕ) → width ≡ k → length ys ≡ k → a + k ≤ length xs → length (put_mid a width xs ys) ≡ length xs
length_put a k width xs ys w many room =
    length-append (take a xs) (ys ++ drop width (drop a xs))
    ∙ omega (arith, w, many, length-take a xs, length-append ys (drop width (drop a xs)), length-drop width (drop a xs), length-drop a xs)

-- one sector's bytes put behind those before it
pub gather_more : (page : List Sector) (bytes piece : List ℕ) (i : ℕ) (d : Sector) → i < length page → length bytes ≡ 4096 → 512 * i + 512 ≤ 4096
    → length piece ≡ 512 → piece ≡ (get_or page i d).bytes → take (512 * i) bytes ≡ bytes_of (take i page)
    → take (512 * (i + 1)) (put_mid (512 * i) (512 * i + 512 - 512 * i) bytes piece) ≡ bytes_of (take (i + 1) page)
gather_more page bytes piece i d h long room many same before =
    take-put_mid (512 * i) (512 * i + 512 - 512 * i) bytes piece (512 * (i + 1)) (omega (arith, many)) (omega (arith, long, room))
    ∙ ap (λ (xs : List ℕ). xs ++ piece) before
    ∙ ap (λ (xs : List ℕ). bytes_of (take i page) ++ xs) same
    ∙ sym (bytes_of-more page i d h)

-- two parts of a front
take-append-take : (m n : ℕ) (xs : List ℕ) → take m xs ++ take n (drop m xs) ≡ take (m + n) xs
take-append-take m n xs =
    ap (λ (ys : List ℕ). ys ++ take n (drop m xs)) (sym (take-take m (m + n) xs (omega arith)))
    ∙ ap (λ (ys : List ℕ). take m (take (m + n) xs) ++ ys) (sym (drop-take m n xs))
    ∙ take-append-drop m (take (m + n) xs)

-- one sector more written
pub scatter_more : (page : List Sector) (bytes piece : List ℕ) (i : ℕ) → i < length page
    → piece ≡ take (512 * i + 512 - 512 * i) (drop (512 * i) bytes) → bytes_of (take i page) ≡ take (512 * i) bytes
    → bytes_of (take (i + 1) (set page i record { bytes = piece })) ≡ take (512 * (i + 1)) bytes
scatter_more page bytes piece i h written before =
    let width : 512 * i + 512 - 512 * i ≡ 512 = omega arith in
    let next : 512 * i + 512 ≡ 512 * (i + 1) = omega arith in
    ap bytes_of (take_more_set page i record { bytes = piece } h)
    ∙ flat_map-append (λ (s : Sector). s.bytes) (take i page) (record { bytes = piece } ∷ [])
    ∙ ap (λ (xs : List ℕ). bytes_of (take i page) ++ xs) (append-nil piece ∙ written ∙ ap (λ (n : ℕ). take n (drop (512 * i) bytes)) width)
    ∙ ap (λ (xs : List ℕ). xs ++ take 512 (drop (512 * i) bytes)) before
    ∙ take-append-take (512 * i) 512 bytes
    ∙ ap (λ (n : ℕ). take n bytes) next
