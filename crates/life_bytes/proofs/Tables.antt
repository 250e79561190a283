-- The tables: at each place, what the bits leave of its byte.
use Rattle.std.proofs.Common.{◌≡◌, ℕ, zero, suc, ◌+◌, ◌*◌, ◌<◌, List, [], ◌∷◌, get_or, refl, ap, ◌∙◌, arith, map}
use Rattle.std.specs.List.{range_with_len}
use Rattle.std.proofs.lemmas.List.FromFn.{get_or-map-range_with_len}
use Rattle.life_bytes.specs.declared.crc_table.TheConstants.{TABLES}
use Rattle.life_bytes.specs.Crc.{after_bits}
use Rattle.life_bytes.proofs.Register.{after_bits-add}

-- what n bits leave of each byte
abbrev entries : ℕ → List ℕ
entries n = map (after_bits n) (range_with_len 0 256)

-- a row, and the rows after it, each made from the one before by eight more bits
rows : ℕ → List ℕ → List (List ℕ)
rows zero row = []
rows (suc n) row = row ∷ rows n (map (after_bits 8) row)

-- the test that is computed
tables : TABLES ≡ rows 8 (entries 8)
unfolding after_bits rows
tables = refl

again : (m n : ℕ) (xs : List ℕ) → map (after_bits n) (map (after_bits m) xs) ≡ map (after_bits (m + n)) xs
again m n [] = refl
again m n (x ∷ xs) = ap (λ (y : ℕ). y ∷ map (after_bits n) (map (after_bits m) xs)) (after_bits-add m n x) ∙ ap (λ (ys : List ℕ). after_bits (m + n) x ∷ ys) (again m n xs)

rows-at : (n k m : ℕ) → k < n → get_or (rows n (entries m)) k [] ≡ entries (m + 8 * k)
unfolding rows
rows-at zero k m h = absurd (omega arith)
rows-at (suc n) zero m h = let e : m ≡ m + 8 * 0 = omega arith in ap entries e
rows-at (suc n) (suc k) m h =
    let e : m + 8 + 8 * k ≡ m + 8 * suc k = omega arith in
    ap (λ (row : List ℕ). get_or (rows n row) k []) (again m 8 (range_with_len 0 256)) ∙ rows-at n k (m + 8) (omega arith) ∙ ap entries e

pub row_at : (k i : ℕ) → k < 8 → i < 256 → get_or (get_or TABLES k []) i 0 ≡ after_bits (8 * (k + 1)) i
row_at k i hk hi =
    let e : 8 + 8 * k ≡ 8 * (k + 1) = omega arith in
    ap (λ (t : List (List ℕ)). get_or (get_or t k []) i 0) tables ∙ ap (λ (row : List ℕ). get_or row i 0) (rows-at 8 k 8 hk)
    ∙ get_or-map-range_with_len (after_bits (8 + 8 * k)) 0 256 i i 0 hi (omega arith) ∙ ap (λ (n : ℕ). after_bits n i) e
