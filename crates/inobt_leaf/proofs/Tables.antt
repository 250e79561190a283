-- The tables of a page: what was put, and what stands where.
use Rattle.std.proofs.Common.{◌≡◌, ◌<◌, ◌≤◌, ◌+◌, ◌*◌, ℕ, suc, true, List, [], ◌∷◌, ◌++◌, Some, length, take, drop, get_or, inr, refl, ap, sym, ◌∙◌, arith, subst}
use Rattle.std.specs.List.{slice_get}
use Rattle.std.proofs.lemmas.List.{append_assoc, append-nil, length-take-le, take_more}
use Rattle.life_bytes.specs.Fields.{with_piece}
use Rattle.life_bytes.specs.Pieces.{Field, placed}
use Rattle.life_bytes.specs.TableLaws.{AreFields, IsAside, is_aside, placed_other, field_at, length-placed}
use Rattle.inobt_leaf.specs.declared.writing.TheConstants.{LEAF_RECORDS_AT}
use Rattle.inobt_leaf.specs.declared.chunk.ChunkRec.{ChunkRec}
use Rattle.inobt_leaf.specs.Pages.{chunk_rows, chunk_records}

-- one table put in after another
pub placed-append : (xs ys : List Field) (base : List ℕ) → placed (xs ++ ys) base ≡ placed ys (placed xs base)
unfolding placed
placed-append [] ys base = refl
placed-append (x ∷ xs) ys base = placed-append xs ys (with_piece x.width x.at x.bytes base)

pub records-append : (place : ℕ) (xs ys : List ChunkRec) → chunk_records place (xs ++ ys) ≡ chunk_records place xs ++ chunk_records (place + 16 * length xs) ys
records-append place [] ys = let e : place + 16 * 0 ≡ place = omega arith in ap (λ (p : ℕ). chunk_records p ys) (sym e)
records-append place (x ∷ xs) ys =
    let e : place + 16 + 16 * length xs ≡ place + 16 * suc (length xs) = omega arith in
    ap (λ (rows : List Field). chunk_rows place x ++ rows) (records-append (place + 16) xs ys ∙ ap (λ (p : ℕ). chunk_records (place + 16) xs ++ chunk_records p ys) e)
    ∙ sym (append_assoc (chunk_rows place x) (chunk_records (place + 16) xs) (chunk_records (place + 16 * suc (length xs)) ys))

-- one record more
pub records_more : (chunks : List ChunkRec) (i : ℕ) (d : ChunkRec) (base : List ℕ) → i < length chunks
    → placed (chunk_rows (LEAF_RECORDS_AT + 16 * i) (get_or chunks i d)) (placed (chunk_records LEAF_RECORDS_AT (take i chunks)) base) ≡ placed (chunk_records LEAF_RECORDS_AT (take (i + 1) chunks)) base
records_more chunks i d base h =
    let count : length (take i chunks) ≡ i = length-take-le i chunks (omega arith) in
    let chunk : ChunkRec = get_or chunks i d in
    sym (
    ap (λ (cs : List ChunkRec). placed (chunk_records LEAF_RECORDS_AT cs) base) (take_more chunks i d h)
    ∙ ap (λ (rows : List Field). placed rows base) (
    records-append LEAF_RECORDS_AT (take i chunks) (chunk ∷ [])
    ∙ ap (λ (n : ℕ). chunk_records LEAF_RECORDS_AT (take i chunks) ++ chunk_records (LEAF_RECORDS_AT + 16 * n) (chunk ∷ [])) count
    ∙ ap (λ (rows : List Field). chunk_records LEAF_RECORDS_AT (take i chunks) ++ rows) (append-nil (chunk_rows (LEAF_RECORDS_AT + 16 * i) chunk)))
    ∙ placed-append (chunk_records LEAF_RECORDS_AT (take i chunks)) (chunk_rows (LEAF_RECORDS_AT + 16 * i) chunk) base)

-- rows within a page
AreRows-append : (size : ℕ) (xs ys : List Field) → AreFields size xs → AreFields size ys → AreFields size (xs ++ ys)
AreRows-append size [] ys a b = b
AreRows-append size (x ∷ xs) ys a b = (a.0, AreRows-append size xs ys a.1 b)

pub AreRows-chunk : (size place : ℕ) (chunk : ChunkRec) → place + 16 ≤ size → AreFields size (chunk_rows place chunk)
AreRows-chunk size place chunk h = ((omega arith, refl), ((omega arith, refl), ((omega arith, refl), tt)))

pub AreRows-records : (size place : ℕ) (chunks : List ChunkRec) → place + 16 * length chunks ≤ size → AreFields size (chunk_records place chunks)
AreRows-records size place [] h = tt
AreRows-records size place (x ∷ xs) h =
    AreRows-append size (chunk_rows place x) (chunk_records (place + 16) xs) (AreRows-chunk size place x (omega arith)) (AreRows-records size (place + 16) xs (omega arith))

-- the records have no byte before their place
pub IsAside-records : (at n place : ℕ) (chunks : List ChunkRec) → at + n ≤ place → IsAside at n (chunk_records place chunks)
IsAside-records at n place [] h = tt
IsAside-records at n place (x ∷ xs) h =
    (inr (omega arith), (inr (omega arith), (inr (omega arith), IsAside-records at n (place + 16) xs (omega arith))))

-- what a row holds among tables before and after its own
pub row_among : (before mid after : List Field) (k : ℕ) (row : Field) (base : List ℕ)
    → AreFields (length base) before → AreFields (length base) mid → AreFields (length base) after
    → slice_get mid k ≡ Some row → is_aside row.at row.width (drop (k + 1) mid) ≡ true → IsAside row.at row.width after
    → take row.width (drop row.at (placed (before ++ (mid ++ after)) base)) ≡ row.bytes
row_among before mid after k row base a b c found aside apart =
    let first : List ℕ = placed before base in
    let second : List ℕ = placed mid first in
    let long : length first ≡ length base = length-placed before base a in
    let b' : AreFields (length first) mid = subst (λ (n : ℕ). AreFields n mid) (sym long) b in
    let long' : length second ≡ length base = length-placed mid first b' ∙ long in
    let c' : AreFields (length second) after = subst (λ (n : ℕ). AreFields n after) (sym long') c in
    ap (λ (bytes : List ℕ). take row.width (drop row.at bytes)) (placed-append before (mid ++ after) base ∙ placed-append mid after first)
    ∙ placed_other after second row.at row.width c' apart
    ∙ field_at mid k row first b' found aside
