-- The search for a number that no row has, record by record.
use Rattle.std.proofs.Common.{◌≡◌, ◌+◌, ◌-◌, ◌*◌, ◌/◌, ◌%◌, ◌^◌, ◌<◌, ◌≤◌, ℕ, zero, suc, true, List, [], ◌∷◌, Option, Some, All, length, get_or, sym, ap, subst, ◌∙◌, inl, inr, arith}
use Rattle.std.specs.Prelude.{IsSomeAnd, sum_by}
use Rattle.std.specs.List.{find}
use Rattle.std.specs.Int.{bit_at, w64, trailing_zeros}
use Rattle.std.proofs.lemmas.Bool.{cases_lt, cases_order, cases_Bool, eqb-true, eq-eqb, cond-true, cond-false, false≢true}
use Rattle.std.proofs.lemmas.Nat.{ones-le, pow-add}
use Rattle.std.proofs.lemmas.Nat.Bits.{bit_at-trailing_zeros, bit_at-zero, bit_at_above}
use Rattle.std.proofs.lemmas.List.Elements.{All-get_or}
use Rattle.std.proofs.lemmas.List.Sums.{sum_by-cons}
use Rattle.std.proofs.Math.Nat.{div-div-eq-div-mul}
use Rattle.life_bytes.specs.Bits.{is_set}
use Rattle.inobt_leaf.specs.declared.chunk.ChunkRec.{ChunkRec}
use Rattle.inobt_leaf.specs.Chunks.{IsLeaf, IsChunkRecord, chunk_holds}
use Rattle.group_space.specs.Numbers.{SaysUnused}
use Rattle.group_space.proofs.Records.{behind, held_by, tail_leaf}

-- ---- the lowest bit from a place on

shifted_bit : (mask from i : ℕ) → bit_at (mask / 2 ^ from) i ≡ bit_at mask (from + i)
shifted_bit mask from i = ap (λ (n : ℕ). n % 2) (div-div-eq-div-mul mask (2 ^ from) (2 ^ i) ∙ ap (λ (n : ℕ). mask / n) (sym (pow-add 2 from i)))

bit_behind : (mask from i : ℕ) → from ≤ i → bit_at mask i ≡ bit_at (mask / 2 ^ from) (i - from)
bit_behind mask from i low = let e : i ≡ from + (i - from) = omega arith in ap (bit_at mask) e ∙ sym (shifted_bit mask from (i - from))

-- no bit is set from a place on where the rest of the number is zero
pub no_bit_from : (mask from i : ℕ) → mask / 2 ^ from ≡ 0 → from ≤ i → is_set mask i ≡ true → ⊥
no_bit_from mask from i none low is =
    let nil : bit_at mask i ≡ 0 = bit_behind mask from i low ∙ ap (λ (n : ℕ). bit_at n (i - from)) none ∙ bit_at-zero (i - from) in
    let one = eqb-true (bit_at mask i) 1 is in
    omega arith

-- else the lowest one of the rest is the first
pub first_bit_is_set : (mask from : ℕ) → 0 < mask / 2 ^ from → mask / 2 ^ from < 2 ^ 64 → is_set mask (from + trailing_zeros w64 (mask / 2 ^ from)) ≡ true
first_bit_is_set mask from some fits =
    let t = bit_at-trailing_zeros w64 (mask / 2 ^ from) some fits in
    eq-eqb (bit_at mask (from + trailing_zeros w64 (mask / 2 ^ from))) 1 (sym (shifted_bit mask from (trailing_zeros w64 (mask / 2 ^ from))) ∙ t.1)

pub first_bit_is_low : (mask from : ℕ) → 0 < mask / 2 ^ from → mask < 2 ^ 64 → mask / 2 ^ from < 2 ^ 64 → from + trailing_zeros w64 (mask / 2 ^ from) < 64
first_bit_is_low mask from some small fits =
    let t = trailing_zeros w64 (mask / 2 ^ from) in
    elim (cases_lt (from + t) 64) [
      | inl low ↦ low
      | inr high ↦
          let nil = bit_at_above mask 64 (from + t) small high in
          let one = eqb-true (bit_at mask (from + t)) 1 (first_bit_is_set mask from some fits) in
          absurd (omega arith)
    ]

pub first_bit_is_least : (mask from i : ℕ) → 0 < mask / 2 ^ from → mask / 2 ^ from < 2 ^ 64 → from ≤ i → is_set mask i ≡ true → from + trailing_zeros w64 (mask / 2 ^ from) ≤ i
first_bit_is_least mask from i some fits low is =
    let t = bit_at-trailing_zeros w64 (mask / 2 ^ from) some fits in
    elim (cases_lt (i - from) (trailing_zeros w64 (mask / 2 ^ from))) [
      | inl before ↦
          let nil : bit_at mask i ≡ 0 = bit_behind mask from i low ∙ t.2 (i - from) before in
          let one = eqb-true (bit_at mask i) 1 is in
          absurd (omega arith)
      | inr past ↦ omega arith
    ]

-- ---- numbers by records

-- the record that says that no row has a number
pub record Found (records : List ChunkRec) (agino : ℕ) : Type 0 where
  pub place : ℕ
  pub low : place < length records
  pub held : (d : ChunkRec) → chunk_holds agino (get_or records place d) ≡ true
  pub bit : (d : ChunkRec) → is_set (get_or records place d).mask (agino - (get_or records place d).start) ≡ true

pub found : (records : List ChunkRec) (agino : ℕ) → SaysUnused records agino → Found records agino
found [] agino says = absurd says
found (r ∷ rs) agino says =
    let P : Option ChunkRec → Type 0 = λ o. IsSomeAnd o (λ chunk. is_set chunk.mask (agino - chunk.start) ≡ true) in
    elim (cases_Bool (chunk_holds agino r)) [
      | inl held ↦ record { place = 0; low = omega arith; held = λ d. held; bit = λ d. subst P (cond-true (chunk_holds agino r) (Some r) (find (chunk_holds agino) rs) held) says }
      | inr other ↦
          let rest = found rs agino (subst P (cond-false (chunk_holds agino r) (Some r) (find (chunk_holds agino) rs) other) says) in
          let within = rest.low in
          record { place = suc rest.place; low = omega arith; held = λ d. rest.held d; bit = λ d. rest.bit d }
    ]

pub says : (records : List ChunkRec) (agino k : ℕ) (d : ChunkRec) → IsLeaf records → k < length records → chunk_holds agino (get_or records k d) ≡ true
    → is_set (get_or records k d).mask (agino - (get_or records k d).start) ≡ true → SaysUnused records agino
says [] agino k d leaf low held bit = absurd (omega arith)
says (r ∷ rs) agino zero d leaf low held bit =
    let P : Option ChunkRec → Type 0 = λ o. IsSomeAnd o (λ chunk. is_set chunk.mask (agino - chunk.start) ≡ true) in
    subst P (sym (cond-true (chunk_holds agino r) (Some r) (find (chunk_holds agino) rs) held)) bit
says (r ∷ rs) agino (suc k) d leaf low held bit =
    let P : Option ChunkRec → Type 0 = λ o. IsSomeAnd o (λ chunk. is_set chunk.mask (agino - chunk.start) ≡ true) in
    elim (cases_Bool (chunk_holds agino r)) [
      | inl front ↦ absurd (false≢true (sym (behind r rs agino leaf front k d (omega arith)) ∙ held))
      | inr other ↦
          subst P (sym (cond-false (chunk_holds agino r) (Some r) (find (chunk_holds agino) rs) other))
          (says rs agino k d (tail_leaf r rs leaf) (omega arith) held bit)
    ]

-- a record says it of no number from one on
abbrev pub NoneFrom : ℕ → ChunkRec → Type 0
NoneFrom from r = (agino : ℕ) → from ≤ agino → chunk_holds agino r ≡ true → is_set r.mask (agino - r.start) ≡ true → ⊥

abbrev pub NoneBefore : ℕ → List ChunkRec → ℕ → Type 0
NoneBefore from records n = (k : ℕ) (d : ChunkRec) → k < n → k < length records → NoneFrom from (get_or records k d)

-- the first record with such a number has the least one
pub least_number : (records : List ChunkRec) (from i place agino : ℕ) (d : ChunkRec) → IsLeaf records → i < length records → NoneBefore from records i → place < 64
    → ((j : ℕ) → from - (get_or records i d).start ≤ j → j < 64 → is_set (get_or records i d).mask j ≡ true → place ≤ j)
    → from ≤ agino → SaysUnused records agino → (get_or records i d).start + place ≤ agino
least_number records from i place agino d leaf low none few least above said =
    let f = found records agino said in
    let h = held_by agino (get_or records f.place d) (f.held d) in
    elim (cases_order f.place i) [
      | inl same ↦
          let held : chunk_holds agino (get_or records i d) ≡ true = ap (λ (k : ℕ). chunk_holds agino (get_or records k d)) (sym same) ∙ f.held d in
          let bit : is_set (get_or records i d).mask (agino - (get_or records i d).start) ≡ true = ap (λ (k : ℕ). is_set (get_or records k d).mask (agino - (get_or records k d).start)) (sym same) ∙ f.bit d in
          let own = held_by agino (get_or records i d) held in
          let mine = own.0 in
          let high = own.1 in
          let least_is = least (agino - (get_or records i d).start) (omega arith) (omega arith) bit in
          omega arith
      | inr (inl before) ↦ absurd (none f.place d before f.low agino above (f.held d) (f.bit d))
      | inr (inr behind) ↦
          let up = leaf.ascends i f.place d behind f.low in
          let mine = (All-get_or IsChunkRecord records i d low leaf.each).aligned in
          let other = (All-get_or IsChunkRecord records f.place d f.low leaf.each).aligned in
          let start = h.0 in
          omega arith
    ]

pub none_more : (records : List ChunkRec) (from i : ℕ) (d : ChunkRec) → NoneBefore from records i → i < length records → ((e : ChunkRec) → NoneFrom from (get_or records i e)) → NoneBefore from records (i + 1)
none_more records from i d none low here k e before within =
    elim (cases_lt k i) [
      | inl less ↦ none k e less within
      | inr at ↦ let same : i ≡ k = omega arith in subst (λ (n : ℕ). NoneFrom from (get_or records n e)) same (here e)
    ]

pub none_at_all : (records : List ChunkRec) (from n agino : ℕ) → NoneBefore from records n → length records ≤ n → from ≤ agino → SaysUnused records agino → ⊥
none_at_all records from n agino none all above said =
    let f = found records agino said in
    let low = f.low in
    let d : ChunkRec = record { start = 0; free = 0; mask = 0 } in
    none f.place d (omega arith) f.low agino above (f.held d) (f.bit d)

-- ---- how many

free_few : (r : ChunkRec) → IsChunkRecord r → r.free ≤ 64
free_few r is = omega (arith, ones-le 64 r.mask is.mask, is.free)

abbrev pub free_of : ChunkRec → ℕ
free_of r = r.free

pub sum_few : (records : List ChunkRec) → All IsChunkRecord records → sum_by free_of records ≤ 64 * length records
sum_few [] all = omega arith
sum_few (r ∷ rs) all =
    let one = free_few r (all 0 r (omega arith)) in
    omega (arith, one, sum_by-cons free_of r rs, sum_few rs (λ k e low. all (suc k) e (omega arith)))
