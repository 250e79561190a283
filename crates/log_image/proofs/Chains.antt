-- Chains of whole records.
use Rattle.std.proofs.Common.{◌≡◌, ℕ, ◌+◌, ◌-◌, ◌<◌, ◌≤◌, List, [], ◌∷◌, ◌++◌, length, refl, sym, ap, subst, inl, inr, ◌∙◌, arith}
use Rattle.std.proofs.lemmas.Bool.{cases_lt}
use Rattle.life_bytes.specs.Fields.{field}
use Rattle.life_bytes.specs.declared.sector.Sector.{Sector}
use Rattle.log_record.specs.declared.record.LogRecord.{LogRecord}
use Rattle.log_record.specs.Whole.{IsWholeAt, at_place}
use Rattle.log_image.specs.Log.{IsRecordChain, record_end, next_of}
use Rattle.log_image.proofs.Places.{count_of, some_sector}
use Rattle.log_image.proofs.TornRing.{WholeLaws, IsTornRing, kept}

none : Sector
none = record { bytes = [] }

-- neither positions nor commit numbers fall
pub chain-bounds : (ring : List Sector) (position number : ℕ) (records : List LogRecord) (end next : ℕ) → IsRecordChain ring position number records end next
    → (position ≤ end) × (number ≤ next)
chain-bounds ring position number [] end next h = (omega (arith, h.0), omega (arith, h.1))
chain-bounds ring position number (item ∷ records) end next h =
    let rest = chain-bounds ring (record_end item) (next_of item) records end next h.2 in
    let begins : item.position ≡ position = h.0.begins in
    let first : item.first ≡ number = h.1 in
    (omega (arith, rest.0), omega (arith, rest.1))

-- a chain from the tail on, before a record that is written, stays
pub chain-kept : (laws : WholeLaws) (old new : List Sector) (item : LogRecord) (tail position number : ℕ) (records : List LogRecord) (end next : ℕ)
    → IsTornRing old new item → record_end item - tail ≤ length old → tail ≤ position → end ≤ item.position
    → IsRecordChain old position number records end next → IsRecordChain new position number records end next
chain-kept laws old new item tail position number [] end next torn room from to h = h
chain-kept laws old new item tail position number (first ∷ records) end next torn room from to h =
    let rest = chain-bounds old (record_end first) (next_of first) records end next h.2 in
    let begins : first.position ≡ position = h.0.begins in
    let here : record_end first ≤ item.position = omega (arith, rest.0) in
    let later : tail ≤ record_end first = omega arith in (
      kept laws old new item tail position first torn room from here h.0,
      h.1,
      chain-kept laws old new item tail (record_end first) (next_of first) records end next torn room later to h.2,
    )

-- one record more
pub chain-push : (ring : List Sector) (position number : ℕ) (records : List LogRecord) (end next : ℕ) (item : LogRecord)
    → IsRecordChain ring position number records end next → IsWholeAt ring end item → item.first ≡ next
    → IsRecordChain ring position number (records ++ item ∷ []) (record_end item) (next_of item)
chain-push ring position number [] end next item h whole first =
    (subst (λ (p : ℕ). IsWholeAt ring p item) (sym h.0) whole, first ∙ sym h.1, (refl, refl))
chain-push ring position number (other ∷ records) end next item h whole first =
    (h.0, h.1, chain-push ring (record_end other) (next_of other) records end next item h.2 whole first)

-- between two positions there is at most one chain
pub chain-unique : (laws : WholeLaws) (ring : List Sector) (position m n : ℕ) (xs ys : List LogRecord) (end a b : ℕ)
    → IsRecordChain ring position m xs end a → IsRecordChain ring position n ys end b → xs ≡ ys
chain-unique laws ring position m n [] [] end a b h k = refl
chain-unique laws ring position m n [] (y ∷ ys) end a b h k =
    let rest = chain-bounds ring (record_end y) (next_of y) ys end b k.2 in
    let begins : y.position ≡ position = k.0.begins in
    let some = some_sector y in
    absurd (omega (arith, rest.0, h.0))
chain-unique laws ring position m n (x ∷ xs) [] end a b h k =
    let rest = chain-bounds ring (record_end x) (next_of x) xs end a h.2 in
    let begins : x.position ≡ position = h.0.begins in
    let some = some_sector x in
    absurd (omega (arith, rest.0, k.0))
chain-unique laws ring position m n (x ∷ xs) (y ∷ ys) end a b h k =
    let same : x ≡ y = laws.one ring position x y h.0 k.0 in
    let from : IsRecordChain ring (record_end x) (next_of y) ys end b = subst (λ (z : LogRecord). IsRecordChain ring (record_end z) (next_of y) ys end b) (sym same) k.2 in
    let rest : xs ≡ ys = chain-unique laws ring (record_end x) (next_of x) (next_of y) xs ys end a b h.2 from in
    ap (λ (l : List LogRecord). x ∷ l) rest ∙ ap (λ (z : LogRecord). z ∷ ys) same

-- two whole records do not share a sector
pub apart : (laws : WholeLaws) (ring : List Sector) (p q : ℕ) (a b : LogRecord) → IsWholeAt ring p a → IsWholeAt ring q b → p < q → q < p + count_of a → ⊥
apart laws ring p q a b isa isb lt within =
    let i = q - p in
    let at : p + i ≡ q + 0 = omega arith in
    let first = laws.stamped ring p i none a isa (omega arith) in
    let second = laws.stamped ring q 0 none b isb (some_sector b) in
    let same : field 8 8 (at_place ring (p + i) none).bytes ≡ q = ap (λ (k : ℕ). field 8 8 (at_place ring k none).bytes) at ∙ second.1 in
    let clash : p ≡ q = sym first.1 ∙ same in
    omega arith

-- a chain up to the end of the record with the greatest position ends with that record
pub chain-last : (laws : WholeLaws) (ring : List Sector) (position number : ℕ) (records : List LogRecord) (end next : ℕ) (last : LogRecord)
    → IsRecordChain ring position number records end next → IsWholeAt ring last.position last → end ≡ record_end last
    → ((other : LogRecord) → IsWholeAt ring other.position other → other.position ≤ last.position) → position ≤ last.position
    → (before : List LogRecord) × (records ≡ before ++ last ∷ [])
chain-last laws ring position number [] end next last h whole at greatest low =
    let some = some_sector last in
    absurd (omega (arith, h.0))
chain-last laws ring position number (item ∷ []) end next last h whole at greatest low =
    let begins : item.position ≡ position = h.0.begins in
    let ends : record_end item ≡ record_end last = h.2.0 ∙ at in
    elim (cases_lt position last.position) [
      | inl lt ↦
          let some = some_sector last in
          absurd (apart laws ring position last.position item last h.0 whole lt (omega arith))
      | inr le ↦
          let same : position ≡ last.position = omega arith in
          let here : IsWholeAt ring last.position item = subst (λ (p : ℕ). IsWholeAt ring p item) same h.0 in
          ([], ap (λ (r : LogRecord). r ∷ []) (laws.one ring last.position item last here whole))
    ]
chain-last laws ring position number (item ∷ (other ∷ records)) end next last h whole at greatest low =
    let begins : other.position ≡ record_end item = h.2.0.begins in
    let here : IsWholeAt ring other.position other = subst (λ (p : ℕ). IsWholeAt ring p other) (sym begins) h.2.0 in
    let later : record_end item ≤ last.position = omega (arith, greatest other here) in
    let rest = chain-last laws ring (record_end item) (next_of item) (other ∷ records) end next last h.2 whole at greatest later in
    (item ∷ rest.0, ap (λ (l : List LogRecord). item ∷ l) rest.1)
