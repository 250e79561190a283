-- The next chunk has the lowest place that there is.
use Rattle.std.proofs.Common.{◌≡◌, ◌≤◌, ◌<◌, ◌+◌, ◌%◌, ℕ, zero, suc, Bool, true, false, None, Some, if◌then◌else◌, refl, sym, ap, subst, ◌∙◌, inl, inr, arith}
use Rattle.std.specs.Prelude.{◌==◌, nat_lt, length}
use Rattle.std.specs.List.{find, list_all, range_with_len}
use Rattle.std.proofs.lemmas.Bool.{and_from, and_parts, cases_eq, eq-eqb, eqb-true, false≢true, lt-ltb, ltb-true}
use Rattle.std.proofs.lemmas.Option.{none-some, same_Some}
use Rattle.life_limits.specs.declared.TheConstants.{MAX_CHUNKS}
use Rattle.life_table.specs.Table.{Group}
use Rattle.life_table.specs.Space.{BeginsFreeRun, begins_run, chunk_place, is_free_block}
use Rattle.life_table.proofs.Groups.{range_all}

-- ---- the first of a range that passes a test

record FoundIn (p : ℕ → Bool) (a n x : ℕ) : Type 0 where
  low : a ≤ x
  high : x < a + n
  passes : p x ≡ true
  least : (y : ℕ) → a ≤ y → y < x → p y ≡ false

found_here : (p : ℕ → Bool) (a n x : ℕ) → a ≡ x → p a ≡ true → FoundIn p a (suc n) x
found_here p a n x same is = record { low = omega arith; high = omega arith; passes = ap p (sym same) ∙ is; least = λ y low high. absurd (omega arith) }

found_in : (p : ℕ → Bool) (a n x : ℕ) → find p (range_with_len a n) ≡ Some x → FoundIn p a n x
found_in p a zero x at = absurd (none-some x at)
found_in p a (suc n) x at =
    elim (p a) as (λ c. p a ≡ c → (if c then Some a else find p (range_with_len (a + 1) n)) ≡ Some x → FoundIn p a (suc n) x) [
      | true ↦ λ is here. found_here p a n x (same_Some a x here) is
      | false ↦ λ is here.
          let rest = found_in p (a + 1) n x here in
          let low = rest.low in
          let high = rest.high in
          record {
            low = omega arith;
            high = omega arith;
            passes = rest.passes;
            least = λ y from to. elim (cases_eq y a) [ inl same ↦ ap p same ∙ is | inr other ↦ rest.least y (omega arith) to ];
          }
    ] refl at

none_in : (p : ℕ → Bool) (a n y : ℕ) → find p (range_with_len a n) ≡ None → a ≤ y → y < a + n → p y ≡ false
none_in p a zero y at low high = absurd (omega arith)
none_in p a (suc n) y at low high =
    elim (p a) as (λ c. p a ≡ c → (if c then Some a else find p (range_with_len (a + 1) n)) ≡ None → p y ≡ false) [
      | true ↦ λ is here. absurd (none-some a (sym here))
      | false ↦ λ is here. elim (cases_eq y a) [ inl same ↦ ap p same ∙ is | inr other ↦ none_in p (a + 1) n y here (omega arith) (omega arith) ]
    ] refl at

-- ---- runs of free blocks

all_range : (p : ℕ → Bool) (a n : ℕ) → ((b : ℕ) → a ≤ b → b < a + n → p b ≡ true) → list_all p (range_with_len a n) ≡ true
all_range p a zero each = refl
all_range p a (suc n) each =
    and_from (p a) (list_all p (range_with_len (a + 1) n)) (each a (omega arith) (omega arith)) (all_range p (a + 1) n (λ b low high. each b (omega arith) (omega arith)))

begins : (blocks : ℕ) (group : Group) (block : ℕ) → begins_run blocks group block ≡ true → BeginsFreeRun blocks group block
unfolding begins_run
begins blocks group block passes =
    let parts = and_parts (block % 8 == 0) (list_all (is_free_block blocks group) (range_with_len block 8)) passes in
    (eqb-true (block % 8) 0 parts.0, λ b low high. range_all (is_free_block blocks group) block 8 b parts.1 low high)

begins_not : (blocks : ℕ) (group : Group) (block : ℕ) → begins_run blocks group block ≡ false → BeginsFreeRun blocks group block → ⊥
unfolding begins_run
begins_not blocks group block fails run =
    false≢true (sym fails ∙ and_from (block % 8 == 0) (list_all (is_free_block blocks group) (range_with_len block 8)) (eq-eqb (block % 8) 0 run.0) (all_range (is_free_block blocks group) block 8 run.1))

-- ---- the place

place_found : (blocks : ℕ) (group : Group) (block : ℕ) → chunk_place blocks group ≡ Some block → (length group < MAX_CHUNKS) × FoundIn (begins_run blocks group) 0 blocks block
unfolding chunk_place
place_found blocks group block at =
    elim (nat_lt (length group) MAX_CHUNKS) as (λ c. nat_lt (length group) MAX_CHUNKS ≡ c
    → (if c then find (begins_run blocks group) (range_with_len 0 blocks) else None) ≡ Some block → (length group < MAX_CHUNKS) × FoundIn (begins_run blocks group) 0 blocks block) [
      | true ↦ λ room found. (ltb-true (length group) MAX_CHUNKS room, found_in (begins_run blocks group) 0 blocks block found)
      | false ↦ λ room found. absurd (none-some block found)
    ] refl at

pub place_is : (blocks : ℕ) (group : Group) (block : ℕ) → chunk_place blocks group ≡ Some block → (length group < MAX_CHUNKS) × (block < blocks) × BeginsFreeRun blocks group block
place_is blocks group block at =
    let f = place_found blocks group block at in
    let high = f.1.high in
    (f.0, omega arith, begins blocks group block f.1.passes)

pub place_least : (blocks : ℕ) (group : Group) (block other : ℕ) → chunk_place blocks group ≡ Some block → other < block → BeginsFreeRun blocks group other → ⊥
place_least blocks group block other at lt = begins_not blocks group other ((place_found blocks group block at).1.least other (omega arith) lt)

pub place_none : (blocks : ℕ) (group : Group) (block : ℕ) → chunk_place blocks group ≡ None → length group < MAX_CHUNKS → block < blocks → BeginsFreeRun blocks group block → ⊥
unfolding chunk_place
place_none blocks group block at few lt =
    let none : find (begins_run blocks group) (range_with_len 0 blocks) ≡ None =
    subst (λ (c : Bool). (if c then find (begins_run blocks group) (range_with_len 0 blocks) else None) ≡ None) (lt-ltb (length group) MAX_CHUNKS few) at in
    begins_not blocks group block (none_in (begins_run blocks group) 0 blocks block none (omega arith) (omega arith))
