-- Where the buffers of a number stand among ascending chunks.
use Rattle.std.proofs.Common.{◌≡◌, ◌≢◌, ◌<◌, ◌≤◌, ◌+◌, ◌-◌, ◌%◌, ℕ, zero, suc, true, leb, eqb, List, [], ◌∷◌, None, length, get_or, inl, inr, refl, ap, sym, ◌∙◌, arith, subst}
use Rattle.std.specs.List.{slice_get}
use Rattle.std.specs.List.Sorted.{IsPartitionedBy}
use Rattle.std.proofs.lemmas.Bool.{cases_lt, leb-true, le-leb, eq-eqb, ne_eqb, cond-true, cond-false}
use Rattle.life_table.specs.Table.{start_of}
use Rattle.group_ops.specs.Buffers.{Buffers, BuffersAscend, buffer_in}

-- those that start at or before a number stand in front
pub parted : (chunks : List Buffers) (agino : ℕ) → BuffersAscend chunks → IsPartitionedBy (λ c. leb c.start agino) chunks
parted chunks agino ascends i j d le within passes =
    elim (cases_lt i j) [
      | inl lt ↦ le-leb _ _ (omega (arith, ascends i j d lt within, leb-true _ _ passes))
      | inr ge ↦ let same : i ≡ j = omega arith in subst (λ (k : ℕ). leb (get_or chunks k d).start agino ≡ true) (sym same) passes
    ]

pub buffer_first : (c : Buffers) (cs : List Buffers) (agino : ℕ) → c.start ≡ start_of agino → buffer_in (c ∷ cs) agino ≡ slice_get c.sectors (agino % 64)
unfolding buffer_in
buffer_first c cs agino e = cond-true (eqb c.start (start_of agino)) (slice_get c.sectors (agino % 64)) (buffer_in cs agino) (eq-eqb c.start (start_of agino) e)

pub buffer_later : (c : Buffers) (cs : List Buffers) (agino : ℕ) → c.start ≢ start_of agino → buffer_in (c ∷ cs) agino ≡ buffer_in cs agino
unfolding buffer_in
buffer_later c cs agino ne = cond-false (eqb c.start (start_of agino)) (slice_get c.sectors (agino % 64)) (buffer_in cs agino) (ne_eqb c.start (start_of agino) ne)

pub buffer_nil : (agino : ℕ) → buffer_in [] agino ≡ None
unfolding buffer_in
buffer_nil agino = refl

pub buffer-at : (chunks : List Buffers) (agino k : ℕ) (d : Buffers) → BuffersAscend chunks → k < length chunks → (get_or chunks k d).start ≡ start_of agino
    → buffer_in chunks agino ≡ slice_get (get_or chunks k d).sectors (agino % 64)
buffer-at [] agino k d ascends low e = absurd (omega arith)
buffer-at (c ∷ cs) agino zero d ascends low e = buffer_first c cs agino e
buffer-at (c ∷ cs) agino (suc k) d ascends low e =
    let up = ascends 0 (suc k) d (omega arith) low in
    buffer_later c cs agino (λ same. omega (arith, up, same, e))
    ∙ buffer-at cs agino k d (λ i j x lt h. ascends (suc i) (suc j) x (omega arith) (omega arith)) (omega arith) e

pub buffer-none : (chunks : List Buffers) (agino : ℕ) (d : Buffers) → ((k : ℕ) → k < length chunks → (get_or chunks k d).start ≢ start_of agino) → buffer_in chunks agino ≡ None
buffer-none [] agino d none = buffer_nil agino
buffer-none (c ∷ cs) agino d none = buffer_later c cs agino (none 0 (omega arith)) ∙ buffer-none cs agino d (λ k low. none (suc k) (omega arith))

-- where all chunks start behind a number, none has it
pub past_all : (chunks : List Buffers) (agino : ℕ) → ((k : ℕ) (e : Buffers) → 0 ≤ k → k < length chunks → agino < (get_or chunks k e).start)
    → (k : ℕ) (d : Buffers) → k < length chunks → (get_or chunks k d).start ≢ start_of agino
past_all chunks agino behind k d low same = omega (arith, behind k d (omega arith) low, same)

-- an element of a list is there whichever value stands for none
same_there : (xs : List Buffers) (k : ℕ) (d e : Buffers) → k < length xs → get_or xs k d ≡ get_or xs k e
same_there [] k d e low = absurd (omega arith)
same_there (x ∷ xs) zero d e low = refl
same_there (x ∷ xs) (suc k) d e low = same_there xs k d e (omega arith)

-- the last one that starts at or before a number has it, where it does not end before it
pub placed_here : (chunks : List Buffers) (agino place start : ℕ) (x : Buffers) → place < length chunks → x ≡ get_or chunks place x
    → start ≡ x.start → start % 64 ≡ 0 → ((d : Buffers) → (get_or chunks place d).start ≤ agino) → agino - start < 64 → (d : Buffers) → (get_or chunks place d).start ≡ start_of agino
placed_here chunks agino place start x low is own aligned at_most near d =
    let here : (get_or chunks place x).start ≡ start = ap (λ (b : Buffers). b.start) (sym is) ∙ sym own in
    let same = ap (λ (b : Buffers). b.start) (same_there chunks place d x low) in
    omega (arith, here, same, aligned, at_most x, near)

-- and none has it where it does
pub placed_nowhere : (chunks : List Buffers) (agino count place start : ℕ) (x : Buffers) → BuffersAscend chunks → place + 1 ≡ count → count ≤ length chunks → x ≡ get_or chunks place x
    → start ≡ x.start → start % 64 ≡ 0 → start + 64 ≤ agino → ((k : ℕ) (e : Buffers) → count ≤ k → k < length chunks → agino < (get_or chunks k e).start)
    → (k : ℕ) (d : Buffers) → k < length chunks → (get_or chunks k d).start ≢ start_of agino
placed_nowhere chunks agino count place start x ascends last within is own aligned far behind k d low same =
    let here : (get_or chunks place x).start ≡ start = ap (λ (b : Buffers). b.start) (sym is) ∙ sym own in
    let stands = ap (λ (b : Buffers). b.start) (same_there chunks k d x low) in
    elim (cases_lt k place) [
      | inl before ↦ let up = ascends k place x before (omega arith) in omega (arith, up, here, same, stands, far)
      | inr after ↦
          elim (cases_lt k count) [
            | inl equal ↦
                let e : k ≡ place = omega arith in
                let there : (get_or chunks k x).start ≡ start = ap (λ (n : ℕ). (get_or chunks n x).start) e ∙ here in
                omega (arith, there, stands, same, far)
            | inr past ↦ omega (arith, behind k d past low, same)
          ]
    ]
