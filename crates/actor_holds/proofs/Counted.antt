-- Two lists of holds that have each hold as often have one length; so a set has as many as the entries take.
use Rattle.std.proofs.Common.{◌≡◌, ◌==◌, ◌+◌, ◌≤◌, ◌&&◌, ◌||◌, ℕ, suc, true, false, List, [], ◌∷◌, Option, None, Some, if◌then◌else◌, nat_lt, length, refl, sym, ap, ◌∙◌, arith}
use Rattle.std.specs.List.{AllByRecursion, list_any}
use Rattle.std.specs.List.Sorted.{IsStrictlySortedBy}
use Rattle.std.specs.Ordering.{is_eq}
use Rattle.std.specs.declared.cmp.Ordering.TheVariants.{Less}
use Rattle.std.proofs.lemmas.List.Sums.{sum_by-cons}
use Rattle.std.proofs.lemmas.Bool.{eqb-true, eq-eqb, and_parts, and_from}
use Rattle.std.proofs.lemmas.Bool.Decides.{nat_tests}
use Rattle.life_table.specs.declared.key.Key.{Key}
use Rattle.life_table.specs.declared.types.Entry.{Entry}
use Rattle.life_table.specs.declared.table.Table.{Table}
use Rattle.life_table.specs.History.{LegalHistory, closed, holds, same_key, takes_hold}
use Rattle.life_table.specs.WellFormed.{IsTable}
use Rattle.run_history.specs.Answers.{holds_in}
use Rattle.actor_holds.specs.Holds.{AreHolds, AreSteady, hold_order, is_held, is_hold, key_taken}
use Rattle.actor_holds.proofs.Noted.{and-assoc, and-false, hold_test, holds_are, is_key, one_if, swapped, taken, takes_is}
use Rattle.actor_holds.proofs.Opens.{opens-closed}
use Rattle.actor_holds.proofs.Made.{LowestIsFree}
use Rattle.actor_holds.proofs.Happenings.{StaysWellFormed, holds-taken, holds_taken, with_hold}
use Rattle.actor_holds.proofs.Once.{HoldersHaveRows, taken-once}

abbrev Hold : Type 0
Hold = ℕ × ℕ × ℕ

abbrev key_of : Hold → Key
key_of hold = record { number = hold.1; generation = hold.2 }

-- how often the hold of an actor on a key is in a list
times_held : ℕ → Key → List Hold → ℕ
times_held actor key [] = 0
times_held actor key (hold ∷ holds) = one_if (is_hold actor key hold) + times_held actor key holds

-- the hold that it is
hold_is : (actor : ℕ) (key : Key) (hold : Hold) → is_hold actor key hold ≡ true → (actor, key.number, key.generation) ≡ hold
hold_is actor key hold is =
    let outer = and_parts ((actor == hold.0) && (key.number == hold.1)) (key.generation == hold.2) is in
    let inner = and_parts (actor == hold.0) (key.number == hold.1) outer.0 in
    let first : actor ≡ hold.0 = eqb-true actor hold.0 inner.0 in
    let second : key.number ≡ hold.1 = eqb-true key.number hold.1 inner.1 in
    let third : key.generation ≡ hold.2 = eqb-true key.generation hold.2 outer.1 in
    λ i. (first i, second i, third i)

is_itself : (hold : Hold) → is_hold hold.0 (key_of hold) hold ≡ true
is_itself hold =
    and_from ((hold.0 == hold.0) && (hold.1 == hold.1)) (hold.2 == hold.2)
    (and_from (hold.0 == hold.0) (hold.1 == hold.1) (eq-eqb hold.0 hold.0 refl) (eq-eqb hold.1 hold.1 refl)) (eq-eqb hold.2 hold.2 refl)

-- ---- one length

without : ℕ → Key → List Hold → List Hold
without actor key [] = []
without actor key (hold ∷ holds) = if is_hold actor key hold then holds else hold ∷ without actor key holds

times-without : (actor : ℕ) (key : Key) (holds : List Hold) (b : ℕ) (k : Key) → 1 ≤ times_held actor key holds
    → times_held b k holds ≡ times_held b k (without actor key holds) + one_if (is_hold b k (actor, key.number, key.generation))
unfolding times_held without one_if
times-without actor key [] b k some = absurd (omega arith)
times-without actor key (hold ∷ holds) b k some =
    elim (is_hold actor key hold) as (λ c. is_hold actor key hold ≡ c → 1 ≤ (if c then 1 else 0) + times_held actor key holds
    → one_if (is_hold b k hold) + times_held b k holds ≡ times_held b k (if c then holds else hold ∷ without actor key holds) + one_if (is_hold b k (actor, key.number, key.generation))) [
      | true ↦ λ is _.
          let same : one_if (is_hold b k (actor, key.number, key.generation)) ≡ one_if (is_hold b k hold) = ap (λ h. one_if (is_hold b k h)) (hold_is actor key hold is) in
          omega (arith, same)
      | false ↦ λ is more. let rest = times-without actor key holds b k (omega arith) in omega (arith, rest)
    ] refl some

length-without : (actor : ℕ) (key : Key) (holds : List Hold) → 1 ≤ times_held actor key holds → length (without actor key holds) + 1 ≡ length holds
unfolding times_held without one_if
length-without actor key [] some = absurd (omega arith)
length-without actor key (hold ∷ holds) some =
    elim (is_hold actor key hold) as (λ c. 1 ≤ (if c then 1 else 0) + times_held actor key holds → length (if c then holds else hold ∷ without actor key holds) + 1 ≡ suc (length holds)) [
      | true ↦ λ _. omega arith
      | false ↦ λ more. let rest = length-without actor key holds (omega arith) in omega (arith, rest)
    ] some

times-itself : (hold : Hold) (holds : List Hold) → times_held hold.0 (key_of hold) (hold ∷ holds) ≡ 1 + times_held hold.0 (key_of hold) holds
unfolding times_held one_if
times-itself hold holds = ap (λ b. (if b then 1 else 0) + times_held hold.0 (key_of hold) holds) (is_itself hold)

same_length : (xs ys : List Hold) → ((actor : ℕ) (key : Key) → times_held actor key xs ≡ times_held actor key ys) → length xs ≡ length ys
unfolding times_held
same_length [] [] same = refl
same_length [] (y ∷ ys) same = let none = same y.0 (key_of y) in let some = times-itself y ys in absurd (omega (arith, none, some))
same_length (x ∷ xs) ys same =
    let here = same x.0 (key_of x) in
    let one = times-itself x xs in
    let some : 1 ≤ times_held x.0 (key_of x) ys = omega (arith, here, one) in
    let less = length-without x.0 (key_of x) ys some in
    let rest = same_length xs (without x.0 (key_of x) ys) (λ b k. let all = same b k in let moved = times-without x.0 (key_of x) ys b k some in omega (arith, all, moved)) in
    omega (arith, less, rest)

-- ---- a set has each hold once

none_after : (actor : ℕ) (key : Key) (hold : Hold) (holds : List Hold) → is_hold actor key hold ≡ true → AllByRecursion (λ later. hold_order hold later ≡ Less) holds → times_held actor key holds ≡ 0
unfolding times_held one_if
none_after actor key hold [] is above = refl
none_after actor key hold (later ∷ holds) is above =
    let other : is_hold actor key later ≡ false = sym (hold_test actor key later) ∙ ap (λ h. is_eq (hold_order h later)) (hold_is actor key hold is) ∙ ap is_eq above.0 in
    let one : one_if (is_hold actor key later) ≡ 0 = ap one_if other in
    let rest = none_after actor key hold holds is above.1 in
    omega (arith, one, rest)

times-once : (actor : ℕ) (key : Key) (holds : List Hold) → IsStrictlySortedBy hold_order holds → times_held actor key holds ≤ 1
unfolding times_held one_if IsStrictlySortedBy
times-once actor key [] sorted = omega arith
times-once actor key (hold ∷ holds) sorted =
    elim (is_hold actor key hold) as (λ c. is_hold actor key hold ≡ c → (if c then 1 else 0) + times_held actor key holds ≤ 1) [
      | true ↦ λ is. let none = none_after actor key hold holds is sorted.0 in omega (arith, none)
      | false ↦ λ _. let rest = times-once actor key holds sorted.1 in omega (arith, rest)
    ] refl

held-times : (actor : ℕ) (key : Key) (holds : List Hold) → is_held holds actor key ≡ nat_lt 0 (times_held actor key holds)
unfolding times_held one_if
held-times actor key [] = refl
held-times actor key (hold ∷ holds) =
    elim (is_hold actor key hold) as (λ c. (c || list_any (is_hold actor key) holds) ≡ nat_lt 0 ((if c then 1 else 0) + times_held actor key holds)) [
      | true ↦ grind (arith, nat_tests)
      | false ↦ held-times actor key holds ∙ ap (λ n. nat_lt 0 n) (omega arith)
    ]

-- ---- entries take each hold as often as they say

taken_test : (actor other : ℕ) (key made : Key) → is_hold actor key (other, made.number, made.generation) ≡ (other == actor) && same_key key made
taken_test actor other key made =
    and-assoc (actor == other) (key.number == made.number) (key.generation == made.generation) ∙ ap (λ b. b && same_key key made) (swapped actor other)

times-with_hold : (actor other : ℕ) (key : Key) (o : Option Key) (holds : List Hold)
    → times_held actor key (with_hold other o holds) ≡ one_if ((other == actor) && is_key key o) + times_held actor key holds
unfolding times_held is_key one_if
times-with_hold actor other key None holds = let none : one_if ((other == actor) && false) ≡ 0 = ap one_if (and-false (other == actor)) in omega (arith, none)
times-with_hold actor other key (Some made) holds = ap (λ b. one_if b + times_held actor key holds) (taken_test actor other key made)

times-taken : (entries : List Entry) (actor : ℕ) (key : Key) → AreSteady entries → times_held actor key (holds_taken entries) ≡ taken entries actor key
unfolding times_held holds_taken taken one_if
times-taken [] actor key steady = refl
times-taken (entry ∷ entries) actor key steady =
    let one : one_if ((entry.actor == actor) && is_key key (key_taken entry.event)) ≡ one_if ((entry.actor == actor) && takes_hold key entry.event) =
    ap (λ b. one_if ((entry.actor == actor) && b)) (sym (takes_is key entry.event steady.0)) in
    times-with_hold actor entry.actor key (key_taken entry.event) (holds_taken entries)
    ∙ (λ i. one i + times-taken entries actor key steady.1 i)
    ∙ sym (sum_by-cons (λ (e : Entry). if (e.actor == actor) && takes_hold key e.event then 1 else 0) entry entries)

-- ---- as many holds as rows have

same_once : (a b : ℕ) → a ≤ 1 → b ≤ 1 → nat_lt 0 a ≡ nat_lt 0 b → a ≡ b
same_once a b low few same = grind (arith, nat_tests)

pub of_rows : LowestIsFree → StaysWellFormed → HoldersHaveRows → (start t : Table) (entries : List Entry) (held : List (ℕ × ℕ × ℕ)) → IsTable start → closed start ≡ start
    → LegalHistory start entries t → AreHolds entries held → length held ≡ holds_in t
of_rows free stays rows start t entries held ok shut history are =
    let none : holds_in start ≡ 0 = ap holds_in (sym shut) ∙ opens-closed start in
    let grown = holds-taken free stays start entries t ok are.steady history.leads in
    let long = same_length held (holds_taken entries) (λ actor key.
    let taken_is = times-taken entries actor key are.steady in
    let few = taken-once free stays rows start ok entries t history are.steady actor key in
    same_once (times_held actor key held) (times_held actor key (holds_taken entries)) (times-once actor key held are.once) (omega (arith, taken_is, few))
    (sym (held-times actor key held) ∙ are.each actor key ∙ ap (λ n. nat_lt 0 n) (holds_are entries actor key are.steady ∙ sym taken_is))) in
    omega (arith, none, grown, long)
