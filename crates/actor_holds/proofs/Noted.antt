-- One entry more that is noted.
use Rattle.std.proofs.Common.{◌≡◌, ◌==◌, ◌+◌, ◌&&◌, ℕ, Bool, true, false, cond, List, [], ◌∷◌, ◌++◌, Option, None, Some, if◌then◌else◌, nat_lt, count_by, refl, sym, ap, ◌∙◌, inl, inr, arith}
use Rattle.std.specs.List.{list_any}
use Rattle.std.specs.List.Sorted.{IsStrictlySortedBy}
use Rattle.std.specs.Ordering.{is_eq, nat_cmp, ordering_then}
use Rattle.std.specs.Cmp.{tied_then}
use Rattle.std.specs.BTreeSet.{BTreeSet, Updates}
use Rattle.std.proofs.lemmas.List.Sums.{sum_by-append}
use Rattle.std.proofs.lemmas.Bool.{cases_eq, eq-eqb, ne_eqb}
use Rattle.std.proofs.lemmas.Bool.Decides.{nat_tests}
use Rattle.life_table.specs.declared.key.Key.{Key}
use Rattle.life_table.specs.declared.types.Call.TheVariants as call
use Rattle.life_table.specs.declared.types.Reply.TheVariants as reply
use Rattle.life_table.specs.declared.types.Event.{Event}
use Rattle.life_table.specs.declared.types.Event.TheVariants.{Called, Freed}
use Rattle.life_table.specs.declared.types.Entry.{Entry}
use Rattle.life_table.specs.History.{holds, same_key, takes_hold, gives_up}
use Rattle.actor_holds.specs.Holds.{AreHolds, AreSteady, IsSteady, hold_order, is_held, is_hold, key_taken}

pub swapped : (a b : ℕ) → (a == b) ≡ (b == a)
swapped a b = elim (cases_eq a b) [
  | inl same ↦ eq-eqb a b same ∙ sym (eq-eqb b a (sym same))
  | inr apart ↦ ne_eqb a b apart ∙ sym (ne_eqb b a (λ e. apart (sym e)))
]

pub and-assoc : (a b c : Bool) → (a && b) && c ≡ a && (b && c)
and-assoc true b c = refl
and-assoc false b c = refl

equal_test : (x y : ℕ) → is_eq (nat_cmp x y) ≡ (x == y)
equal_test x y = grind (arith, nat_tests)

pub hold_test : (actor : ℕ) (key : Key) (hold : ℕ × ℕ × ℕ)
    → is_eq (ordering_then (ordering_then (nat_cmp actor hold.0) (nat_cmp key.number hold.1)) (nat_cmp key.generation hold.2)) ≡ is_hold actor key hold
hold_test actor key hold =
    sym (tied_then (ordering_then (nat_cmp actor hold.0) (nat_cmp key.number hold.1)) (nat_cmp key.generation hold.2))
    ∙ ap (λ b. b && is_eq (nat_cmp key.generation hold.2)) (sym (tied_then (nat_cmp actor hold.0) (nat_cmp key.number hold.1)))
    ∙ ap (λ b. (b && is_eq (nat_cmp key.number hold.1)) && is_eq (nat_cmp key.generation hold.2)) (equal_test actor hold.0)
    ∙ ap (λ b. ((actor == hold.0) && b) && is_eq (nat_cmp key.generation hold.2)) (equal_test key.number hold.1)
    ∙ ap (λ b. ((actor == hold.0) && (key.number == hold.1)) && b) (equal_test key.generation hold.2)

-- a look-up in a set is one in its list
pub held_by : (actor : ℕ) (key : Key) (held : List (ℕ × ℕ × ℕ))
    → list_any (λ (hold : ℕ × ℕ × ℕ). is_eq (ordering_then (ordering_then (nat_cmp actor hold.0) (nat_cmp key.number hold.1)) (nat_cmp key.generation hold.2))) held ≡ is_held held actor key
held_by actor key held = ap (λ (test : ℕ × ℕ × ℕ → Bool). list_any test held) (λ i hold. hold_test actor key hold i)

-- ---- what entries say

unfoldable pub one_if : Bool → ℕ
one_if b = if b then 1 else 0

unfoldable pub taken : List Entry → ℕ → Key → ℕ
taken entries actor key = count_by (λ (entry : Entry). (entry.actor == actor) && takes_hold key entry.event) entries

unfoldable pub given : List Entry → ℕ → Key → ℕ
given entries actor key = count_by (λ (entry : Entry). (entry.actor == actor) && gives_up key entry.event) entries

pub taken-push : (entries : List Entry) (entry : Entry) (actor : ℕ) (key : Key) → taken (entries ++ entry ∷ []) actor key ≡ taken entries actor key + one_if ((entry.actor == actor) && takes_hold key entry.event)
unfolding taken one_if
taken-push entries entry actor key =
    sum_by-append (λ (e : Entry). if (e.actor == actor) && takes_hold key e.event then 1 else 0) entries (entry ∷ []) ∙ ap (λ n. taken entries actor key + n) (omega arith)

pub given-push : (entries : List Entry) (entry : Entry) (actor : ℕ) (key : Key) → given (entries ++ entry ∷ []) actor key ≡ given entries actor key + one_if ((entry.actor == actor) && gives_up key entry.event)
unfolding given one_if
given-push entries entry actor key =
    sum_by-append (λ (e : Entry). if (e.actor == actor) && gives_up key e.event then 1 else 0) entries (entry ∷ []) ∙ ap (λ n. given entries actor key + n) (omega arith)

steady_gives : (key : Key) (event : Event) → IsSteady event → gives_up key event ≡ false
steady_gives key (Called (call.CloseKey closed) reply.Done) steady = absurd steady
steady_gives key (Called _ _) steady = refl
steady_gives key (Freed other) steady = refl

pub and-false : (b : Bool) → b && false ≡ false
and-false true = refl
and-false false = refl

pub none_given : (entries : List Entry) (actor : ℕ) (key : Key) → AreSteady entries → given entries actor key ≡ 0
unfolding given
none_given [] actor key steady = refl
none_given (entry ∷ entries) actor key steady =
    let none : (entry.actor == actor) && gives_up key entry.event ≡ false = ap (λ b. (entry.actor == actor) && b) (steady_gives key entry.event steady.0) ∙ and-false (entry.actor == actor) in
    let rest : given entries actor key ≡ 0 = none_given entries actor key steady.1 in
    rw (none, rest)

pub holds_are : (entries : List Entry) (actor : ℕ) (key : Key) → AreSteady entries → holds entries actor key ≡ taken entries actor key
unfolding taken given
holds_are entries actor key steady = let none = none_given entries actor key steady in omega (arith, none)

pub all_steady : (entries : List Entry) (entry : Entry) → AreSteady entries → IsSteady entry.event → AreSteady (entries ++ entry ∷ [])
all_steady [] entry all one = (one, tt)
all_steady (first ∷ entries) entry all one = (all.0, all_steady entries entry all.1 one)

some_test : (n : ℕ) (b : Bool) → nat_lt 0 (n + one_if b) ≡ cond b true (nat_lt 0 n)
unfolding one_if
some_test n true = grind (arith, nat_tests)
some_test n false = ap (λ m. nat_lt 0 m) (omega arith)

-- whether there is a hold after one entry more
holds_more : (entries : List Entry) (entry : Entry) (actor : ℕ) (key : Key) → AreSteady entries → IsSteady entry.event
    → nat_lt 0 (holds (entries ++ entry ∷ []) actor key) ≡ cond ((entry.actor == actor) && takes_hold key entry.event) true (nat_lt 0 (holds entries actor key))
holds_more entries entry actor key all one =
    ap (λ n. nat_lt 0 n) (holds_are (entries ++ entry ∷ []) actor key (all_steady entries entry all one) ∙ taken-push entries entry actor key)
    ∙ some_test (taken entries actor key) ((entry.actor == actor) && takes_hold key entry.event)
    ∙ ap (λ n. cond ((entry.actor == actor) && takes_hold key entry.event) true (nat_lt 0 n)) (sym (holds_are entries actor key all))

-- the key that an event takes a hold on is the one that it says
unfoldable pub is_key : Key → Option Key → Bool
is_key key None = false
is_key key (Some other) = same_key key other

pub takes_is : (key : Key) (event : Event) → IsSteady event → takes_hold key event ≡ is_key key (key_taken event)
unfolding is_key
takes_is key (Called (call.OpenKey opened) reply.Done) steady = absurd steady
takes_is key (Called (call.Create g) (reply.Made made)) steady = refl
takes_is key (Called (call.Tmpfile g) (reply.Made made)) steady = refl
takes_is key (Called _ _) steady = refl
takes_is key (Freed other) steady = refl

-- ---- an entry that is noted

pub noted_none : (entries : List Entry) (entry : Entry) (held : List (ℕ × ℕ × ℕ)) → AreHolds entries held → IsSteady entry.event → key_taken entry.event ≡ None → AreHolds (entries ++ entry ∷ []) held
unfolding is_key
noted_none entries entry held old one none = record {
  steady = all_steady entries entry old.steady one;
  each = λ actor key.
      let takes : takes_hold key entry.event ≡ false = takes_is key entry.event one ∙ ap (is_key key) none in
      let test : (entry.actor == actor) && takes_hold key entry.event ≡ false = ap (λ b. (entry.actor == actor) && b) takes ∙ and-false (entry.actor == actor) in
      old.each actor key ∙ sym (holds_more entries entry actor key old.steady one ∙ ap (λ b. cond b true (nat_lt 0 (holds entries actor key))) test);
  once = old.once;
}

same_tests : (actor other : ℕ) (key made : Key) → ((other == actor) && (made.number == key.number)) && (made.generation == key.generation) ≡ (other == actor) && same_key key made
same_tests actor other key made =
    and-assoc (other == actor) (made.number == key.number) (made.generation == key.generation)
    ∙ ap (λ b. (other == actor) && (b && (made.generation == key.generation))) (swapped made.number key.number)
    ∙ ap (λ b. (other == actor) && ((key.number == made.number) && b)) (swapped made.generation key.generation)

pub noted_one : (entries : List Entry) (entry : Entry) (made : Key) (old new : BTreeSet (ℕ × ℕ × ℕ)) → AreHolds entries old.keys → IsSteady entry.event → key_taken entry.event ≡ Some made
    → Updates (λ (x y : ℕ × ℕ × ℕ). ordering_then (ordering_then (nat_cmp x.0 y.0) (nat_cmp x.1 y.1)) (nat_cmp x.2 y.2)) old new (entry.actor, made.number, made.generation) true
    → IsStrictlySortedBy hold_order new.keys
    → AreHolds (entries ++ entry ∷ []) new.keys
unfolding is_key
noted_one entries entry made old new are one some updates ordered = record {
  steady = all_steady entries entry are.steady one;
  each = λ actor key.
      let takes : takes_hold key entry.event ≡ same_key key made = takes_is key entry.event one ∙ ap (is_key key) some in
      sym (held_by actor key new.keys) ∙ updates.0 (actor, key.number, key.generation)
      ∙ ap (λ b. cond b true (list_any (λ (hold : ℕ × ℕ × ℕ). is_eq (ordering_then (ordering_then (nat_cmp actor hold.0) (nat_cmp key.number hold.1)) (nat_cmp key.generation hold.2))) old.keys)) (hold_test entry.actor made (actor, key.number, key.generation) ∙ same_tests actor entry.actor key made ∙ ap (λ b. (entry.actor == actor) && b) (sym takes))
      ∙ ap (λ b. cond ((entry.actor == actor) && takes_hold key entry.event) true b) (held_by actor key old.keys ∙ are.each actor key)
      ∙ sym (holds_more entries entry actor key are.steady one);
  once = ordered;
}
