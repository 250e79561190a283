-- The holds of a history's entries are no more than those that a row counts.
use Rattle.std.proofs.Common.{◌≡◌, ◌≢◌, ◌==◌, ◌+◌, ◌<◌, ◌≤◌, ◌&&◌, ◌⊎◌, ℕ, suc, Bool, true, false, List, [], ◌∷◌, ◌++◌, Option, None, Some, IsSomeAnd, if◌then◌else◌, length, count_by, refl, sym, ap, subst, ◌∙◌, append-nil, append_assoc, inl, inr, arith}
use Rattle.std.proofs.lemmas.List.Sums.{sum_by-append}
use Rattle.std.proofs.lemmas.Bool.{cases_Bool, cases_eq, eqb-true, eq-eqb, ne_eqb, and_parts, and_from, and_left, and_right, true≢false, false≢true}
use Rattle.life_table.specs.declared.key.Key.{Key}
use Rattle.life_table.specs.declared.types.Row.{Row}
use Rattle.life_table.specs.declared.types.Call.{Call}
use Rattle.life_table.specs.declared.types.Call.TheVariants as call
use Rattle.life_table.specs.declared.types.Reply.{Reply}
use Rattle.life_table.specs.declared.types.Reply.TheVariants as reply
use Rattle.life_table.specs.declared.types.Event.{Event}
use Rattle.life_table.specs.declared.types.Event.TheVariants.{Called, Freed}
use Rattle.life_table.specs.declared.types.Entry.{Entry}
use Rattle.life_table.specs.declared.table.Inode.{Inode}
use Rattle.life_table.specs.declared.table.Table.{Table}
use Rattle.life_table.specs.Table.{inode_of, row_in_life, row_of, with_row, in_use, with_inode}
use Rattle.life_table.specs.Space.{times}
use Rattle.life_table.specs.Legal.{Awaits, prepare, IsNextKey, KeyReplies, Permits, IsOpen, made_row, row_after, with_changed, after_call, freed}
use Rattle.life_table.specs.History.{Happens, Leads, same_key, takes_hold, gives_up, holds, IsByHolder, AreByHolders, LegalHistory}
use Rattle.life_table.specs.WellFormed.{IsTable}
use Rattle.life_table.proofs.Lives.{inode_of-prepare}
use Rattle.life_table.proofs.Lookups.{inode_of-with_same, inode_of-with_other}
use Rattle.life_table.proofs.Moves.{HasRow-from}
use Rattle.life_table.proofs.WellKept.{IsPrepared-next, IsTable-happens}

-- how many holds a row counts
opens_of : Option Row → ℕ
opens_of None = 0
opens_of (Some row) = row.opens

-- one inode is changed: what a key counts
opens_with : (t : Table) (number : ℕ) (old new : Inode) (key : Key) → inode_of t number ≡ Some old
    → ((number ≡ key.number) × (row_of (with_inode t number new) key ≡ row_in_life key.generation (Some new)) × (row_of t key ≡ row_in_life key.generation (Some old)))
    ⊎ ((number ≢ key.number) × (row_of (with_inode t number new) key ≡ row_of t key))
opens_with t number old new key at =
    elim (cases_eq number key.number) [
      | inl same ↦ inl (
        same,
        ap (row_in_life key.generation) (ap (λ n. inode_of (with_inode t number new) n) (sym same) ∙ inode_of-with_same t number old new at),
        ap (row_in_life key.generation) (ap (λ n. inode_of t n) (sym same) ∙ at),
      )
      | inr apart ↦ inr (apart, ap (row_in_life key.generation) (inode_of-with_other t number key.number new apart))
    ]

row_at : (generation : ℕ) (inode : Inode) → inode.generation ≡ generation → row_in_life generation (Some inode) ≡ inode.row
row_at generation inode same = let is : (inode.generation == generation) ≡ true = eq-eqb inode.generation generation same in rw is

row_not : (generation : ℕ) (inode : Inode) → inode.generation ≢ generation → row_in_life generation (Some inode) ≡ None
row_not generation inode apart = let is : (inode.generation == generation) ≡ false = ne_eqb inode.generation generation apart in rw is

opens_at_most : (generation : ℕ) (inode : Inode) → opens_of (row_in_life generation (Some inode)) ≤ opens_of inode.row
unfolding opens_of
opens_at_most generation inode =
    elim (inode.generation == generation) as (λ c. opens_of (if c then inode.row else None) ≤ opens_of inode.row) [ true ↦ omega arith | false ↦ omega arith ]

-- the key of a changed inode is its own, or another
is_key : (key other : Key) → other.number ≡ key.number → other.generation ≡ key.generation → same_key key other ≡ true
is_key key other number generation = and_from (key.number == other.number) (key.generation == other.generation) (eq-eqb key.number other.number (sym number)) (eq-eqb key.generation other.generation (sym generation))

key_is : (key other : Key) → same_key key other ≡ true → (other.number ≡ key.number) × (other.generation ≡ key.generation)
key_is key other same =
    let parts = and_parts (key.number == other.number) (key.generation == other.generation) same in
    (sym (eqb-true key.number other.number parts.0), sym (eqb-true key.generation other.generation parts.1))

-- what an event does to what a key counts
record Counts (key : Key) (event : Event) (before after : ℕ) : Type 0 where
  takes : takes_hold key event ≡ true → before + 1 ≤ after
  gives : gives_up key event ≡ true → before ≤ after + 1
  other : takes_hold key event ≡ false → gives_up key event ≡ false → before ≤ after

-- a row is changed: its own key counts anew, each other as before
turned : (t : Table) (key other : Key) (row new : Row) → row_of t other ≡ Some row
    → ((same_key key other ≡ true) × (opens_of (row_of t key) ≡ row.opens) × (opens_of (row_of (with_row t other new) key) ≡ new.opens))
    ⊎ ((same_key key other ≡ false) × (opens_of (row_of t key) ≡ opens_of (row_of (with_row t other new) key)))
unfolding opens_of
turned t key other row new at =
    let has = HasRow-from (inode_of t other.number) other.generation row at in
    elim (opens_with t other.number has.inode (in_use other new) key has.at) [
      | inl here ↦
          elim (cases_eq other.generation key.generation) [
            | inl same ↦ inl (
              is_key key other here.0 same,
              ap opens_of (here.2 ∙ row_at key.generation has.inode (has.life ∙ same) ∙ has.is),
              ap opens_of (here.1 ∙ row_at key.generation (in_use other new) same),
            )
            | inr apart ↦ inr (
              and_right (key.number == other.number) (key.generation == other.generation) (ne_eqb key.generation other.generation (λ e. apart (sym e))),
              ap opens_of (here.2 ∙ row_not key.generation has.inode (λ e. apart (sym has.life ∙ e)) ∙ sym (here.1 ∙ row_not key.generation (in_use other new) apart)),
            )
          ]
      | inr there ↦ inr (
        and_left (key.number == other.number) (key.generation == other.generation) (ne_eqb key.number other.number (λ e. there.0 (sym e))),
        ap opens_of (sym there.1),
      )
    ]

-- a call that changes no hold
plain_row : (t : Table) (key other : Key) (event : Event) (called : Call) → takes_hold key event ≡ false → gives_up key event ≡ false → ((row : Row) → (row_after t row called).opens ≡ row.opens)
    → (o : Option Row) → row_of t other ≡ o → Counts key event (opens_of (row_of t key)) (opens_of (row_of (with_changed t other o called) key))
plain_row t key other event called no_take no_give same None at =
    record { takes = λ is. absurd (true≢false (sym is ∙ no_take)); gives = λ is. absurd (true≢false (sym is ∙ no_give)); other = λ _ _. omega arith }
plain_row t key other event called no_take no_give same (Some row) at =
    let kept : (row_after t row called).opens ≡ row.opens = same row in
    record {
      takes = λ is. absurd (true≢false (sym is ∙ no_take));
      gives = λ is. absurd (true≢false (sym is ∙ no_give));
      other = λ _ _. elim (turned t key other row (row_after t row called) at) [
        | inl here ↦ omega (arith, here.1, here.2, kept)
        | inr there ↦ omega (arith, there.1)
      ];
    }

open_row : (t : Table) (key other : Key) (o : Option Row) → row_of t other ≡ o → KeyReplies t o (call.OpenKey other) reply.Done
    → Counts key (Called (call.OpenKey other) reply.Done) (opens_of (row_of t key)) (opens_of (row_of (with_changed t other o (call.OpenKey other)) key))
open_row t key other None at permits = absurd permits
open_row t key other (Some row) at permits =
    elim (turned t key other row (row_after t row (call.OpenKey other)) at) [
      | inl here ↦ record {
        takes = λ is. omega (arith, here.1, here.2);
        gives = λ is. absurd (false≢true is);
        other = λ no_take _. absurd (true≢false (sym here.0 ∙ no_take));
      }
      | inr there ↦ record {
        takes = λ is. absurd (true≢false (sym is ∙ there.0));
        gives = λ is. absurd (false≢true is);
        other = λ _ _. omega (arith, there.1);
      }
    ]

close_row : (t : Table) (key other : Key) (o : Option Row) → row_of t other ≡ o → KeyReplies t o (call.CloseKey other) reply.Done
    → Counts key (Called (call.CloseKey other) reply.Done) (opens_of (row_of t key)) (opens_of (row_of (with_changed t other o (call.CloseKey other)) key))
close_row t key other None at permits = absurd permits
close_row t key other (Some row) at permits =
    elim (turned t key other row (row_after t row (call.CloseKey other)) at) [
      | inl here ↦ record {
        takes = λ is. absurd (false≢true is);
        gives = λ is. omega (arith, here.1, here.2);
        other = λ _ no_give. absurd (true≢false (sym here.0 ∙ no_give));
      }
      | inr there ↦ record {
        takes = λ is. absurd (false≢true is);
        gives = λ is. absurd (true≢false (sym is ∙ there.0));
        other = λ _ _. omega (arith, there.1);
      }
    ]

-- the table with a chunk more counts no less
prepared_counts : (t : Table) (g : ℕ) (key : Key) → opens_of (row_of t key) ≤ opens_of (row_of (prepare t g) key)
unfolding opens_of
prepared_counts t g key =
    elim (inode_of t key.number) as (λ (o : Option Inode). inode_of t key.number ≡ o → opens_of (row_in_life key.generation o) ≤ opens_of (row_of (prepare t g) key)) [
      | None ↦ λ is. omega arith
      | Some inode ↦ λ is.
          let same : row_of (prepare t g) key ≡ row_in_life key.generation (Some inode) = ap (row_in_life key.generation) (inode_of-prepare t g key.number inode is) in
          let equal : opens_of (row_of (prepare t g) key) ≡ opens_of (row_in_life key.generation (Some inode)) = ap opens_of same in
          omega (arith, equal)
    ] refl

made : (t : Table) (g : ℕ) (key other : Key) (links : ℕ) (event : Event) → IsTable t → IsNextKey t g other → takes_hold key event ≡ same_key key other → gives_up key event ≡ false
    → Counts key event (opens_of (row_of t key)) (opens_of (row_of (with_row (prepare t g) other (made_row links)) key))
unfolding opens_of
made t g key other links event ok next takes_is gives_is =
    let found = IsPrepared-next t g other ok next in
    let before = prepared_counts t g key in
    elim (opens_with (prepare t g) other.number found.inode (in_use other (made_row links)) key found.at) [
      | inl here ↦
          let none : opens_of (row_of (prepare t g) key) ≡ 0 =
          (let most = opens_at_most key.generation found.inode in
          let empty : opens_of found.inode.row ≡ 0 = ap opens_of found.row in
          let is : opens_of (row_of (prepare t g) key) ≡ opens_of (row_in_life key.generation (Some found.inode)) = ap opens_of here.2 in
          omega (arith, most, empty, is)) in
          record {
            takes = λ is.
                let keys = key_is key other (sym takes_is ∙ is) in
                let one : opens_of (row_of (with_row (prepare t g) other (made_row links)) key) ≡ 1 = ap opens_of (here.1 ∙ row_at key.generation (in_use other (made_row links)) keys.1) in
                omega (arith, before, none, one);
            gives = λ is. absurd (true≢false (sym is ∙ gives_is));
            other = λ _ _. omega (arith, before, none);
          }
      | inr there ↦
          let same : opens_of (row_of (with_row (prepare t g) other (made_row links)) key) ≡ opens_of (row_of (prepare t g) key) = ap opens_of there.1 in
          record {
            takes = λ is. let keys = key_is key other (sym takes_is ∙ is) in absurd (there.0 keys.0);
            gives = λ is. absurd (true≢false (sym is ∙ gives_is));
            other = λ _ _. omega (arith, before, same);
          }
    ]

stays : (key : Key) (event : Event) (n : ℕ) → takes_hold key event ≡ false → gives_up key event ≡ false → Counts key event n n
stays key event n no_take no_give =
    record { takes = λ is. absurd (true≢false (sym is ∙ no_take)); gives = λ is. absurd (true≢false (sym is ∙ no_give)); other = λ _ _. omega arith }

call_counts : (t : Table) (called : Call) (answer : Reply) (key : Key) → IsTable t → Permits t called answer
    → Counts key (Called called answer) (opens_of (row_of t key)) (opens_of (row_of (after_call t called answer) key))
call_counts t (call.Create g) (reply.Made other) key ok permits = made t g key other 1 (Called (call.Create g) (reply.Made other)) ok permits refl refl
call_counts t (call.Tmpfile g) (reply.Made other) key ok permits = made t g key other 0 (Called (call.Tmpfile g) (reply.Made other)) ok permits refl refl
call_counts t (call.OpenKey other) reply.Done key ok permits = open_row t key other (row_of t other) refl permits
call_counts t (call.CloseKey other) reply.Done key ok permits = close_row t key other (row_of t other) refl permits
call_counts t (call.Link other) reply.Done key ok permits = plain_row t key other (Called (call.Link other) reply.Done) (call.Link other) refl refl (λ row. refl) (row_of t other) refl
call_counts t (call.Unlink other) reply.Done key ok permits = plain_row t key other (Called (call.Unlink other) reply.Done) (call.Unlink other) refl refl (λ row. refl) (row_of t other) refl
call_counts t (call.Grow other count) reply.Done key ok permits = plain_row t key other (Called (call.Grow other count) reply.Done) (call.Grow other count) refl refl (λ row. refl) (row_of t other) refl
call_counts t (call.Cut other count) reply.Done key ok permits = plain_row t key other (Called (call.Cut other count) reply.Done) (call.Cut other count) refl refl (λ row. refl) (row_of t other) refl
call_counts t _ _ key ok permits = stays key _ (opens_of (row_of t key)) refl refl

freed_counts : (t : Table) (other key : Key) (o : Option Row) → row_of t other ≡ o → IsSomeAnd o Awaits → Counts key (Freed other) (opens_of (row_of t key)) (opens_of (row_of (freed t other) key))
unfolding opens_of
freed_counts t other key None at awaits = absurd awaits
freed_counts t other key (Some row) at awaits =
    let has = HasRow-from (inode_of t other.number) other.generation row at in
    let gone : Inode = record { generation = other.generation + 1; row = None } in
    record {
      takes = λ is. absurd (false≢true is);
      gives = λ is. absurd (false≢true is);
      other = λ _ _. elim (opens_with t other.number has.inode gone key has.at) [
        | inl here ↦
            let most = opens_at_most key.generation has.inode in
            let held : opens_of has.inode.row ≡ row.opens = ap opens_of has.is in
            let is : opens_of (row_of t key) ≡ opens_of (row_in_life key.generation (Some has.inode)) = ap opens_of here.2 in
            let none : row.opens ≡ 0 = awaits.1 in
            omega (arith, most, held, is, none)
        | inr there ↦
            let same : opens_of (row_of (freed t other) key) ≡ opens_of (row_of t key) = ap opens_of there.1 in
            omega (arith, same)
      ];
    }

event_counts : (t : Table) (event : Event) (u : Table) (key : Key) → IsTable t → Happens t event u → Counts key event (opens_of (row_of t key)) (opens_of (row_of u key))
event_counts t (Called called answer) u key ok happens =
    subst (λ v. Counts key (Called called answer) (opens_of (row_of t key)) (opens_of (row_of v key))) (sym happens.1) (call_counts t called answer key ok happens.0)
event_counts t (Freed other) u key ok happens =
    subst (λ v. Counts key (Freed other) (opens_of (row_of t key)) (opens_of (row_of v key))) (sym happens.1) (freed_counts t other key (row_of t other) refl happens.0)

swapped : (a b : ℕ) → (a == b) ≡ (b == a)
swapped a b = elim (cases_eq a b) [
  | inl same ↦ eq-eqb a b same ∙ sym (eq-eqb b a (sym same))
  | inr apart ↦ ne_eqb a b apart ∙ sym (ne_eqb b a (λ e. apart (sym e)))
]

and-true : (b : Bool) → (b && true) ≡ b
and-true true = refl
and-true false = refl

-- how often an actor took a hold, and gave one up
taken : List Entry → ℕ → Key → ℕ
taken entries actor key = count_by (λ (entry : Entry). (entry.actor == actor) && takes_hold key entry.event) entries

given : List Entry → ℕ → Key → ℕ
given entries actor key = count_by (λ (entry : Entry). (entry.actor == actor) && gives_up key entry.event) entries

one_if : Bool → ℕ
one_if b = if b then 1 else 0

taken-push : (entries : List Entry) (entry : Entry) (actor : ℕ) (key : Key) → taken (entries ++ entry ∷ []) actor key ≡ taken entries actor key + one_if ((entry.actor == actor) && takes_hold key entry.event)
unfolding taken one_if
taken-push entries entry actor key =
    sum_by-append (λ (e : Entry). if (e.actor == actor) && takes_hold key e.event then 1 else 0) entries (entry ∷ []) ∙ ap (λ n. taken entries actor key + n) (omega arith)

given-push : (entries : List Entry) (entry : Entry) (actor : ℕ) (key : Key) → given (entries ++ entry ∷ []) actor key ≡ given entries actor key + one_if ((entry.actor == actor) && gives_up key entry.event)
unfolding given one_if
given-push entries entry actor key =
    sum_by-append (λ (e : Entry). if (e.actor == actor) && gives_up key e.event then 1 else 0) entries (entry ∷ []) ∙ ap (λ n. given entries actor key + n) (omega arith)

-- the actors that hold a key, each as often as it does
record Holders (before : List Entry) (key : Key) (t : Table) : Type 0 where
  actors : List ℕ
  each : (actor : ℕ) → taken before actor key ≡ given before actor key + times actor actors
  few : length actors ≤ opens_of (row_of t key)

-- one actor less
without : ℕ → List ℕ → List ℕ
without x [] = []
without x (y ∷ ys) = if x == y then ys else y ∷ without x ys

times-without : (x : ℕ) (xs : List ℕ) (b : ℕ) → 1 ≤ times x xs → times b xs ≡ times b (without x xs) + one_if (x == b)
unfolding times without one_if
times-without x [] b some = absurd (omega arith)
times-without x (y ∷ ys) b some =
    elim (x == y) as (λ c. x == y ≡ c → 1 ≤ (if c then 1 else 0) + times x ys
    → (if b == y then 1 else 0) + times b ys ≡ times b (if c then ys else y ∷ without x ys) + (if x == b then 1 else 0)) [
      | true ↦ λ is _.
          let same : x ≡ y = eqb-true x y is in
          let turned_test : (b == y) ≡ (x == b) = ap (λ n. b == n) (sym same) ∙ swapped b x in
          let equal : ◌≡◌ {A = ℕ} (if b == y then 1 else 0) (if x == b then 1 else 0) = ap (λ (t : Bool). if t then 1 else 0) turned_test in
          omega (arith, equal)
      | false ↦ λ is more. let rest = times-without x ys b (omega arith) in omega (arith, rest)
    ] refl some

length-without : (x : ℕ) (xs : List ℕ) → 1 ≤ times x xs → length (without x xs) + 1 ≡ length xs
unfolding times without
length-without x [] some = absurd (omega arith)
length-without x (y ∷ ys) some =
    elim (x == y) as (λ c. 1 ≤ (if c then 1 else 0) + times x ys → length (if c then ys else y ∷ without x ys) + 1 ≡ suc (length ys)) [
      | true ↦ λ _. omega arith
      | false ↦ λ more. let rest = length-without x ys (omega arith) in omega (arith, rest)
    ] some

-- an event takes a hold, gives one up, or does neither
not_both : (key : Key) (event : Event) → takes_hold key event ≡ true → gives_up key event ≡ false
not_both key (Called (call.Create g) (reply.Made other)) is = refl
not_both key (Called (call.Tmpfile g) (reply.Made other)) is = refl
not_both key (Called (call.OpenKey other) reply.Done) is = refl
not_both key (Called _ _) is = absurd (false≢true is)
not_both key (Freed other) is = absurd (false≢true is)

-- who gives up a hold has one
gives_held : (before : List Entry) (actor : ℕ) (key : Key) (event : Event) → IsByHolder before actor event → gives_up key event ≡ true → 0 < holds before actor key
gives_held before actor key (Called (call.CloseKey other) reply.Done) held is =
    let same = key_is key other is in
    let whole : Key = key in
    subst (λ (k : Key). 0 < holds before actor k) (λ i. record { number = same.0 i; generation = same.1 i }) held
gives_held before actor key (Called _ _) held is = absurd (false≢true is)
gives_held before actor key (Freed other) held is = absurd (false≢true is)

-- the counts of an actor after one more entry
record Pushed (before : List Entry) (entry : Entry) (actor : ℕ) (key : Key) : Type 0 where
  more : taken (before ++ entry ∷ []) actor key ≡ taken before actor key + one_if ((entry.actor == actor) && takes_hold key entry.event)
  less : given (before ++ entry ∷ []) actor key ≡ given before actor key + one_if ((entry.actor == actor) && gives_up key entry.event)

pushed : (before : List Entry) (entry : Entry) (actor : ℕ) (key : Key) → Pushed before entry actor key
pushed before entry actor key = record { more = taken-push before entry actor key; less = given-push before entry actor key }

one_if-none : (a b : Bool) → b ≡ false → one_if (a && b) ≡ 0
unfolding one_if
one_if-none a b is = ap (λ c. if c then 1 else 0) (and_right a b is)

one_if-all : (a b : Bool) → b ≡ true → one_if (a && b) ≡ one_if a
one_if-all a b is = ap one_if (ap (λ c. a && c) is ∙ and-true a)

times-more : (b x : ℕ) (xs : List ℕ) → times b (x ∷ xs) ≡ one_if (x == b) + times b xs
unfolding times one_if
times-more b x xs = ap (λ (c : Bool). (if c then 1 else 0) + times b xs) (swapped b x)

held_is : (before : List Entry) (actor : ℕ) (key : Key) (n : ℕ) → taken before actor key ≡ given before actor key + n → 0 < holds before actor key → 1 ≤ n
unfolding taken given
held_is before actor key n is held = omega (arith, is, held)

step : (before : List Entry) (entry : Entry) (key : Key) (t u : Table) → IsTable t → Happens t entry.event u → IsByHolder before entry.actor entry.event → Holders before key t → Holders (before ++ entry ∷ []) key u
step before entry key t u ok happens held old =
    let counts = event_counts t entry.event u key ok happens in
    let few : length old.actors ≤ opens_of (row_of t key) = old.few in
    elim (cases_Bool (takes_hold key entry.event)) [
      | inl takes ↦
          let gives : gives_up key entry.event ≡ false = not_both key entry.event takes in
          let more = counts.takes takes in
          record {
            actors = entry.actor ∷ old.actors;
            each = λ actor.
                let push = pushed before entry actor key in
                let one = one_if-all (entry.actor == actor) (takes_hold key entry.event) takes in
                let none = one_if-none (entry.actor == actor) (gives_up key entry.event) gives in
                let longer = times-more actor entry.actor old.actors in
                omega (arith, push.more, push.less, one, none, longer, old.each actor);
            few = omega (arith, few, more);
          }
      | inr keeps ↦
          elim (cases_Bool (gives_up key entry.event)) [
            | inl gives ↦
                let less = counts.gives gives in
                let some : 1 ≤ times entry.actor old.actors = held_is before entry.actor key (times entry.actor old.actors) (old.each entry.actor) (gives_held before entry.actor key entry.event held gives) in
                let shorter = length-without entry.actor old.actors some in
                record {
                  actors = without entry.actor old.actors;
                  each = λ actor.
                      let push = pushed before entry actor key in
                      let none = one_if-none (entry.actor == actor) (takes_hold key entry.event) keeps in
                      let one = one_if-all (entry.actor == actor) (gives_up key entry.event) gives in
                      let rest = times-without entry.actor old.actors actor some in
                      omega (arith, push.more, push.less, none, one, rest, old.each actor);
                  few = omega (arith, few, less, shorter);
                }
            | inr stands ↦
                let kept = counts.other keeps stands in
                record {
                  actors = old.actors;
                  each = λ actor.
                      let push = pushed before entry actor key in
                      let none = one_if-none (entry.actor == actor) (takes_hold key entry.event) keeps in
                      let also = one_if-none (entry.actor == actor) (gives_up key entry.event) stands in
                      omega (arith, push.more, push.less, none, also, old.each actor);
                  few = omega (arith, few, kept);
                }
          ]
    ]

steps : (before entries : List Entry) (key : Key) (t u : Table) → IsTable t → Leads t entries u → AreByHolders before entries → Holders before key t → Holders (before ++ entries) key u
steps before [] key t u ok leads held old = subst (λ es. Holders es key u) (sym (append-nil before)) (subst (λ v. Holders before key v) (sym leads) old)
steps before (entry ∷ entries) key t u ok (next, first, rest) held old =
    subst (λ es. Holders es key u) (append_assoc before (entry ∷ []) entries)
    (steps (before ++ entry ∷ []) entries key next u (IsTable-happens t entry.event next ok first) rest held.1 (step before entry key t next ok first held.0 old))

begins : (key : Key) (t : Table) → Holders [] key t
unfolding taken given times
begins key t = record { actors = []; each = λ actor. refl; few = omega arith }

times-length : (b : ℕ) (xs : List ℕ) → times b xs ≤ length xs
unfolding times
times-length b [] = omega arith
times-length b (x ∷ xs) =
    let rest = times-length b xs in
    elim (b == x) as (λ c. (if c then 1 else 0) + times b xs ≤ suc (length xs)) [ true ↦ omega (arith, rest) | false ↦ omega (arith, rest) ]

is_open : (o : Option Row) → 1 ≤ opens_of o → IsOpen o
unfolding opens_of
is_open None some = absurd (omega arith)
is_open (Some row) some = some

-- an actor that holds a key by the entries has a row that counts it
pub held_is_open : (t u : Table) (entries : List Entry) (actor : ℕ) (key : Key) → IsTable t → LegalHistory t entries u → 0 < holds entries actor key → IsOpen (row_of u key)
held_is_open t u entries actor key ok history held =
    let all = steps [] entries key t u ok history.leads history.held (begins key t) in
    let some = held_is entries actor key (times actor all.actors) (all.each actor) held in
    let most = times-length actor all.actors in
    let few : length all.actors ≤ opens_of (row_of u key) = all.few in
    is_open (row_of u key) (omega (arith, some, most, few))
