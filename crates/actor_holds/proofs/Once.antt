-- An actor takes a hold on a key once: who makes a key does not hold it yet.
use Rattle.std.proofs.Common.{◌≡◌, ◌==◌, ◌+◌, ◌-◌, ◌<◌, ◌≤◌, ◌&&◌, ℕ, Bool, true, false, List, [], ◌∷◌, ◌++◌, Option, None, Some, if◌then◌else◌, refl, sym, ap, subst, ◌∙◌, append-nil, append_assoc, inl, inr, arith}
use Rattle.std.proofs.lemmas.Option.{none-some, same_Some}
use Rattle.std.proofs.lemmas.Bool.{cases_Bool, cases_lt, eqb-true, eq-eqb, and_parts, and_from, false≢true}
use Rattle.life_table.specs.declared.key.Key.{Key}
use Rattle.life_table.specs.declared.types.Row.{Row}
use Rattle.life_table.specs.declared.types.Call.TheVariants as call
use Rattle.life_table.specs.declared.types.Reply.TheVariants as reply
use Rattle.life_table.specs.declared.types.Event.{Event}
use Rattle.life_table.specs.declared.types.Event.TheVariants.{Called, Freed}
use Rattle.life_table.specs.declared.types.Entry.{Entry}
use Rattle.life_table.specs.declared.table.Inode.{Inode}
use Rattle.life_table.specs.declared.table.Table.{Table}
use Rattle.life_table.specs.Table.{in_use, inode_of, row_of, with_row}
use Rattle.life_table.specs.Legal.{IsNextKey, IsOpen, KeyReplies, Legal, made_row, prepare, row_after, with_changed}
use Rattle.life_table.specs.History.{AreByHolders, Happens, IsByHolder, Leads, LegalHistory, holds, same_key, takes_hold}
use Rattle.life_table.specs.WellFormed.{IsTable}
use Rattle.actor_holds.specs.Holds.{AreSteady, IsSteady, key_taken}
use Rattle.actor_holds.proofs.Noted.{all_steady, and-false, given, given-push, holds_are, is_key, none_given, one_if, taken, taken-push, takes_is}
use Rattle.actor_holds.proofs.Made.{LowestIsFree, inode_same, made_bare, row_same}
use Rattle.actor_holds.proofs.Happenings.{StaysWellFormed}

-- The law of the model that is used: who holds a key by a legal history has a row there that somebody holds.
abbrev pub HoldersHaveRows : Type 0
HoldersHaveRows = (t u : Table) (entries : List Entry) (actor : ℕ) (key : Key) → IsTable t → LegalHistory t entries u → 0 < holds entries actor key → IsOpen (row_of u key)

-- ---- a legal history with one entry more

leads-append : (xs ys : List Entry) (t u v : Table) → Leads t xs u → Leads u ys v → Leads t (xs ++ ys) v
leads-append [] ys t u v first second = subst (λ w. Leads w ys v) first second
leads-append (x ∷ xs) ys t u v (next, happens, rest) second = (next, happens, leads-append xs ys next u v rest second)

held-append : (before xs ys : List Entry) → AreByHolders before xs → AreByHolders (before ++ xs) ys → AreByHolders before (xs ++ ys)
held-append before [] ys first second = subst (λ es. AreByHolders es ys) (append-nil before) second
held-append before (x ∷ xs) ys first second =
    (first.0, held-append (before ++ x ∷ []) xs ys first.1 (subst (λ es. AreByHolders es ys) (sym (append_assoc before (x ∷ []) xs)) second))

legal-push : (t u v : Table) (before : List Entry) (entry : Entry) → LegalHistory t before u → Happens u entry.event v → IsByHolder before entry.actor entry.event
    → LegalHistory t (before ++ entry ∷ []) v
legal-push t u v before entry history happens by = record {
  leads = leads-append before (entry ∷ []) t u v history.leads (v, happens, refl);
  held = held-append [] before (entry ∷ []) history.held (by, tt);
}

-- ---- an event that makes a key

record MadeBy (u : Table) (key : Key) (v : Table) : Type 0 where
  g : ℕ
  links : ℕ
  next : IsNextKey u g key
  is : v ≡ with_row (prepare u g) key (made_row links)

made_by : (u : Table) (event : Event) (v : Table) (key : Key) → Happens u event v → key_taken event ≡ Some key → MadeBy u key v
made_by u (Called (call.Create g) (reply.Made other)) v key happens at =
    subst (λ k. MadeBy u k v) (same_Some other key at) record { g = g; links = 1; next = happens.0; is = happens.1 }
made_by u (Called (call.Tmpfile g) (reply.Made other)) v key happens at =
    subst (λ k. MadeBy u k v) (same_Some other key at) record { g = g; links = 0; next = happens.0; is = happens.1 }
made_by u (Called _ _) v key happens at = absurd (none-some key at)
made_by u (Freed other) v key happens at = absurd (none-some key at)

-- the key that is taken is the one that the event says
key_from : (key : Key) (o : Option Key) → is_key key o ≡ true → o ≡ Some key
unfolding is_key
key_from key None is = absurd (false≢true is)
key_from key (Some other) is =
    let parts = and_parts (key.number == other.number) (key.generation == other.generation) is in
    let number : key.number ≡ other.number = eqb-true key.number other.number parts.0 in
    let generation : key.generation ≡ other.generation = eqb-true key.generation other.generation parts.1 in
    λ i. Some (record { number = sym number i; generation = sym generation i })

same_itself : (key : Key) → same_key key key ≡ true
same_itself key = and_from (key.number == key.number) (key.generation == key.generation) (eq-eqb key.number key.number refl) (eq-eqb key.generation key.generation refl)

-- ---- who makes a key has not held it before: if its maker held it twice, it would hold it still behind a close, where nobody does

abbrev close_of : ℕ → Key → Entry
close_of actor key = record { actor = actor; event = Called (call.CloseKey key) reply.Done }

holds_is : (entries : List Entry) (actor : ℕ) (key : Key) → holds entries actor key ≡ taken entries actor key - given entries actor key
unfolding taken given
holds_is entries actor key = refl

test_one : (actor : ℕ) (b : Bool) → b ≡ true → one_if ((actor == actor) && b) ≡ 1
unfolding one_if
test_one actor b is = ap (λ c. if c then 1 else 0) (and_from (actor == actor) b (eq-eqb actor actor refl) is)

-- how many holds an actor has on a key, behind a close of it
holds-close : (entries : List Entry) (actor : ℕ) (key : Key) → AreSteady entries → holds (entries ++ close_of actor key ∷ []) actor key ≡ taken entries actor key - 1
unfolding one_if
holds-close entries actor key steady =
    let less = given-push entries (close_of actor key) actor key in
    let more = taken-push entries (close_of actor key) actor key in
    let gives : one_if ((actor == actor) && same_key key key) ≡ 1 = test_one actor (same_key key key) (same_itself key) in
    let takes : one_if ((actor == actor) && false) ≡ 0 = ap one_if (and-false (actor == actor)) in
    let none = none_given entries actor key steady in
    holds_is (entries ++ close_of actor key ∷ []) actor key ∙ omega (arith, less, more, gives, takes, none)

module _ (free : LowestIsFree) (stays : StaysWellFormed) (rows : HoldersHaveRows) (t : Table) (ok : IsTable t) where
  module _ (u v : Table) (before : List Entry) (entry : Entry) (key : Key) (history : LegalHistory t before u) (after : LegalHistory t (before ++ entry ∷ []) v)
      (steady : AreSteady before) (one : IsSteady entry.event) (at : key_taken entry.event ≡ Some key) (made : MadeBy u key v) where
    taken_more : taken (before ++ entry ∷ []) entry.actor key ≡ taken before entry.actor key + 1
    unfolding is_key
    taken_more =
        let takes : takes_hold key entry.event ≡ true = takes_is key entry.event one ∙ ap (is_key key) at ∙ same_itself key in
        taken-push before entry entry.actor key ∙ ap (λ n. taken before entry.actor key + n) (test_one entry.actor (takes_hold key entry.event) takes)

    abbrev new_row : Row
    new_row = made_row made.links

    abbrev closed_row_of : Row
    closed_row_of = row_after v new_row (call.CloseKey key)

    bare_inode : (inode : Inode) × (inode_of v key.number ≡ Some inode)
    bare_inode =
        let well : IsTable v = stays t v (before ++ entry ∷ []) ok after.leads in
        let bare = made_bare free u made.g key made.links made.next (subst IsTable made.is well) in
        (in_use key new_row, ap (λ w. inode_of w key.number) made.is ∙ inode_same (prepare u made.g) key.number bare.inode (in_use key new_row) bare.at)

    row_made : row_of v key ≡ Some new_row
    row_made =
        let well : IsTable v = stays t v (before ++ entry ∷ []) ok after.leads in
        let bare = made_bare free u made.g key made.links made.next (subst IsTable made.is well) in
        ap (λ w. row_of w key) made.is ∙ row_same (prepare u made.g) key bare.inode new_row bare.at

    closes : Legal v (call.CloseKey key) reply.Done (with_row v key closed_row_of)
    closes = (
      subst (λ o. KeyReplies v o (call.CloseKey key) reply.Done) (sym row_made) (omega arith),
      sym (ap (λ o. with_changed v key o (call.CloseKey key)) row_made),
    )

    unheld : taken before entry.actor key ≡ 0
    unheld =
        let entries = before ++ entry ∷ [] in
        let sure : AreSteady entries = all_steady before entry steady one in
        let more = taken_more in
        elim (cases_lt 0 (taken before entry.actor key)) [
          | inl some ↦
              let held = holds_are entries entry.actor key sure in
              let left = holds-close entries entry.actor key sure in
              let history = legal-push t v (with_row v key closed_row_of) entries (close_of entry.actor key) after closes (omega (arith, held, more, some)) in
              let still = rows t (with_row v key closed_row_of) (entries ++ close_of entry.actor key ∷ []) entry.actor key ok history (omega (arith, left, more, some)) in
              let empty : 1 ≤ 0 = subst IsOpen (row_same v key bare_inode.0 closed_row_of bare_inode.1) still in
              absurd (omega (arith, empty))
          | inr none ↦ omega (arith, none)
        ]

  -- so with one entry more each hold was taken once at most, too
  step : (u v : Table) (before : List Entry) (entry : Entry) (actor : ℕ) (key : Key) → LegalHistory t before u → Happens u entry.event v → IsByHolder before entry.actor entry.event
      → AreSteady before → IsSteady entry.event → taken before actor key ≤ 1 → taken (before ++ entry ∷ []) actor key ≤ 1
  unfolding one_if
  step u v before entry actor key history happens by steady one few =
      let push = taken-push before entry actor key in
      elim (cases_Bool ((entry.actor == actor) && takes_hold key entry.event)) [
        | inl takes ↦
            let parts = and_parts (entry.actor == actor) (takes_hold key entry.event) takes in
            let same : entry.actor ≡ actor = eqb-true entry.actor actor parts.0 in
            let at : key_taken entry.event ≡ Some key = key_from key (key_taken entry.event) (sym (takes_is key entry.event one) ∙ parts.1) in
            let none = unheld u v before entry key history (legal-push t u v before entry history happens by) steady one at (made_by u entry.event v key happens at) in
            let free_of_it : taken before actor key ≡ 0 = subst (λ a. taken before a key ≡ 0) same none in
            let added : one_if ((entry.actor == actor) && takes_hold key entry.event) ≡ 1 = ap one_if takes in
            omega (arith, push, free_of_it, added)
        | inr other ↦
            let added : one_if ((entry.actor == actor) && takes_hold key entry.event) ≡ 0 = ap one_if other in
            omega (arith, push, few, added)
      ]

  steps : (before entries : List Entry) (u v : Table) → LegalHistory t before u → Leads u entries v → AreByHolders before entries → AreSteady before → AreSteady entries
      → ((actor : ℕ) (key : Key) → taken before actor key ≤ 1) → (actor : ℕ) (key : Key) → taken (before ++ entries) actor key ≤ 1
  steps before [] u v history leads held old new few actor key = subst (λ es. taken es actor key ≤ 1) (sym (append-nil before)) (few actor key)
  steps before (entry ∷ entries) u v history (next, happens, rest) held old new few actor key =
      subst (λ es. taken es actor key ≤ 1) (append_assoc before (entry ∷ []) entries)
      (steps (before ++ entry ∷ []) entries next v (legal-push t u next before entry history happens held.0) rest held.1 (all_steady before entry old new.0) new.1
      (λ a k. step u next before entry a k history happens held.0 old new.0 (few a k)) actor key)

  pub taken-once : (entries : List Entry) (u : Table) → LegalHistory t entries u → AreSteady entries → (actor : ℕ) (key : Key) → taken entries actor key ≤ 1
  unfolding taken
  taken-once entries u history steady actor key =
      steps [] entries t u (record { leads = refl; held = tt }) history.leads history.held tt steady (λ a k. omega arith) actor key
