-- A mount with one whole call more.
use Rattle.std.proofs.Common.{◌≡◌, ◌≤◌, ◌<◌, ℕ, List, [], ◌∷◌, ◌++◌, length, take, Option, None, Some, IsSomeAnd, Contains, inl, inr, refl, ap, sym, subst, ◌∙◌, arith}
use Rattle.std.specs.Prelude.{slice_get}
use Rattle.std.specs.List.{range_with_len}
use Rattle.std.proofs.Math.Seq.{take-append_seam}
use Rattle.std.proofs.lemmas.List.{take-append-le}
use Rattle.std.proofs.lemmas.List.FromFn.{length-range_with_len}
use Rattle.std.proofs.lemmas.Option.{slice_get-get_or, slice_get_within}
use Rattle.std.specs.Prelude.{get_or}
use Rattle.life_limits.specs.declared.TheConstants.{MAX_ACTORS}
use Rattle.life_table.specs.declared.key.Key.{Key}
use Rattle.life_table.specs.declared.types.Row.{Row}
use Rattle.life_table.specs.declared.types.Call.{Call}
use Rattle.life_table.specs.declared.types.Call.TheVariants as call
use Rattle.life_table.specs.declared.types.Reply.{Reply}
use Rattle.life_table.specs.declared.types.Reply.TheVariants as reply
use Rattle.life_table.specs.declared.types.Event.{Event}
use Rattle.life_table.specs.declared.types.Event.TheVariants.{Called, Freed}
use Rattle.life_table.specs.declared.types.Entry.{Entry}
use Rattle.life_table.specs.declared.types.MountRecord.{MountRecord}
use Rattle.life_table.specs.declared.table.Table.{Table}
use Rattle.life_table.specs.Table.{group_number, row_of}
use Rattle.life_table.specs.Legal.{Awaits}
use Rattle.life_table.specs.History.{Happens, Leads, after_entries, after_event, changes}
use Rattle.actor_world.specs.Licence.{Interval, Licensed, Unfinished, queue_at, queue_from, refused_group, table_at}
use Rattle.run_history.specs.NextMount.{IsAcknowledgedRight}
use Rattle.run_mounts.specs.Calls.{IsWholeCall}
use Rattle.run_mounts.proofs.Lists.{get-more, get-within, range-get}

-- ---- the table of a history

happened : (t u : Table) (event : Event) → Happens t event u → u ≡ after_event t event
happened t u (Called made answer) happens = happens.1
happened t u (Freed key) happens = happens.1

pub leads-to : (t u : Table) (entries : List Entry) → Leads t entries u → after_entries t entries ≡ u
leads-to t u [] leads = sym leads
leads-to t u (entry ∷ entries) leads =
    ap (λ (v : Table). after_entries v entries) (sym (happened t leads.0 entry.event leads.1)) ∙ leads-to leads.0 u entries leads.2

-- ---- places

pub own-place : (entries : List Entry) (froms : List ℕ) (i begin : ℕ) → froms ≡ range_with_len 0 (length entries) → slice_get froms i ≡ Some begin → begin ≡ i
own-place entries froms i begin places is =
    let r = range-get 0 (length entries) i begin (subst (λ (l : List ℕ). slice_get l i ≡ Some begin) places is) in omega (arith, r)

pub long-as : (entries : List Entry) (froms : List ℕ) → froms ≡ range_with_len 0 (length entries) → length froms ≡ length entries
long-as entries froms places = ap length places ∙ length-range_with_len 0 (length entries)

pub own-interval : (entries : List Entry) (froms : List ℕ) → froms ≡ range_with_len 0 (length entries) → Interval entries froms
own-interval entries froms places = record {
  length_is = long-as entries froms places;
  between = λ i begin is. let e = own-place entries froms i begin places is in omega (arith, e);
}

-- ---- no actor freed

-- no entry is a free of an actor
unfoldable pub FreesNone : List Entry → Type 0
FreesNone entries = (i a : ℕ) (key : Key) → a < MAX_ACTORS → slice_get entries i ≡ Some (record { actor = a; event = Freed key }) → ⊥

contains-none : {X : Type 0} (x : X) → Contains [] x → ⊥
contains-none x has = let low = has.1 in absurd (omega (arith, low))

-- where each entry stands where its call began, and no call is unfinished, no call was there to free
pub frees-none : (start : Table) (entries : List Entry) (froms : List ℕ) → froms ≡ range_with_len 0 (length entries) → Licensed start entries froms [] → FreesNone entries
unfolding FreesNone
frees-none start entries froms places licensed = λ i a key low is.
    let long = long-as entries froms places in
    let within = slice_get_within entries i (record { actor = a; event = Freed key }) is in
    let at : slice_get froms i ≡ Some (get_or froms i 0) = slice_get-get_or froms i 0 (omega (arith, long, within)) in
    let begin_is = own-place entries froms i (get_or froms i 0) places at in
    let by = licensed.frees i a (get_or froms i 0) key low is at in
    elim by.1 [
      | inl later ↦
          let after = later.1 in
          let same = own-place entries froms later.0 (get_or froms i 0) places later.2.begin_is in
          absurd (omega (arith, after, same, begin_is))
      | inr going ↦ contains-none (record { actor = a; call = by.0; begin = get_or froms i 0 }) going
    ]

-- ---- the entry of a whole call

unfoldable pub IsOfWhole : Event → Type 0
IsOfWhole (Called made answer) = IsWholeCall made
IsOfWhole (Freed key) = ⊥

whole-frees-none : (entry : Entry) (a : ℕ) (key : Key) → IsOfWhole entry.event → entry ≡ record { actor = a; event = Freed key } → ⊥
unfolding IsOfWhole
whole-frees-none entry a key whole same = subst (λ (e : Entry). IsOfWhole e.event) same whole

whole-no-gc : (entry : Entry) (a : ℕ) (answer : Reply) → IsOfWhole entry.event → entry ≡ record { actor = a; event = Called call.Gc answer } → ⊥
unfolding IsOfWhole
whole-no-gc entry a answer whole same = subst (λ (e : Entry). IsOfWhole e.event) same whole

some-awaits : (o : Option Row) → ((row : Row) → o ≡ Some row → Awaits row → ⊥) → IsSomeAnd o Awaits → ⊥
some-awaits None none awaits = awaits
some-awaits (Some row) none awaits = none row refl awaits

frees-none-more : (entries : List Entry) (entry : Entry) → IsOfWhole entry.event → FreesNone entries → FreesNone (entries ++ entry ∷ [])
unfolding FreesNone
frees-none-more entries entry whole none = λ i a key low is.
    elim (get-more entries entry (record { actor = a; event = Freed key }) i is) [
      | inl here ↦ none i a key low here.1
      | inr last ↦ whole-frees-none entry a key whole last.1
    ]

table-at-first : (start : Table) (entries : List Entry) (entry : Entry) (n : ℕ) → n ≤ length entries → table_at start (entries ++ entry ∷ []) n ≡ table_at start entries n
table-at-first start entries entry n low = ap (after_entries start) (take-append-le n entries (entry ∷ []) low)

table-at-end : (start t : Table) (entries : List Entry) (entry : Entry) → Leads start entries t → table_at start (entries ++ entry ∷ []) (length entries) ≡ t
table-at-end start t entries entry leads = ap (after_entries start) (take-append_seam entries (entry ∷ [])) ∙ leads-to start t entries leads

-- what a record has, of which the last entry is that of a whole call
pub record Grows (start t : Table) (entries : List Entry) (froms : List ℕ) (entry : Entry) : Type 0 where
  pub whole : IsOfWhole entry.event
  pub leads : Leads start entries t
  pub awaits : (key : Key) (row : Row) → row_of t key ≡ Some row → Awaits row → ⊥
  pub places : froms ≡ range_with_len 0 (length entries)
  pub next : froms ++ length entries ∷ [] ≡ range_with_len 0 (length (entries ++ entry ∷ []))

gc-more : (start t : Table) (entries : List Entry) (froms : List ℕ) (entry : Entry) (unfinished : List Unfinished) → Grows start t entries froms entry → Licensed start entries froms unfinished
    → (i a : ℕ) (key : Key) (answer : Reply) → slice_get (entries ++ entry ∷ []) i ≡ Some (record { actor = a; event = Called call.Gc answer })
    → Contains (queue_at start (entries ++ entry ∷ []) i a) key → row_of (table_at start (entries ++ entry ∷ []) i) key ≡ None
gc-more start t entries froms entry unfinished grows licensed i a key answer is waits =
    elim (get-more entries entry (record { actor = a; event = Called call.Gc answer }) i is) [
      | inl here ↦
          let low = here.0 in
          let first : take i (entries ++ entry ∷ []) ≡ take i entries = take-append-le i entries (entry ∷ []) (omega (arith, low)) in
          ap (λ (es : List Entry). row_of (after_entries start es) key) first
          ∙ licensed.gc i a key answer here.1 (subst (λ (es : List Entry). Contains (queue_from start es a []) key) first waits)
      | inr last ↦ absurd (whole-no-gc entry a answer grows.whole last.1)
    ]

refused-more : (start t : Table) (entries : List Entry) (froms : List ℕ) (entry : Entry) (unfinished : List Unfinished) → Grows start t entries froms entry → Licensed start entries froms unfinished
    → (i begin g : ℕ) (other : Entry) (key : Key) → slice_get (entries ++ entry ∷ []) i ≡ Some other → slice_get (froms ++ length entries ∷ []) i ≡ Some begin
    → refused_group other.event ≡ Some g → group_number key ≡ g → IsSomeAnd (row_of (table_at start (entries ++ entry ∷ []) begin) key) Awaits
    → row_of (table_at start (entries ++ entry ∷ []) i) key ≡ None
refused-more start t entries froms entry unfinished grows licensed i begin g other key is from refused group awaits =
    let own = own-place (entries ++ entry ∷ []) (froms ++ length entries ∷ []) i begin grows.next from in
    let long = long-as entries froms grows.places in
    elim (get-more entries entry other i is) [
      | inl here ↦
          let low = here.0 in
          ap (λ (u : Table). row_of u key) (table-at-first start entries entry i (omega (arith, low)))
          ∙ licensed.refused i begin g other key here.1 (get-within froms (length entries) begin i (omega (arith, low, long)) from) refused group
          (subst (λ (u : Table). IsSomeAnd (row_of u key) Awaits) (table-at-first start entries entry begin (omega (arith, low, own))) awaits)
      | inr last ↦
          let end : begin ≡ length entries = own ∙ last.0 in
          absurd (some-awaits (row_of t key) (grows.awaits key)
          (subst (λ (u : Table). IsSomeAnd (row_of u key) Awaits) (ap (table_at start (entries ++ entry ∷ [])) end ∙ table-at-end start t entries entry grows.leads) awaits))
    ]

pub licensed-more : (start t : Table) (entries : List Entry) (froms : List ℕ) (entry : Entry) (unfinished : List Unfinished) → Grows start t entries froms entry → FreesNone entries
    → Licensed start entries froms unfinished → Licensed start (entries ++ entry ∷ []) (froms ++ length entries ∷ []) unfinished
unfolding FreesNone
licensed-more start t entries froms entry unfinished grows none licensed = record {
  frees = λ i a begin key low is from. absurd (frees-none-more entries entry grows.whole none i a key low is);
  gc = gc-more start t entries froms entry unfinished grows licensed;
  refused = refused-more start t entries froms entry unfinished grows licensed;
}

-- ---- what a sync acknowledges

abbrev reply-of : Event → Option Reply
reply-of (Called made answer) = Some answer
reply-of (Freed key) = None

abbrev entry-of : ℕ → Call → Reply → Entry
entry-of actor made answer = record { actor = actor; event = Called made answer }

same-reply : (actor a durable : ℕ) (made other : Call) (answer : Reply) → entry-of actor made answer ≡ entry-of a other (reply.Covered durable) → answer ≡ reply.Covered durable
same-reply actor a durable made other answer same =
    let e : Some answer ≡ Some (reply.Covered durable) = ap (λ (x : Entry). reply-of x.event) same in cc

least-more : (entries : List Entry) (froms : List ℕ) (made : Call) (answer : Reply) (actor : ℕ) (story : MountRecord)
    → story.entries ≡ entries → story.froms ≡ froms → froms ≡ range_with_len 0 (length entries) → IsAcknowledgedRight story
    → ((count : ℕ) → answer ≡ reply.Covered count → count ≡ length (changes entries))
    → (i begin a durable : ℕ) (other : Call) → slice_get (entries ++ record { actor = actor; event = Called made answer } ∷ []) i ≡ Some (record { actor = a; event = Called other (reply.Covered durable) })
    → begin ≡ i → slice_get (froms ++ length entries ∷ []) i ≡ Some begin
    → length (changes (take begin (entries ++ record { actor = actor; event = Called made answer } ∷ []))) ≤ durable
least-more entries froms made answer actor story entries_is froms_is places right covers i begin a durable other is own from =
    let entry : Entry = record { actor = actor; event = Called made answer } in
    let long = long-as entries froms places in
    elim (get-more entries entry (record { actor = a; event = Called other (reply.Covered durable) }) i is) [
      | inl here ↦
          let low = here.0 in
          let first : take begin (entries ++ entry ∷ []) ≡ take begin entries = take-append-le begin entries (entry ∷ []) (omega (arith, low, own)) in
          let old : length (changes (take begin story.entries)) ≤ durable =
          right.least i begin a durable other (subst (λ (es : List Entry). slice_get es i ≡ Some (record { actor = a; event = Called other (reply.Covered durable) })) (sym entries_is) here.1)
          (subst (λ (l : List ℕ). slice_get l i ≡ Some begin) (sym froms_is) (get-within froms (length entries) begin i (omega (arith, low, long)) from)) in
          subst (λ (es : List Entry). length (changes es) ≤ durable) (ap (take begin) entries_is ∙ sym first) old
      | inr last ↦
          let count = covers durable (same-reply actor a durable made other answer last.1) in
          let end : begin ≡ length entries = own ∙ last.0 in
          let all : take begin (entries ++ entry ∷ []) ≡ entries = ap (λ (n : ℕ). take n (entries ++ entry ∷ [])) end ∙ take-append_seam entries (entry ∷ []) in
          let same : length (changes (take begin (entries ++ entry ∷ []))) ≡ length (changes entries) = ap (λ (es : List Entry). length (changes es)) all in
          omega (arith, same, count)
    ]

most-more : (entries : List Entry) (made : Call) (answer : Reply) (actor : ℕ) (story : MountRecord)
    → story.entries ≡ entries → IsAcknowledgedRight story
    → ((count : ℕ) → answer ≡ reply.Covered count → count ≡ length (changes entries))
    → (i a durable : ℕ) (other : Call) → slice_get (entries ++ record { actor = actor; event = Called made answer } ∷ []) i ≡ Some (record { actor = a; event = Called other (reply.Covered durable) })
    → durable ≤ length (changes (take i (entries ++ record { actor = actor; event = Called made answer } ∷ [])))
most-more entries made answer actor story entries_is right covers i a durable other is =
    let entry : Entry = record { actor = actor; event = Called made answer } in
    elim (get-more entries entry (record { actor = a; event = Called other (reply.Covered durable) }) i is) [
      | inl here ↦
          let low = here.0 in
          let first : take i (entries ++ entry ∷ []) ≡ take i entries = take-append-le i entries (entry ∷ []) (omega (arith, low)) in
          let old : durable ≤ length (changes (take i story.entries)) =
          right.most i a durable other (subst (λ (es : List Entry). slice_get es i ≡ Some (record { actor = a; event = Called other (reply.Covered durable) })) (sym entries_is) here.1) in
          subst (λ (es : List Entry). durable ≤ length (changes es)) (ap (take i) entries_is ∙ sym first) old
      | inr last ↦
          let count = covers durable (same-reply actor a durable made other answer last.1) in
          let all : take i (entries ++ entry ∷ []) ≡ entries = ap (λ (n : ℕ). take n (entries ++ entry ∷ [])) last.0 ∙ take-append_seam entries (entry ∷ []) in
          let same : length (changes (take i (entries ++ entry ∷ []))) ≡ length (changes entries) = ap (λ (es : List Entry). length (changes es)) all in
          omega (arith, same, count)
    ]

pub right-more : (story next : MountRecord) (actor : ℕ) (made : Call) (answer : Reply) → IsAcknowledgedRight story → story.froms ≡ range_with_len 0 (length story.entries)
    → next.entries ≡ story.entries ++ record { actor = actor; event = Called made answer } ∷ [] → next.froms ≡ story.froms ++ length story.entries ∷ []
    → next.froms ≡ range_with_len 0 (length next.entries)
    → ((count : ℕ) → answer ≡ reply.Covered count → count ≡ length (changes story.entries)) → IsAcknowledgedRight next
right-more story next actor made answer right places entries_is froms_is own covers = record {
  least = λ i begin a durable other is from.
      subst (λ (es : List Entry). length (changes (take begin es)) ≤ durable) (sym entries_is)
      (least-more story.entries story.froms made answer actor story refl refl places right covers i begin a durable other
      (subst (λ (es : List Entry). slice_get es i ≡ Some (record { actor = a; event = Called other (reply.Covered durable) })) entries_is is)
      (own-place next.entries next.froms i begin own from)
      (subst (λ (l : List ℕ). slice_get l i ≡ Some begin) froms_is from));
  most = λ i a durable other is.
      subst (λ (es : List Entry). durable ≤ length (changes (take i es))) (sym entries_is)
      (most-more story.entries made answer actor story refl right covers i a durable other
      (subst (λ (es : List Entry). slice_get es i ≡ Some (record { actor = a; event = Called other (reply.Covered durable) })) entries_is is));
}
