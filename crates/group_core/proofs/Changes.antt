-- Where a history leads, and where its changes lead.
use Rattle.std.proofs.Common.{◌≡◌, IsSomeAnd, ◌⊎◌, Bool, true, false, if◌then◌else◌, Option, None, Some, List, [], ◌∷◌, length, take, refl, sym, ap, subst, ◌∙◌, inl, inr, ℕ, zero, suc, arith}
use Rattle.std.specs.List.{AllByRecursion}
use Rattle.std.proofs.lemmas.List.{take_all}
use Rattle.life_table.specs.declared.key.Key.{Key}
use Rattle.life_table.specs.declared.types.Call.{Call}
use Rattle.life_table.specs.declared.types.Call.TheVariants as call
use Rattle.life_table.specs.declared.types.Reply.{Reply}
use Rattle.life_table.specs.declared.types.Reply.TheVariants as reply
use Rattle.life_table.specs.declared.types.Row.{Row}
use Rattle.life_table.specs.declared.types.Event.{Event}
use Rattle.life_table.specs.declared.types.Event.TheVariants.{Called, Freed}
use Rattle.life_table.specs.declared.types.Entry.{Entry}
use Rattle.life_table.specs.declared.table.Table.{Table}
use Rattle.life_table.specs.History.{After, after_entries, after_event, changes, closed, closed_row, is_change}
use Rattle.life_table.specs.Legal.{Awaits, Frees, IsNoHold, KeyReplies, Legal, Permits}
use Rattle.life_table.specs.Table.{row_of}
use Rattle.life_table.specs.WellFormed.{IsTable}
use Rattle.group_core.specs.GroupHistory.{HappensUnheld, IsInGroup, LeadsUnheld, LegalGroupHistory, OpenReplies, PermitsUnheld}

pub one_end : (first last other : Table) (entries : List Entry) → LeadsUnheld first entries last → LeadsUnheld first entries other → last ≡ other
one_end first last other [] leads also = leads ∙ sym also
one_end first last other (entry ∷ entries) leads also =
    let same : also.0 ≡ leads.0 = also.1.1 ∙ sym leads.1.1 in
    one_end leads.0 last other entries leads.2 (subst (λ (t : Table). LeadsUnheld t entries other) same also.2)

-- what the model says of changes and holds
pub record PassOver : Type 0 where
  pub change : (t : Table) (event : Event) → is_change event ≡ true → closed (after_event t event) ≡ closed (after_event (closed t) event)
  pub no_change : (t : Table) (event : Event) → is_change event ≡ false → closed (after_event t event) ≡ closed t
  pub twice : (t : Table) → closed (closed t) ≡ closed t

pub unheld_end : (laws : PassOver) (first last : Table) (entries : List Entry) → closed first ≡ first → LeadsUnheld first entries last → closed last ≡ last
unheld_end laws first last [] unheld leads = ap closed leads ∙ unheld ∙ sym leads
unheld_end laws first last (entry ∷ entries) unheld leads =
    unheld_end laws leads.0 last entries (ap closed leads.1.1 ∙ laws.twice (after_event first entry.event) ∙ sym leads.1.1) leads.2

-- the changes lead from a table that differs in holds alone to one that differs in holds alone
changes_end : (laws : PassOver) (t first last : Table) (entries : List Entry) → closed t ≡ first → LeadsUnheld first entries last → closed (after_entries t (changes entries)) ≡ last
changes_end laws t first last [] same leads = same ∙ sym leads
changes_end laws t first last (entry ∷ entries) same leads =
    elim (is_change entry.event) as (λ c. is_change entry.event ≡ c → closed (after_entries t (if c then entry ∷ changes entries else changes entries)) ≡ last) [
      | true ↦ λ is.
          changes_end laws (after_event t entry.event) leads.0 last entries
          (laws.change t entry.event is ∙ ap (λ (u : Table). closed (after_event u entry.event)) same ∙ sym leads.1.1) leads.2
      | false ↦ λ is.
          changes_end laws t leads.0 last entries
          (sym (laws.twice t) ∙ ap closed same ∙ sym (laws.no_change first entry.event is) ∙ sym leads.1.1) leads.2
    ] refl

pub changes_whole : (laws : PassOver) (first last : Table) (entries : List Entry) → closed first ≡ first → LeadsUnheld first entries last
    → After first entries (length (changes entries)) ≡ last
changes_whole laws first last entries unheld leads =
    ap (λ (es : List Entry). closed (after_entries first es)) (take_all (length (changes entries)) (changes entries) (omega arith))
    ∙ changes_end laws first first last entries unheld leads

-- some first entries have just the first n changes
moment : (entries : List Entry) (n : ℕ) → (count : ℕ) × (changes (take count entries) ≡ take n (changes entries))
moment [] zero = (zero, refl)
moment [] (suc n) = (zero, refl)
moment (entry ∷ entries) zero = (zero, refl)
moment (entry ∷ entries) (suc n) =
    elim (is_change entry.event) as (λ c. is_change entry.event ≡ c
    → (count : ℕ) × (changes (take count (entry ∷ entries)) ≡ take (suc n) (if c then entry ∷ changes entries else changes entries))) [
      | true ↦ λ is.
          let rest = moment entries n in
          (suc rest.0, ap (λ (c : Bool). if c then entry ∷ changes (take rest.0 entries) else changes (take rest.0 entries)) is ∙ ap (λ (es : List Entry). entry ∷ es) rest.1)
      | false ↦ λ is.
          let rest = moment entries (suc n) in
          (suc rest.0, ap (λ (c : Bool). if c then entry ∷ changes (take rest.0 entries) else changes (take rest.0 entries)) is ∙ rest.1)
    ] refl

-- first entries lead to a table between
leads_first : (first last : Table) (entries : List Entry) (count : ℕ) → LeadsUnheld first entries last → (middle : Table) × LeadsUnheld first (take count entries) middle
leads_first first last entries zero leads = (first, refl)
leads_first first last [] (suc count) leads = (first, refl)
leads_first first last (entry ∷ entries) (suc count) leads =
    let rest = leads_first leads.0 last entries count leads.2 in
    (rest.0, (leads.0, leads.1, rest.1))

own_first : (P : Entry → Type 0) (entries : List Entry) (count : ℕ) → AllByRecursion P entries → AllByRecursion P (take count entries)
own_first P entries zero all = tt
own_first P [] (suc count) all = tt
own_first P (entry ∷ entries) (suc count) all = (all.0, own_first P entries count all.1)

-- the first n changes lead to the table of a moment between
pub changes_between : (laws : PassOver) (g : ℕ) (first last : Table) (entries : List Entry) (n : ℕ) → closed first ≡ first → LegalGroupHistory g first entries last
    → (count : ℕ) × (middle : Table) × LegalGroupHistory g first (take count entries) middle × (After first entries n ≡ middle)
changes_between laws g first last entries n unheld legal =
    let at = moment entries n in
    let part = leads_first first last entries at.0 legal.leads in
    let own = own_first (λ (entry : Entry). IsInGroup g entry.event) entries at.0 legal.own in (
      at.0,
      part.0,
      record { leads = part.1; own = own },
      ap (λ (es : List Entry). closed (after_entries first es)) (sym at.1) ∙ changes_end laws first first part.0 (take at.0 entries) unheld part.1,
    )

-- what the model says of well formed tables
pub record StayWellFormed : Type 0 where
  pub call : (t u : Table) (called : Call) (answer : Reply) → IsTable t → Legal t called answer u → IsTable u
  pub free : (t u : Table) (key : Key) → IsTable t → Frees t key u → IsTable u
  pub without_holds : (t : Table) → IsTable t → IsTable (closed t)

-- a call that may happen without holds is legal, but for an open, which leaves the table
as_legal : (laws : PassOver) (t : Table) (made : Call) (answer : Reply) → PermitsUnheld t (Called made answer)
    → Permits t made answer ⊎ (closed (after_event t (Called made answer)) ≡ closed t)
as_legal laws t (call.OpenKey key) answer permits = inr (laws.no_change t (Called (call.OpenKey key) answer) refl)
as_legal laws t made answer permits = inl permits

table_after : (laws : PassOver) (stays : StayWellFormed) (t : Table) (event : Event) → IsTable t → PermitsUnheld t event → IsTable (closed (after_event t event))
table_after laws stays t (Called made answer) is permits =
    elim (as_legal laws t made answer permits) [
      | inl legal ↦ stays.without_holds (after_event t (Called made answer)) (stays.call t (after_event t (Called made answer)) made answer is (legal, refl))
      | inr same ↦ subst (λ (u : Table). IsTable u) (sym same) (stays.without_holds t is)
    ]
table_after laws stays t (Freed key) is permits = stays.without_holds (after_event t (Freed key)) (stays.free t (after_event t (Freed key)) key is (permits, refl))

pub table_end : (laws : PassOver) (stays : StayWellFormed) (first last : Table) (entries : List Entry) → IsTable first → LeadsUnheld first entries last → IsTable last
table_end laws stays first last [] is leads = subst (λ (u : Table). IsTable u) (sym leads) is
table_end laws stays first last (entry ∷ entries) is leads =
    table_end laws stays leads.0 last entries (subst (λ (u : Table). IsTable u) (sym leads.1.1) (table_after laws stays first entry.event is leads.1.0)) leads.2

-- where a legal event leads, holds aside
ends_unheld : (laws : PassOver) (t : Table) (event : Event) → closed (after_event t event) ≡ closed (after_event (closed t) event)
ends_unheld laws t event =
    elim (is_change event) as (λ c. is_change event ≡ c → closed (after_event t event) ≡ closed (after_event (closed t) event)) [
      | true ↦ λ is. laws.change t event is
      | false ↦ λ is. laws.no_change t event is ∙ sym (laws.no_change (closed t) event is ∙ laws.twice t)
    ] refl

permits_unheld : (t : Table) (called : Call) (answer : Reply) → IsNoHold called → Permits t called answer → PermitsUnheld t (Called called answer)
permits_unheld t (call.OpenKey key) answer none permits = absurd none
permits_unheld t called answer none permits = permits

pub call_unheld : (laws : PassOver) (t u : Table) (called : Call) (answer : Reply) → IsNoHold called → Permits (closed t) called answer → u ≡ after_event t (Called called answer)
    → HappensUnheld (closed t) (Called called answer) (closed u)
call_unheld laws t u called answer none permits leads =
    (permits_unheld (closed t) called answer none permits, ap closed leads ∙ ends_unheld laws t (Called called answer))

pub free_unheld : (laws : PassOver) (t u : Table) (key : Key) → IsSomeAnd (row_of (closed t) key) Awaits → u ≡ after_event t (Freed key) → HappensUnheld (closed t) (Freed key) (closed u)
free_unheld laws t u key awaits leads = (awaits, ap closed leads ∙ ends_unheld laws t (Freed key))

-- what an open is answered with holds, it may be answered without
open_answers : (t : Table) (key : Key) (o : Option Row) (answer : Reply) → KeyReplies t o (call.OpenKey key) answer → OpenReplies (closed_row o) answer
open_answers t key None reply.Stale answers = tt
open_answers t key None answer answers = absurd answers
open_answers t key (Some row) reply.Stale answers = answers.0
open_answers t key (Some row) reply.Crowded answers = tt
open_answers t key (Some row) reply.Done answers = tt
open_answers t key (Some row) answer answers = absurd answers

pub open_unheld : (laws : PassOver) (t u : Table) (key : Key) (answer : Reply) → row_of (closed t) key ≡ closed_row (row_of t key) → Permits t (call.OpenKey key) answer
    → u ≡ after_event t (Called (call.OpenKey key) answer) → HappensUnheld (closed t) (Called (call.OpenKey key) answer) (closed u)
open_unheld laws t u key answer rows permits leads = (
  subst (λ (o : Option Row). OpenReplies o answer) (sym rows) (open_answers t key (row_of t key) answer permits),
  ap closed leads ∙ ends_unheld laws t (Called (call.OpenKey key) answer),
)

pub open_leaves : (laws : PassOver) (t u : Table) (key : Key) (answer : Reply) → closed t ≡ t → u ≡ closed (after_event t (Called (call.OpenKey key) answer)) → u ≡ t
open_leaves laws t u key answer unheld leads = leads ∙ laws.no_change t (Called (call.OpenKey key) answer) refl ∙ unheld
