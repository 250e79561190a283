-- Along a history that opens and closes nothing, the rows of the table have one hold more for each entry that takes one.
use Rattle.std.proofs.Common.{◌≡◌, ◌==◌, ◌+◌, ℕ, true, false, List, [], ◌∷◌, Option, None, Some, IsSomeAnd, if◌then◌else◌, length, refl, ap, subst, ◌∙◌, arith}
use Rattle.std.proofs.lemmas.Option.{none-some}
use Rattle.life_table.specs.declared.key.Key.{Key}
use Rattle.life_table.specs.declared.types.Row.{Row}
use Rattle.life_table.specs.declared.types.Call.{Call}
use Rattle.life_table.specs.declared.types.Call.TheVariants as call
use Rattle.life_table.specs.declared.types.Reply.{Reply}
use Rattle.life_table.specs.declared.types.Reply.TheVariants as reply
use Rattle.life_table.specs.declared.types.Event.{Event}
use Rattle.life_table.specs.declared.types.Event.TheVariants.{Called, Freed}
use Rattle.life_table.specs.declared.types.Entry.{Entry}
use Rattle.life_table.specs.declared.table.Inode.{Inode}
use Rattle.life_table.specs.declared.table.Table.{Table}
use Rattle.life_table.specs.Table.{in_use, inode_of, row_in_life, row_of, with_row}
use Rattle.life_table.specs.Legal.{Awaits, IsNextKey, Permits, after_call, freed, made_row, prepare, row_after, with_changed}
use Rattle.life_table.specs.History.{Happens, Leads}
use Rattle.life_table.specs.WellFormed.{IsTable}
use Rattle.actor_holds.specs.Holds.{AreSteady, IsSteady, key_taken}
use Rattle.run_history.specs.Answers.{holds_in, holds_on}
use Rattle.actor_holds.proofs.Opens.{opens-prepare, opens-with_inode}
use Rattle.actor_holds.proofs.Made.{LowestIsFree, made_bare}

-- The law of the model that is used: a legal history keeps a table well formed.
abbrev pub StaysWellFormed : Type 0
StaysWellFormed = (t u : Table) (entries : List Entry) → IsTable t → Leads t entries u → IsTable u

-- ---- the holds that entries take, one after the other

abbrev pub with_hold : ℕ → Option Key → List (ℕ × ℕ × ℕ) → List (ℕ × ℕ × ℕ)
with_hold actor None holds = holds
with_hold actor (Some key) holds = (actor, key.number, key.generation) ∷ holds

unfoldable pub holds_taken : List Entry → List (ℕ × ℕ × ℕ)
holds_taken [] = []
holds_taken (entry ∷ entries) = with_hold entry.actor (key_taken entry.event) (holds_taken entries)

-- ---- one event

abbrev one_for : Option Key → ℕ
one_for None = 0
one_for (Some key) = 1

-- the inode whose row a key has
record HasRow (o : Option Inode) (row : Row) : Type 0 where
  inode : Inode
  at : o ≡ Some inode
  is : inode.row ≡ Some row

has_row : (o : Option Inode) (generation : ℕ) (row : Row) → row_in_life generation o ≡ Some row → HasRow o row
has_row None generation row at = absurd (none-some row at)
has_row (Some inode) generation row at =
    elim (inode.generation == generation) as (λ c. (if c then inode.row else None) ≡ Some row → HasRow (Some inode) row) [
      | true ↦ λ here. record { inode = inode; at = refl; is = here }
      | false ↦ λ here. absurd (none-some row here)
    ] at

-- a row that is changed, and has as many holds as before
row_keeps : (t : Table) (key : Key) (called : Call) → ((row : Row) → (row_after t row called).opens ≡ row.opens) → (o : Option Row) → row_of t key ≡ o
    → holds_in (with_changed t key o called) ≡ holds_in t + 0
row_keeps t key called same None at = omega arith
row_keeps t key called same (Some row) at =
    let has = has_row (inode_of t key.number) key.generation row at in
    let moved = opens-with_inode t key.number has.inode (in_use key (row_after t row called)) has.at in
    let old : holds_on has.inode.row ≡ row.opens = ap holds_on has.is in
    let new : (row_after t row called).opens ≡ row.opens = same row in
    omega (arith, moved, old, new)

module _ (free : LowestIsFree) (t : Table) where
  makes_one : (g : ℕ) (key : Key) (links : ℕ) → IsNextKey t g key → IsTable (with_row (prepare t g) key (made_row links))
      → holds_in (with_row (prepare t g) key (made_row links)) ≡ holds_in t + 1
  makes_one g key links next ok =
      let bare = made_bare free t g key links next ok in
      let ready = opens-prepare t g next.0 in
      let moved = opens-with_inode (prepare t g) key.number bare.inode (in_use key (made_row links)) bare.at in
      let old : holds_on bare.inode.row ≡ 0 = ap holds_on bare.none in
      omega (arith, ready, moved, old)

  call_takes : (called : Call) (answer : Reply) → IsSteady (Called called answer) → Permits t called answer → IsTable (after_call t called answer)
      → holds_in (after_call t called answer) ≡ holds_in t + one_for (key_taken (Called called answer))
  call_takes (call.OpenKey key) answer steady permits ok = absurd steady
  call_takes (call.CloseKey key) answer steady permits ok = absurd steady
  call_takes (call.Create g) (reply.Made key) steady permits ok = makes_one g key 1 permits ok
  call_takes (call.Tmpfile g) (reply.Made key) steady permits ok = makes_one g key 0 permits ok
  call_takes (call.Link key) reply.Done steady permits ok = row_keeps t key (call.Link key) (λ row. refl) (row_of t key) refl
  call_takes (call.Unlink key) reply.Done steady permits ok = row_keeps t key (call.Unlink key) (λ row. refl) (row_of t key) refl
  call_takes (call.Grow key count) reply.Done steady permits ok = row_keeps t key (call.Grow key count) (λ row. refl) (row_of t key) refl
  call_takes (call.Cut key count) reply.Done steady permits ok = row_keeps t key (call.Cut key count) (λ row. refl) (row_of t key) refl
  call_takes _ _ steady permits ok = omega arith

  free_takes : (key : Key) (o : Option Row) → row_of t key ≡ o → IsSomeAnd o Awaits → holds_in (freed t key) ≡ holds_in t + 0
  free_takes key None at awaits = absurd awaits
  free_takes key (Some row) at awaits =
      let has = has_row (inode_of t key.number) key.generation row at in
      let gone : Inode = record { generation = key.generation + 1; row = None } in
      let moved = opens-with_inode t key.number has.inode gone has.at in
      let old : holds_on has.inode.row ≡ row.opens = ap holds_on has.is in
      let none : row.opens ≡ 0 = awaits.1 in
      omega (arith, moved, old, none)

  event_takes : (event : Event) (u : Table) → IsSteady event → Happens t event u → IsTable u → holds_in u ≡ holds_in t + one_for (key_taken event)
  event_takes (Called called answer) u steady happens ok =
      ap holds_in happens.1 ∙ call_takes called answer steady happens.0 (subst IsTable happens.1 ok)
  event_takes (Freed key) u steady happens ok = ap holds_in happens.1 ∙ free_takes key (row_of t key) refl happens.0

-- ---- all of a history

length-with_hold : (actor : ℕ) (o : Option Key) (holds : List (ℕ × ℕ × ℕ)) → length (with_hold actor o holds) ≡ one_for o + length holds
length-with_hold actor None holds = omega arith
length-with_hold actor (Some key) holds = omega arith

module _ (free : LowestIsFree) (stays : StaysWellFormed) where
  pub holds-taken : (t : Table) (entries : List Entry) (u : Table) → IsTable t → AreSteady entries → Leads t entries u → holds_in u ≡ holds_in t + length (holds_taken entries)
  unfolding holds_taken
  holds-taken t [] u ok steady leads = ap holds_in leads ∙ omega arith
  holds-taken t (entry ∷ entries) u ok steady (next, first, rest) =
      let well : IsTable next = stays t next (entry ∷ []) ok (next, first, refl) in
      let one = event_takes free t entry.event next steady.0 first well in
      let more = holds-taken next entries u well steady.1 rest in
      let long = length-with_hold entry.actor (key_taken entry.event) (holds_taken entries) in
      omega (arith, one, more, long)
