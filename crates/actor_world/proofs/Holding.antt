-- Histories with one entry more: that they are legal, and who holds what.
use Rattle.std.proofs.Common.{◌≡◌, ◌≢◌, ◌<◌, ◌≤◌, ◌+◌, ◌-◌, ◌==◌, ◌&&◌, ℕ, Bool, false, List, [], ◌∷◌, ◌++◌, append-nil, append_assoc, Option, None, Some, if◌then◌else◌, refl, sym, ap, subst, ◌∙◌, arith}
use Rattle.std.specs.List.{count_by}
use Rattle.std.proofs.lemmas.Bool.{ne_eqb}
use Rattle.std.proofs.lemmas.List.Sums.{sum_by-append}
use Rattle.life_table.specs.declared.key.Key.{Key}
use Rattle.life_table.specs.declared.types.Row.{Row}
use Rattle.life_table.specs.declared.types.Call.TheVariants as call
use Rattle.life_table.specs.declared.types.Reply.TheVariants as reply
use Rattle.life_table.specs.declared.types.Event.TheVariants.{Called}
use Rattle.life_table.specs.declared.types.Entry.{Entry}
use Rattle.life_table.specs.declared.table.Table.{Table}
use Rattle.life_table.specs.Table.{row_of}
use Rattle.life_table.specs.Legal.{IsOpen, KeyReplies, row_after, with_changed}
use Rattle.life_table.specs.History.{AreByHolders, Happens, IsByHolder, IsHeld, Leads, LegalHistory, gives_up, holds, takes_hold}
use Rattle.life_table.specs.WellFormed.{IsTable}
use Rattle.actor_world.proofs.Lists.{the_some}
use Rattle.actor_world.proofs.Looks.{row_same}
use Rattle.actor_world.proofs.TurnsFound.{Laws}

-- ---- legal histories

leads_push : (first : Table) (entries : List Entry) (t u : Table) (entry : Entry) → Leads first entries t → Happens t entry.event u → Leads first (entries ++ entry ∷ []) u
leads_push first [] t u entry leads happens = (u, subst (λ v. Happens v entry.event u) leads happens, refl)
leads_push first (other ∷ entries) t u entry (next, one, rest) happens = (next, one, leads_push next entries t u entry rest happens)

holders_push : (before entries : List Entry) (entry : Entry) → AreByHolders before entries → IsByHolder (before ++ entries) entry.actor entry.event → AreByHolders before (entries ++ entry ∷ [])
holders_push before [] entry all by = (subst (λ es. IsByHolder es entry.actor entry.event) (append-nil before) by, tt)
holders_push before (other ∷ entries) entry all by =
    (all.0, holders_push (before ++ other ∷ []) entries entry all.1 (subst (λ es. IsByHolder es entry.actor entry.event) (sym (append_assoc before (other ∷ []) entries)) by))

pub legal_push : (first : Table) (entries : List Entry) (t u : Table) (entry : Entry) → LegalHistory first entries t → Happens t entry.event u
    → IsByHolder entries entry.actor entry.event → LegalHistory first (entries ++ entry ∷ []) u
legal_push first entries t u entry legal happens by = record {
  leads = leads_push first entries t u entry legal.leads happens;
  held = holders_push [] entries entry legal.held by;
}

-- ---- holds

pub count_push : (p : Entry → Bool) (entries : List Entry) (entry : Entry) → count_by p (entries ++ entry ∷ []) ≡ count_by p entries + (if p entry then 1 else 0)
count_push p entries entry = sum_by-append (λ (e : Entry). if p e then 1 else 0) entries (entry ∷ []) ∙ ap (λ n. count_by p entries + n) (omega arith)

-- an entry of somebody else
pub holds_other : (entries : List Entry) (entry : Entry) (a : ℕ) (key : Key) → entry.actor ≢ a → holds (entries ++ entry ∷ []) a key ≡ holds entries a key
holds_other entries entry a key apart =
    let differs : (entry.actor == a) ≡ false = ne_eqb entry.actor a apart in
    let takes = count_push (λ (e : Entry). (e.actor == a) && takes_hold key e.event) entries entry in
    let gives = count_push (λ (e : Entry). (e.actor == a) && gives_up key e.event) entries entry in
    let no_take : ◌≡◌ {A = ℕ} (if (entry.actor == a) && takes_hold key entry.event then 1 else 0) 0 = ap (λ (b : Bool). if b && takes_hold key entry.event then 1 else 0) differs in
    let no_give : ◌≡◌ {A = ℕ} (if (entry.actor == a) && gives_up key entry.event then 1 else 0) 0 = ap (λ (b : Bool). if b && gives_up key entry.event then 1 else 0) differs in
    omega (arith, takes, gives, no_take, no_give)

pub held_other : (entries : List Entry) (entry : Entry) (a : ℕ) (o : Option Key) → entry.actor ≢ a → IsHeld entries a o → IsHeld (entries ++ entry ∷ []) a o
held_other entries entry a None apart held = tt
held_other entries entry a (Some key) apart held = let same = holds_other entries entry a key apart in omega (arith, same, held)

-- Two actors that hold a key are counted both by its row: one may give it up, and the other still has a row to hold.
pub two_hold : Laws → (start : Table) (entries : List Entry) (t : Table) → IsTable start → LegalHistory start entries t → (a b : ℕ) (key : Key) (row : Row) → b ≢ a
    → 0 < holds entries a key → 0 < holds entries b key → row_of t key ≡ Some row → 2 ≤ row.opens
two_hold laws start entries t ok legal a b key row apart held also is =
    let entry : Entry = record { actor = b; event = Called (call.CloseKey key) reply.Done } in
    let some = the_some (λ (r : Row). 1 ≤ r.opens) (row_of t key) (laws.held start t entries b key ok legal also) in
    let permits : KeyReplies t (row_of t key) (call.CloseKey key) reply.Done = subst (λ (o : Option Row). KeyReplies t o (call.CloseKey key) reply.Done) (sym some.1) some.2 in
    let later = legal_push start entries t (with_changed t key (row_of t key) (call.CloseKey key)) entry legal (permits, refl) also in
    let still = laws.held start (with_changed t key (row_of t key) (call.CloseKey key)) (entries ++ entry ∷ []) a key ok later
    (let same = holds_other entries entry a key apart in omega (arith, same, held)) in
    let new : Row = row_after t row (call.CloseKey key) in
    let row_is : row_of (with_changed t key (row_of t key) (call.CloseKey key)) key ≡ Some new =
    ap (λ (o : Option Row). row_of (with_changed t key o (call.CloseKey key)) key) is ∙ row_same t key row new is in
    let left : 1 ≤ row.opens - 1 = subst (λ (o : Option Row). IsOpen o) row_is still in
    omega (arith, left)
