-- A settled key is stale.
use Rattle.std.proofs.Common.{◌≡◌, ◌≤◌, inl, inr, ℕ, List, [], ◌∷◌, ◌++◌, Option, None, Some, IsSome, IsSomeAnd, length, slice_get, take, refl, sym, ap, subst, ◌∙◌, arith}
use Rattle.std.proofs.lemmas.List.{take-append-le, take-take}
use Rattle.life_limits.specs.declared.TheConstants.{MAX_PINS}
use Rattle.life_table.specs.declared.key.Key.{Key}
use Rattle.life_table.specs.declared.types.Row.{Row}
use Rattle.life_table.specs.declared.types.Call.TheVariants as call
use Rattle.life_table.specs.declared.types.Reply.{Reply}
use Rattle.life_table.specs.declared.types.Reply.TheVariants as reply
use Rattle.life_table.specs.declared.types.Event.{Event}
use Rattle.life_table.specs.declared.types.Event.TheVariants.{Called}
use Rattle.life_table.specs.declared.types.Entry.{Entry}
use Rattle.life_table.specs.declared.table.Table.{Table}
use Rattle.life_table.specs.Table.{row_of}
use Rattle.life_table.specs.Legal.{Awaits, KeyReplies, Permits, RowReplies}
use Rattle.life_table.specs.History.{LegalHistory, after_entries}
use Rattle.life_table.specs.WellFormed.{IsTable}
use Rattle.actor_world.specs.Licence.{table_at}
use Rattle.actor_world.specs.Settled.{IsSettled}
use Rattle.actor_world.specs.World.{History, World, told, told_if}
use Rattle.actor_world.specs.Steps.{DiskFace, Step, Telling}
use Rattle.actor_world.specs.Invariant.{Invariant}
use Rattle.actor_world.proofs.CommitSteps.{leads_after}
use Rattle.actor_world.proofs.LegalSteps.{legal_kept}
use Rattle.actor_world.proofs.StepTurns.{by_turn}
use Rattle.actor_world.proofs.Within.{within}
use Rattle.actor_world.proofs.Lists.{gone_not, take_all, the_some}
use Rattle.actor_world.proofs.Prepares.{LowestIsFree}
use Rattle.actor_world.proofs.Settles.{HasLived, lived_from, past_gone, permitted_at, settled_from}
use Rattle.actor_world.proofs.TurnsFound.{Laws}

stale_none : (t : Table) (key : Key) (answer : Reply) → KeyReplies t None (call.OpenKey key) answer → answer ≡ reply.Stale
stale_none t key reply.Stale permits = refl
stale_none t key _ permits = absurd permits

stale_row : (t : Table) (key : Key) (row : Row) (answer : Reply) → Awaits row → RowReplies t row (call.OpenKey key) answer → answer ≡ reply.Stale
stale_row t key row reply.Stale awaits permits = refl
stale_row t key row reply.Crowded awaits permits = let none : row.opens ≡ 0 = awaits.1 in let full : row.opens ≡ MAX_PINS = permits in absurd (omega (arith, none, full))
stale_row t key row reply.Done awaits permits = absurd (permits.0 awaits)
stale_row t key row _ awaits permits = absurd permits

pub stale : (t : Table) (key : Key) (answer : Reply) → IsSettled t key → Permits t (call.OpenKey key) answer → answer ≡ reply.Stale
stale t key answer (inl past) permits = stale_none t key answer (subst (λ (o : Option Row). KeyReplies t o (call.OpenKey key) answer) (past_gone t key past) permits)
stale t key answer (inr awaits) permits =
    let row = the_some Awaits (row_of t key) awaits in
    stale_row t key row.0 answer row.2 (subst (λ (o : Option Row). KeyReplies t o (call.OpenKey key) answer) row.1 permits)

-- a key that had a row, and would be answered stale
settled_now : (t : Table) (key : Key) (o : Option Row) → row_of t key ≡ o → HasLived t key → KeyReplies t o (call.OpenKey key) reply.Stale → IsSettled t key
settled_now t key None is (inl past) permits = inl past
settled_now t key None is (inr has) permits = absurd (gone_not (row_of t key) is has)
settled_now t key (Some row) is lived permits = inr (subst (λ (o : Option Row). IsSomeAnd o Awaits) (sym is) permits)

module _ (laws : Laws) (lowest : LowestIsFree) (start : Table) (ok : IsTable start) (entries : List Entry) (t : Table) (legal : LegalHistory start entries t) (key : Key) where
  pub answered_settled : (n : ℕ) → IsSome (row_of (table_at start entries n) key) → Permits t (call.OpenKey key) reply.Stale → IsSettled t key
  answered_settled n has permits = settled_now t key (row_of t key) refl (lived_from laws lowest start ok entries t n key legal has) permits

  pub entries_stale : (n i a : ℕ) (answer : Reply) → n ≤ i → IsSettled (table_at start entries n) key → slice_get entries i ≡ Some (record { actor = a; event = Called (call.OpenKey key) answer }) → answer ≡ reply.Stale
  entries_stale n i a answer low settled at =
      let permitted = permitted_at laws lowest start ok entries t i a (call.OpenKey key) answer legal at in
      let first : take n (take i entries) ≡ take n entries = take-take n i entries low in
      let early : IsSettled (table_at start (take i entries) n) key = subst (λ es. IsSettled (after_entries start es) key) (sym first) settled in
      stale (table_at start entries i) key answer (settled_from laws lowest start ok (take i entries) (table_at start entries i) n key permitted.0 early) permitted.1

-- a settled key is so after a step
after_told : (laws : Laws) (lowest : LowestIsFree) (start : Table) (h : History) (a begin : ℕ) (event : Option Event) (key : Key) → IsTable start → LegalHistory start h.entries h.table
    → LegalHistory start (told_if a begin event h).entries (told_if a begin event h).table → IsSettled h.table key → IsSettled (told_if a begin event h).table key
after_told laws lowest start h a begin None key ok before after settled = settled
after_told laws lowest start h a begin (Some event) key ok before after settled =
    let entry : Entry = record { actor = a; event = event } in
    let same : table_at start (h.entries ++ entry ∷ []) (length h.entries) ≡ h.table =
    ap (λ (es : List Entry). after_entries start es) (take-append-le (length h.entries) h.entries (entry ∷ []) (omega arith) ∙ take_all h.entries) ∙ sym (leads_after start h.table h.entries before.leads) in
    settled_from laws lowest start ok (h.entries ++ entry ∷ []) (told a begin event h).table (length h.entries) key after (subst (λ t. IsSettled t key) (sym same) settled)

pub settled_step : Laws → LowestIsFree → {D : Type 0} (face : DiskFace D) (tells : Telling) (start : Table) (a : ℕ) (old new : World D) (key : Key) → Invariant tells start old → Step face tells a old new
    → IsSettled old.history.table key → IsSettled new.history.table key
settled_step laws lowest face tells start a old new key inv step settled =
    by_turn laws face tells start a old new (λ h m. IsSettled h.table key) (within tells start old inv) step
    (λ made at begin q later event next memory turn.
    after_told laws lowest start old.history a begin event key inv.table inv.legal
    (legal_kept start old.history old.memory a made at begin q later event next memory turn.inv turn.right.held turn.turn) settled)
