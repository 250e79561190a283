-- What happens last in a legal history, and that it leads to one table.
use Rattle.std.proofs.Common.{◌≡◌, ◌<◌, ◌++◌, ◌∷◌, ℕ, List, [], append-nil, append_assoc, length, refl, subst, sym, ◌∙◌}
use Rattle.life_table.specs.declared.key.Key.{Key}
use Rattle.life_table.specs.declared.types.Call.{Call}
use Rattle.life_table.specs.declared.types.Call.TheVariants as call
use Rattle.life_table.specs.declared.types.Reply.{Reply}
use Rattle.life_table.specs.declared.types.Reply.TheVariants as reply
use Rattle.life_table.specs.declared.types.Event.{Event}
use Rattle.life_table.specs.declared.types.Event.TheVariants.{Called, Freed}
use Rattle.life_table.specs.declared.types.Entry.{Entry}
use Rattle.life_table.specs.declared.table.Table.{Table}
use Rattle.life_table.specs.Table.{row_of}
use Rattle.life_table.specs.Legal.{CanMake, IsOpen, Permits}
use Rattle.life_table.specs.WellFormed.{IsTable}
use Rattle.life_table.specs.History.{AreByHolders, Happens, IsByHolder, IsHeld, Leads, LegalHistory, after_event, holds, key_of}
use Rattle.plain_world.specs.Happenings.{MayHappen}

happens_once : (t u : Table) (event : Event) → Happens t event u → u ≡ after_event t event
happens_once t u (Called made answer) h = h.1
happens_once t u (Freed key) h = h.1

leads_once : (t u v : Table) (entries : List Entry) → Leads t entries u → Leads t entries v → u ≡ v
leads_once t u v [] p q = p ∙ sym q
leads_once t u v (entry ∷ entries) p q =
    let same : p.0 ≡ q.0 = happens_once t p.0 entry.event p.1 ∙ sym (happens_once t q.0 entry.event q.1) in
    leads_once q.0 u v entries (subst (λ n. Leads n entries u) same p.2) q.2

leads_last : (t v : Table) (entries : List Entry) (entry : Entry) → Leads t (entries ++ entry ∷ []) v
    → (u : Table) × Leads t entries u × Happens u entry.event v
leads_last t v [] entry p = (t, refl, subst (λ x. Happens t entry.event x) (sym p.2) p.1)
leads_last t v (first ∷ entries) entry p =
    let rest = leads_last p.0 v entries entry p.2 in
    (rest.0, (p.0, p.1, rest.1), rest.2)

held_last : (before entries : List Entry) (entry : Entry) → AreByHolders before (entries ++ entry ∷ [])
    → IsByHolder (before ++ entries) entry.actor entry.event
held_last before [] entry p = subst (λ b. IsByHolder b entry.actor entry.event) (sym (append-nil before)) p.0
held_last before (first ∷ entries) entry p =
    subst (λ b. IsByHolder b entry.actor entry.event) (append_assoc before (first ∷ []) entries) (held_last (before ++ first ∷ []) entries entry p.1)

-- the law that who holds a key has a row there
abbrev pub HoldersLaw : Type 0
HoldersLaw = (t u : Table) (entries : List Entry) (actor : ℕ) (key : Key) → IsTable t → LegalHistory t entries u → 0 < holds entries actor key → IsOpen (row_of u key)

create_can : (t : Table) (g : ℕ) (answer : Reply) → Permits t (call.Create g) answer → g < length t.groups
create_can t g (reply.Made key) p = p.0
create_can t g reply.NoInodes p = p.0
create_can t g reply.Done p = elim p [ ]
create_can t g (reply.Shown _ _ _ _) p = elim p [ ]
create_can t g (reply.Covered _) p = elim p [ ]
create_can t g reply.Stale p = elim p [ ]
create_can t g reply.Crowded p = elim p [ ]
create_can t g reply.NoSpace p = elim p [ ]
create_can t g reply.TooManyLinks p = elim p [ ]
create_can t g reply.NoLinks p = elim p [ ]
create_can t g reply.TooManyExtents p = elim p [ ]
create_can t g reply.CutTooFar p = elim p [ ]
create_can t g reply.WriteFault p = elim p [ ]
create_can t g reply.FlushFault p = elim p [ ]
create_can t g reply.PositionEnd p = elim p [ ]
create_can t g (reply.Down _) p = elim p [ ]

tmpfile_can : (t : Table) (g : ℕ) (answer : Reply) → Permits t (call.Tmpfile g) answer → g < length t.groups
tmpfile_can t g (reply.Made key) p = p.0
tmpfile_can t g reply.NoInodes p = p.0
tmpfile_can t g reply.Done p = elim p [ ]
tmpfile_can t g (reply.Shown _ _ _ _) p = elim p [ ]
tmpfile_can t g (reply.Covered _) p = elim p [ ]
tmpfile_can t g reply.Stale p = elim p [ ]
tmpfile_can t g reply.Crowded p = elim p [ ]
tmpfile_can t g reply.NoSpace p = elim p [ ]
tmpfile_can t g reply.TooManyLinks p = elim p [ ]
tmpfile_can t g reply.NoLinks p = elim p [ ]
tmpfile_can t g reply.TooManyExtents p = elim p [ ]
tmpfile_can t g reply.CutTooFar p = elim p [ ]
tmpfile_can t g reply.WriteFault p = elim p [ ]
tmpfile_can t g reply.FlushFault p = elim p [ ]
tmpfile_can t g reply.PositionEnd p = elim p [ ]
tmpfile_can t g (reply.Down _) p = elim p [ ]

can_make : (holders : HoldersLaw) (start t : Table) (entries : List Entry) (a : ℕ) (made : Call) (answer : Reply) → IsTable start
    → LegalHistory start entries t → IsHeld entries a (key_of made) → Permits t made answer → CanMake t made
can_make holders start t entries a (call.Create g) answer table legal held p = create_can t g answer p
can_make holders start t entries a (call.Tmpfile g) answer table legal held p = tmpfile_can t g answer p
can_make holders start t entries a (call.OpenKey key) answer table legal held p = tt
can_make holders start t entries a (call.CloseKey key) answer table legal held p = holders start t entries a key table legal held
can_make holders start t entries a (call.Link key) answer table legal held p = holders start t entries a key table legal held
can_make holders start t entries a (call.Unlink key) answer table legal held p = holders start t entries a key table legal held
can_make holders start t entries a (call.Grow key count) answer table legal held p = holders start t entries a key table legal held
can_make holders start t entries a (call.Cut key count) answer table legal held p = holders start t entries a key table legal held
can_make holders start t entries a (call.Stat key) answer table legal held p = holders start t entries a key table legal held
can_make holders start t entries a call.Sync answer table legal held p = tt
can_make holders start t entries a call.Home answer table legal held p = tt
can_make holders start t entries a call.Gc answer table legal held p = tt
can_make holders start t entries a (call.FlushInodes g) answer table legal held p = tt
can_make holders start t entries a (call.Reclaim g) answer table legal held p = tt

event_may : (holders : HoldersLaw) (start t : Table) (entries : List Entry) (a : ℕ) (event : Event) → IsTable start
    → LegalHistory start entries t → IsByHolder entries a event → Happens t event (after_event t event) → MayHappen t event
event_may holders start t entries a (Called made answer) table legal held h = (can_make holders start t entries a made answer table legal held h.0, h.0)
event_may holders start t entries a (Freed key) table legal held h = h.0

-- what happens next in a legal history may happen
pub next_may_happen : (holders : HoldersLaw) (start t : Table) (entries : List Entry) (a : ℕ) (event : Event) → IsTable start
    → LegalHistory start entries t → LegalHistory start (entries ++ record { actor = a; event = event } ∷ []) (after_event t event) → MayHappen t event
next_may_happen holders start t entries a event table legal later =
    let last = leads_last start (after_event t event) entries (record { actor = a; event = event }) later.leads in
    let same : last.0 ≡ t = leads_once start last.0 t entries last.1 legal.leads in
    event_may holders start t entries a event table legal (held_last [] entries (record { actor = a; event = event }) later.held)
    (subst (λ x. Happens x event (after_event t event)) same last.2)
