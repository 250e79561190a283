-- A step leaves a legal history.
use Rattle.std.proofs.Common.{◌≡◌, ◌<◌, ◌≤◌, ℕ, List, Option, None, Some, refl, sym, subst, arith}
use Rattle.std.proofs.lemmas.Bool.{false≢true}
use Rattle.life_limits.specs.declared.TheConstants.{MAX_PINS}
use Rattle.life_table.specs.declared.key.Key.{Key}
use Rattle.life_table.specs.declared.types.Row.{Row}
use Rattle.life_table.specs.declared.types.Call.{Call}
use Rattle.life_table.specs.declared.types.Call.TheVariants as call
use Rattle.life_table.specs.declared.types.Reply.{Reply}
use Rattle.life_table.specs.declared.types.Reply.TheVariants as reply
use Rattle.life_table.specs.declared.types.Event.{Event}
use Rattle.life_table.specs.declared.types.Entry.{Entry}
use Rattle.life_table.specs.declared.table.Table.{Table}
use Rattle.life_table.specs.Table.{row_of}
use Rattle.life_table.specs.Legal.{KeyReplies}
use Rattle.life_table.specs.History.{Happens, IsByHolder, IsHeld, LegalHistory, after_event, key_of}
use Rattle.actor_world.specs.declared.memory.Place.{Place}
use Rattle.actor_world.specs.declared.memory.Memory.{Memory}
use Rattle.actor_world.specs.World.{History, told_if}
use Rattle.actor_world.proofs.Holding.{legal_push}
use Rattle.actor_world.proofs.Turns.{Turn, is_answered, changes, ends_flush, ends_reclaim, finds_none, frees_head, frees_one, grow_refuses, grows, installs, load_crowded, load_stale, locked_crowded, locked_stale, makes, makes_none, next_empty, passes_last, pins, pins_locked, reads, refuses, unpins}
use Rattle.actor_world.proofs.Within.{Within}

by_row : (t : Table) (key : Key) (made : Call) (answer : Reply) (o : Option Row) → row_of t key ≡ o → KeyReplies t o made answer → KeyReplies t (row_of t key) made answer
by_row t key made answer o is permits = subst (λ (o : Option Row). KeyReplies t o made answer) (sym is) permits

few_not : (n opens : ℕ) → n ≡ opens → n < MAX_PINS → opens ≡ MAX_PINS → ⊥
few_not n opens same few full = omega arith

linked_not : (links : ℕ) → 1 ≤ links → links ≡ 0 → ⊥
linked_not links some none = omega arith

none_not : (opens : ℕ) → opens ≡ 0 → opens ≡ MAX_PINS → ⊥
none_not opens none full = omega arith

pub turn_happens : {t : Table} {m : Memory} {a : ℕ} {made : Call} {at : Place} {q later : List Key} {event : Event} {next : Option Place} {memory : Memory}
    → Turn t m a made at q (Some event) next later memory → Happens t event (after_event t event)
turn_happens {t = t} (load_crowded key row is full) = (by_row t key (call.OpenKey key) reply.Crowded (Some row) is full, refl)
turn_happens {t = t} (load_stale key is) = (by_row t key (call.OpenKey key) reply.Stale None is tt, refl)
turn_happens {t = t} (pins key seen opened) =
    (by_row t key (call.OpenKey key) reply.Done (Some opened.row) opened.row_is (opened.stays, λ full. few_not _ _ opened.pins opened.few full), refl)
turn_happens {t = t} (finds_none key can is) = (by_row t key (call.OpenKey key) reply.Stale None is tt, refl)
turn_happens {t = t} (locked_crowded key row is full) = (by_row t key (call.OpenKey key) reply.Crowded (Some row) is full, refl)
turn_happens {t = t} (locked_stale key row is awaits) = (by_row t key (call.OpenKey key) reply.Stale (Some row) is awaits, refl)
turn_happens {t = t} (pins_locked key seen opened) =
    (by_row t key (call.OpenKey key) reply.Done (Some opened.row) opened.row_is (opened.stays, λ full. few_not _ _ opened.pins opened.few full), refl)
turn_happens {t = t} (installs key dead has) = (
  by_row t key (call.OpenKey key) reply.Done (Some dead.row) dead.row_is
      ((λ awaits. linked_not _ dead.links awaits.0), λ full. none_not _ dead.opens full),
  refl,
)
turn_happens {t = t} (unpins key held) = (by_row t key (call.CloseKey key) reply.Done (Some held.row) held.row_is held.some, refl)
turn_happens (reads key answer can permits) = (permits, refl)
turn_happens (refuses made key answer is permits none) = (permits, refl)
turn_happens (changes made key is permits) = (permits, refl)
turn_happens (frees_one made g key others is group awaits) = (awaits, refl)
turn_happens (grow_refuses key count answer permits none) = (permits, refl)
turn_happens (grows key count permits) = (permits, refl)
turn_happens (makes made g key is permits) = (permits, refl)
turn_happens (makes_none made g is permits) = (permits, refl)
turn_happens next_empty = (tt, refl)
turn_happens (frees_head key keys awaits) = (awaits, refl)
turn_happens (passes_last key) = (tt, refl)
turn_happens (ends_flush g) = (tt, refl)
turn_happens (ends_reclaim g) = (tt, refl)
turn_happens (is_answered call.Sync at answer is stands permits) = (permits, refl)
turn_happens (is_answered call.Home at answer is stands permits) = (permits, refl)
turn_happens (is_answered _ at answer is stands permits) = absurd (false≢true is)

-- an entry of a call is made by an actor that has the call's hold
pub turn_by : {t : Table} {m : Memory} {a : ℕ} {made : Call} {at : Place} {q later : List Key} {event : Event} {next : Option Place} {memory : Memory}
    → Turn t m a made at q (Some event) next later memory → (entries : List Entry) → IsHeld entries a (key_of made) → IsByHolder entries a event
turn_by (frees_one made g key others is group awaits) entries held = tt
turn_by (frees_head key keys awaits) entries held = tt
turn_by (load_crowded key row is full) entries held = held
turn_by (load_stale key is) entries held = held
turn_by (pins key seen opened) entries held = held
turn_by (finds_none key can is) entries held = held
turn_by (locked_crowded key row is full) entries held = held
turn_by (locked_stale key row is awaits) entries held = held
turn_by (pins_locked key seen opened) entries held = held
turn_by (installs key dead has) entries held = held
turn_by (unpins key is) entries held = held
turn_by (reads key answer can permits) entries held = held
turn_by (refuses made key answer is permits none) entries held = held
turn_by (changes made key is permits) entries held = held
turn_by (grow_refuses key count answer permits none) entries held = held
turn_by (grows key count permits) entries held = held
turn_by (makes made g key is permits) entries held = held
turn_by (makes_none made g is permits) entries held = held
turn_by next_empty entries held = held
turn_by (passes_last key) entries held = held
turn_by (ends_flush g) entries held = held
turn_by (ends_reclaim g) entries held = held
turn_by (is_answered made at answer is stands permits) entries held = held

-- the history after a turn is legal
pub legal_kept : (start : Table) (h : History) (m : Memory) (a : ℕ) (made : Call) (at : Place) (begin : ℕ) (q later : List Key) (event : Option Event) (next : Option Place) (memory : Memory)
    → Within start h m → IsHeld h.entries a (key_of made) → Turn h.table m a made at q event next later memory
    → LegalHistory start (told_if a begin event h).entries (told_if a begin event h).table
legal_kept start h m a made at begin q later None next memory inv held turn = inv.legal
legal_kept start h m a made at begin q later (Some event) next memory inv held turn =
    legal_push start h.entries h.table (after_event h.table event) (record { actor = a; event = event }) inv.legal (turn_happens turn) (turn_by turn h.entries held)
