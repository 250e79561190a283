-- The turns of gcs, flushes and reclaims.
use Rattle.std.proofs.Common.{◌≡◌, ◌<◌, ℕ, true, false, List, [], ◌∷◌, Option, None, Some, IfSome, IsSomeAnd, if◌then◌else◌, length, refl, sym, ap, subst, ◌∙◌}
use Rattle.std.proofs.lemmas.Bool.{and_parts}
use Rattle.life_table.specs.declared.key.Key.{Key}
use Rattle.life_table.specs.declared.types.Row.{Row}
use Rattle.life_table.specs.declared.types.Call.TheVariants as call
use Rattle.life_table.specs.declared.types.Reply.TheVariants as reply
use Rattle.life_table.specs.declared.types.Event.TheVariants.{Called}
use Rattle.life_table.specs.declared.table.Table.{Table}
use Rattle.life_table.specs.Table.{group_number, row_of}
use Rattle.life_table.specs.Legal.{Awaits}
use Rattle.slot_words.specs.declared.word.Word.{Word}
use Rattle.slot_words.specs.Steps.{after_retire, is_idle}
use Rattle.actor_world.specs.declared.memory.Place.{Place}
use Rattle.actor_world.specs.declared.memory.Place.TheVariants as place
use Rattle.actor_world.specs.declared.memory.Residence.TheVariants.{Absent}
use Rattle.actor_world.specs.declared.memory.Doing.{Doing}
use Rattle.actor_world.specs.declared.memory.Actor.{Actor}
use Rattle.actor_world.specs.declared.memory.Memory.{Memory}
use Rattle.actor_world.specs.Caches.{actor_at, cached_word, idle_actor, locked, moved_to, put_word, unlocked, with_actor, with_queue}
use Rattle.actor_world.specs.Moves.{flush_move, gc_move, head_move, head_place, passed, reclaim_move, retired, silent, with_inodes}
use Rattle.actor_world.specs.Words.{KillDue}
use Rattle.actor_world.proofs.Lists.{read_same, set_twice}
use Rattle.actor_world.proofs.OpenTurns.{queue_and_end}
use Rattle.actor_world.proofs.RoomTurns.{kill_awaits}
use Rattle.actor_world.proofs.Sights.{killed_word}
use Rattle.actor_world.proofs.Slots.{inode_over_word, live_has_slot}
use Rattle.actor_world.proofs.Turns.{CanLock, Turned, copies, ends_flush, ends_reclaim, frees_head, kills_head, locks_flush, locks_reclaim, next_empty, next_none, next_row, passes, passes_last, retires, retires_none}
use Rattle.actor_world.proofs.TurnsFound.{ends, goes}

-- ---- gc

next_turn : (t : Table) (m : Memory) (a : ℕ) (begin : ℕ) (key : Key) (keys : List Key) → (actor_at m a).queue ≡ key ∷ keys → CanLock m (group_number key)
    → (o : Option Row) → row_of t key ≡ o
    → Turned t m a call.Gc place.Next begin (key ∷ keys) (silent (moved_to a (record { call = call.Gc; place = place.Next; «from» = begin }) (head_place o) (locked a (group_number key) m)))
next_turn t m a begin key keys queue_is can None is = goes _ _ _ (next_none key keys can is) queue_is
next_turn t m a begin key keys queue_is can (Some row) is = goes _ _ _ (next_row key keys row can is) queue_is

kill_head_turn : (t : Table) (m : Memory) (a : ℕ) (begin : ℕ) (key : Key) (keys : List Key) → (actor_at m a).queue ≡ key ∷ keys → KillDue t m key
    → IfSome (head_move key keys place.KillHead a (record { call = call.Gc; place = place.KillHead; «from» = begin }) t m) (Turned t m a call.Gc place.KillHead begin (key ∷ keys))
kill_head_turn t m a begin key keys queue_is due =
    subst (λ (o : Option Word). Turned t m a call.Gc place.KillHead begin (key ∷ keys)
    (silent (moved_to a (record { call = call.Gc; place = place.KillHead; «from» = begin }) place.Pass (put_word key.number o m))))
    (sym (killed_word key.generation (cached_word m key.number) (kill_awaits t m key due)))
    (goes _ _ _ (kills_head key keys due) queue_is)

-- the queue changes, and the call goes on
queue_and_go : (m : Memory) (a : ℕ) (queue : List Key) (d : Doing) (next : Place) → a < length m.actors
    → moved_to a d next (with_queue a queue m) ≡ with_actor a (record { doing = Some (record { call = d.call; place = next; «from» = d.«from» }); queue = queue }) m
queue_and_go m a queue d next low =
    let actor : Actor = record { doing = (actor_at m a).doing; queue = queue } in
    let later : List Key → Actor = λ q. record { doing = Some (record { call = d.call; place = next; «from» = d.«from» }); queue = q } in
    ap (λ (x : Actor). with_actor a (later x.queue) (with_queue a queue m)) (read_same m.actors a actor idle_actor low)
    ∙ ap (λ (actors : List Actor). record { actors = actors; groups = m.groups }) (set_twice m.actors a actor (later queue))

pass_turn : (t : Table) (m : Memory) (a : ℕ) (begin : ℕ) (key : Key) (keys : List Key) → a < length m.actors
    → Turned t m a call.Gc place.Pass begin (key ∷ keys) (passed key keys a (record { call = call.Gc; place = place.Pass; «from» = begin }) m)
pass_turn t m a begin key [] low = record {
  event = Some (Called call.Gc reply.Done);
  next = None;
  later = [];
  memory = unlocked (group_number key) m;
  turn = passes_last key;
  event_is = refl;
  memory_is = queue_and_end (unlocked (group_number key) m) a [] low;
}
pass_turn t m a begin key (next ∷ keys) low = record {
  event = None;
  next = Some place.Next;
  later = next ∷ keys;
  memory = unlocked (group_number key) m;
  turn = passes key next keys;
  event_is = refl;
  memory_is = queue_and_go (unlocked (group_number key) m) a (next ∷ keys) (record { call = call.Gc; place = place.Pass; «from» = begin }) place.Next low;
}

-- what is so of the place of a gc, as far as its moves look at it
pub record HeadFacts (t : Table) (m : Memory) (key : Key) (at : Place) : Type 0 where
  pub lock : at ≡ place.Next → CanLock m (group_number key)
  pub free : at ≡ place.FreeHead → IsSomeAnd (row_of t key) Awaits
  pub kill : at ≡ place.KillHead → KillDue t m key

pub gc_turn : (t : Table) (m : Memory) (a : ℕ) (begin : ℕ) → a < length m.actors → (queue : List Key) → (actor_at m a).queue ≡ queue → (at : Place)
    → ((key : Key) (keys : List Key) → queue ≡ key ∷ keys → HeadFacts t m key at)
    → IfSome (gc_move queue at a (record { call = call.Gc; place = at; «from» = begin }) t m) (Turned t m a call.Gc at begin queue)
gc_turn t m a begin low [] queue_is place.Next facts = ends _ _ next_empty queue_is
gc_turn t m a begin low [] queue_is _ facts = tt
gc_turn t m a begin low (key ∷ keys) queue_is place.Next facts = next_turn t m a begin key keys queue_is ((facts key keys refl).lock refl) (row_of t key) refl
gc_turn t m a begin low (key ∷ keys) queue_is place.FreeHead facts = goes _ _ _ (frees_head key keys ((facts key keys refl).free refl)) queue_is
gc_turn t m a begin low (key ∷ keys) queue_is place.KillHead facts = kill_head_turn t m a begin key keys queue_is ((facts key keys refl).kill refl)
gc_turn t m a begin low (key ∷ keys) queue_is place.Pass facts = pass_turn t m a begin key keys low
gc_turn t m a begin low (key ∷ keys) queue_is _ facts = tt

-- ---- flush and reclaim

pub flush_turn : (t : Table) (m : Memory) (a : ℕ) (queue : List Key) (begin : ℕ) → (actor_at m a).queue ≡ queue → (g : ℕ) (at : Place) → (at ≡ place.LockFlush → CanLock m g)
    → IfSome (flush_move g at a (record { call = call.FlushInodes g; place = at; «from» = begin }) t m) (Turned t m a (call.FlushInodes g) at begin queue)
flush_turn t m a queue begin queue_is g place.LockFlush can = goes _ _ _ (locks_flush g (can refl)) queue_is
flush_turn t m a queue begin queue_is g place.Copy can = goes _ _ _ (copies g) queue_is
flush_turn t m a queue begin queue_is g place.End can = ends _ _ (ends_flush g) queue_is
flush_turn t m a queue begin queue_is g _ can = tt

retire_turn : (t : Table) (m : Memory) (a : ℕ) (queue : List Key) (begin : ℕ) → (actor_at m a).queue ≡ queue → (g number : ℕ) (others : List ℕ)
    → Turned t m a (call.Reclaim g) (place.Retire number others) begin queue
    (silent (moved_to a (record { call = call.Reclaim g; place = place.Retire number others; «from» = begin }) (with_inodes others) (retired number (after_retire (cached_word m number)) m)))
retire_turn t m a queue begin queue_is g number others =
    let d : Doing = record { call = call.Reclaim g; place = place.Retire number others; «from» = begin } in
    let word : Word = cached_word m number in
    let later : Word = record word { live = false } in
    elim (is_idle word) as (λ b. is_idle word ≡ b → Turned t m a (call.Reclaim g) (place.Retire number others) begin queue
    (silent (moved_to a d (with_inodes others) (retired number (if b then Some later else None) m)))) [
      | true ↦ λ idle.
          let live = (and_parts word.live _ (and_parts _ _ idle).0).0 in
          subst (λ (n : Memory). Turned t m a (call.Reclaim g) (place.Retire number others) begin queue (silent (moved_to a d (with_inodes others) n)))
          (sym (inode_over_word m number Absent later (live_has_slot m number live)))
          (goes _ _ _ (retires g number others idle) queue_is)
      | false ↦ λ busy. goes _ _ _ (retires_none g number others busy) queue_is
    ] refl

pub reclaim_turn : (t : Table) (m : Memory) (a : ℕ) (queue : List Key) (begin : ℕ) → (actor_at m a).queue ≡ queue → (g : ℕ) (at : Place) → (at ≡ place.LockReclaim → CanLock m g)
    → IfSome (reclaim_move g at a (record { call = call.Reclaim g; place = at; «from» = begin }) t m) (Turned t m a (call.Reclaim g) at begin queue)
reclaim_turn t m a queue begin queue_is g place.LockReclaim can = goes _ _ _ (locks_reclaim g (can refl)) queue_is
reclaim_turn t m a queue begin queue_is g (place.Retire number others) can = retire_turn t m a queue begin queue_is g number others
reclaim_turn t m a queue begin queue_is g place.End can = ends _ _ (ends_reclaim g) queue_is
reclaim_turn t m a queue begin queue_is g _ can = tt
