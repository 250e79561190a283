-- The turns of opens, closes and stats.
use Rattle.std.proofs.Common.{◌≡◌, ◌<◌, ◌-◌, ◌==◌, ℕ, true, false, List, Option, None, Some, IfSome, IsSome, if◌then◌else◌, length, refl, sym, ap, subst, ◌∙◌, arith}
use Rattle.std.proofs.lemmas.Bool.{and_parts, eqb-true, false≢true}
use Rattle.life_limits.specs.declared.TheConstants.{MAX_PINS}
use Rattle.life_table.specs.declared.key.Key.{Key}
use Rattle.life_table.specs.declared.types.Row.{Row}
use Rattle.life_table.specs.declared.types.Call.TheVariants as call
use Rattle.life_table.specs.declared.types.Reply.TheVariants as reply
use Rattle.life_table.specs.declared.types.Event.TheVariants.{Called}
use Rattle.life_table.specs.declared.table.Table.{Table}
use Rattle.life_table.specs.Table.{group_number, row_of}
use Rattle.life_table.specs.Legal.{IsOpen}
use Rattle.life_table.specs.Replies.{reply_of}
use Rattle.slot_words.specs.declared.word.Word.{Word}
use Rattle.slot_words.specs.declared.sight.Sight.{Sight}
use Rattle.slot_words.specs.declared.sight.Sight.TheVariants as sight
use Rattle.slot_words.specs.Steps.{after_close, after_install, after_open, can_open, is_cached, sight_of}
use Rattle.actor_world.specs.declared.memory.Place.TheVariants as place
use Rattle.actor_world.specs.declared.memory.Doing.{Doing}
use Rattle.actor_world.specs.declared.memory.Actor.{Actor}
use Rattle.actor_world.specs.declared.memory.Slot.{Slot}
use Rattle.actor_world.specs.declared.memory.Memory.{Memory}
use Rattle.actor_world.specs.Caches.{actor_at, bring_in, brought, cached_word, ended, idle_actor, is_of_geometry, locked, moved_to, put_inode, put_word, same_word, slot_at, with_actor, with_queue}
use Rattle.actor_world.specs.World.{History}
use Rattle.actor_world.specs.Words.{WordSays}
use Rattle.actor_world.specs.Moves.{answers, close_move, found, load, open_move, pin, pin_locked, release_queue, saw, saw_locked, silent, stat_move}
use Rattle.actor_world.proofs.LiveWords.{Opened, crowded, opened}
use Rattle.actor_world.proofs.Lists.{read_same, set_twice}
use Rattle.actor_world.proofs.Sights.{can_open_is, cached_is, closed_word, installed_word, opened_word, pinned_is, same_words, sees_awaits, sees_crowded, sees_open, sees_other}
use Rattle.actor_world.proofs.Slots.{placed_has_slot, slot_same, word_over_inode}
use Rattle.actor_world.proofs.Turns.{CanLock, DeadRow, HasSlot, HeldWord, Turned, finds_none, finds_row, installs, load_crowded, load_finds, load_pins, load_stale, locked_crowded, locked_installs, locked_pins, locked_stale, pin_misses, pin_misses_locked, pins, pins_locked, reads, unpins, with_word}
use Rattle.actor_world.proofs.TurnsFound.{Laws, awaits_row, ends, goes, no_row, not_live, row_has_slot, table_now}
use Rattle.actor_world.proofs.Within.{Within}

-- a key with a row
pub the_row : (o : Option Row) → IsSome o → (row : Row) × (o ≡ Some row)
the_row None some = absurd (false≢true some)
the_row (Some row) some = (row, refl)

full_is : (start : Table) (h : History) (m : Memory) → Within start h m → (key : Key) → sight_of key.generation (cached_word m key.number) ≡ sight.Crowded
    → (row : Row) × (row_of h.table key ≡ Some row) × (row.opens ≡ MAX_PINS)
full_is start h m inv key seen =
    let parts = and_parts (is_cached key.generation (cached_word m key.number)) ((cached_word m key.number).pins == MAX_PINS) (sees_crowded key.generation (cached_word m key.number) seen) in
    crowded start h m inv key (cached_is key.generation (cached_word m key.number) parts.0) (eqb-true (cached_word m key.number).pins MAX_PINS parts.1)

open_is : (start : Table) (h : History) (m : Memory) → Within start h m → (key : Key) → sight_of key.generation (cached_word m key.number) ≡ sight.Open → Opened h.table m key
open_is start h m inv key seen =
    opened start h m inv key (can_open_is key.generation (cached_word m key.number) (sees_open key.generation (cached_word m key.number) seen))

-- ---- without the lock

load_turn : (start : Table) (h : History) (m : Memory) → Within start h m → (a : ℕ) (queue : List Key) (begin : ℕ) → (actor_at m a).queue ≡ queue → (key : Key)
    → is_of_geometry h.table key.number ≡ true → (s : Sight) → sight_of key.generation (cached_word m key.number) ≡ s
    → Turned h.table m a (call.OpenKey key) place.Load begin queue (saw s (cached_word m key.number) a (record { call = call.OpenKey key; place = place.Load; «from» = begin }) m)
load_turn start h m inv a queue begin queue_is key inside sight.Open seen = goes None _ m (load_pins key inside seen) queue_is
load_turn start h m inv a queue begin queue_is key inside sight.Crowded seen =
    let full = full_is start h m inv key seen in
    ends _ m (load_crowded key full.0 full.1 full.2) queue_is
load_turn start h m inv a queue begin queue_is key inside sight.Awaits seen = goes None _ m (load_finds key inside) queue_is
load_turn start h m inv a queue begin queue_is key inside sight.Other seen = goes None _ m (load_finds key inside) queue_is

pub first_turn : Laws → (start : Table) (h : History) (m : Memory) → Within start h m → (a : ℕ) (queue : List Key) (begin : ℕ) → (actor_at m a).queue ≡ queue → (key : Key)
    → Turned h.table m a (call.OpenKey key) place.Load begin queue (load key a (record { call = call.OpenKey key; place = place.Load; «from» = begin }) h.table m)
first_turn laws start h m inv a queue begin queue_is key =
    let d : Doing = record { call = call.OpenKey key; place = place.Load; «from» = begin } in
    elim (is_of_geometry h.table key.number) as (λ b. is_of_geometry h.table key.number ≡ b
    → Turned h.table m a (call.OpenKey key) place.Load begin queue (if b then saw (sight_of key.generation (cached_word m key.number)) (cached_word m key.number) a d m else answers d reply.Stale (ended a m))) [
      | true ↦ λ inside. load_turn start h m inv a queue begin queue_is key inside (sight_of key.generation (cached_word m key.number)) refl
      | false ↦ λ outside. ends _ m (load_stale key (no_row h.table key (table_now laws start h m inv) outside (row_of h.table key) refl)) queue_is
    ] refl

-- the word that was seen is there still
seen_there : (start : Table) (h : History) (m : Memory) → Within start h m → (key : Key) (seen : Word) → sight_of key.generation seen ≡ sight.Open
    → same_word (cached_word m key.number) seen ≡ true → Opened h.table m key
seen_there start h m inv key seen shows same =
    open_is start h m inv key (ap (λ (w : Word). sight_of key.generation w) (same_words (cached_word m key.number) seen same) ∙ shows)

can_open_there : (t : Table) (m : Memory) (key : Key) (seen : Word) → sight_of key.generation seen ≡ sight.Open → same_word (cached_word m key.number) seen ≡ true
    → can_open key.generation (cached_word m key.number) ≡ true
can_open_there t m key seen shows same =
    sees_open key.generation (cached_word m key.number) (ap (λ (w : Word). sight_of key.generation w) (same_words (cached_word m key.number) seen same) ∙ shows)

pub pin_turn : (start : Table) (h : History) (m : Memory) → Within start h m → (a : ℕ) (queue : List Key) (begin : ℕ) → (actor_at m a).queue ≡ queue → (key : Key) (seen : Word)
    → sight_of key.generation seen ≡ sight.Open
    → Turned h.table m a (call.OpenKey key) (place.Pin seen) begin queue (pin key seen a (record { call = call.OpenKey key; place = place.Pin seen; «from» = begin }) m)
pin_turn start h m inv a queue begin queue_is key seen shows =
    let d : Doing = record { call = call.OpenKey key; place = place.Pin seen; «from» = begin } in
    elim (same_word (cached_word m key.number) seen) as (λ b. same_word (cached_word m key.number) seen ≡ b
    → Turned h.table m a (call.OpenKey key) (place.Pin seen) begin queue
    (if b then answers d reply.Done (ended a (put_word key.number (after_open key.generation (cached_word m key.number)) m)) else silent (moved_to a d place.Find m))) [
      | true ↦ λ same.
          subst (λ (o : Option Word). Turned h.table m a (call.OpenKey key) (place.Pin seen) begin queue (answers d reply.Done (ended a (put_word key.number o m))))
          (sym (opened_word key.generation (cached_word m key.number) (can_open_there h.table m key seen shows same)))
          (ends _ _ (pins key seen (seen_there start h m inv key seen shows same)) queue_is)
      | false ↦ λ differs. goes None _ m (pin_misses key seen differs) queue_is
    ] refl

-- ---- under the lock

pub find_turn : (h : History) (m : Memory) (a : ℕ) (queue : List Key) (begin : ℕ) → (actor_at m a).queue ≡ queue → (key : Key) → CanLock m (group_number key) → (o : Option Row) → row_of h.table key ≡ o
    → Turned h.table m a (call.OpenKey key) place.Find begin queue (found o a (record { call = call.OpenKey key; place = place.Find; «from» = begin }) (locked a (group_number key) m))
find_turn h m a queue begin queue_is key can None is = goes _ _ _ (finds_none key can is) queue_is
find_turn h m a queue begin queue_is key can (Some row) is = goes None _ _ (finds_row key row can is) queue_is

pub look_turn : Laws → (start : Table) (h : History) (m : Memory) → Within start h m → (a : ℕ) (queue : List Key) (begin : ℕ) → (actor_at m a).queue ≡ queue → (key : Key)
    → WordSays h.table (cached_word m key.number) key.number → (row : Row) → row_of h.table key ≡ Some row → (s : Sight) → sight_of key.generation (cached_word m key.number) ≡ s
    → Turned h.table m a (call.OpenKey key) place.LoadLocked begin queue (saw_locked s (cached_word m key.number) a (record { call = call.OpenKey key; place = place.LoadLocked; «from» = begin }) m)
look_turn laws start h m inv a queue begin queue_is key right row is sight.Open seen = goes None _ m (locked_pins key row is seen) queue_is
look_turn laws start h m inv a queue begin queue_is key right row is sight.Crowded seen =
    let full = full_is start h m inv key seen in
    goes _ _ m (locked_crowded key full.0 full.1 full.2) queue_is
look_turn laws start h m inv a queue begin queue_is key right row is sight.Awaits seen =
    goes _ _ m (locked_stale key row is (awaits_row h.table m key row is right (sees_awaits key.generation (cached_word m key.number) seen))) queue_is
look_turn laws start h m inv a queue begin queue_is key right row is sight.Other seen =
    goes None _ m (locked_installs key row is
    (not_live laws h.table m key row (table_now laws start h m inv) is right (sees_other key.generation (cached_word m key.number) seen))) queue_is

pub pin_locked_turn : (start : Table) (h : History) (m : Memory) → Within start h m → (a : ℕ) (queue : List Key) (begin : ℕ) → (actor_at m a).queue ≡ queue → (key : Key) (seen : Word)
    → sight_of key.generation seen ≡ sight.Open → (row : Row) → row_of h.table key ≡ Some row
    → Turned h.table m a (call.OpenKey key) (place.PinLocked seen) begin queue (pin_locked key seen a (record { call = call.OpenKey key; place = place.PinLocked seen; «from» = begin }) m)
pin_locked_turn start h m inv a queue begin queue_is key seen shows row is =
    let d : Doing = record { call = call.OpenKey key; place = place.PinLocked seen; «from» = begin } in
    elim (same_word (cached_word m key.number) seen) as (λ b. same_word (cached_word m key.number) seen ≡ b
    → Turned h.table m a (call.OpenKey key) (place.PinLocked seen) begin queue
    (if b then answers d reply.Done (moved_to a d (place.Leave reply.Done) (put_word key.number (after_open key.generation (cached_word m key.number)) m)) else silent (moved_to a d place.LoadLocked m))) [
      | true ↦ λ same.
          subst (λ (o : Option Word). Turned h.table m a (call.OpenKey key) (place.PinLocked seen) begin queue (answers d reply.Done (moved_to a d (place.Leave reply.Done) (put_word key.number o m))))
          (sym (opened_word key.generation (cached_word m key.number) (can_open_there h.table m key seen shows same)))
          (goes _ _ _ (pins_locked key seen (seen_there start h m inv key seen shows same)) queue_is)
      | false ↦ λ differs. goes None _ m (pin_misses_locked key seen row is differs) queue_is
    ] refl

pub install_turn : Laws → (start : Table) (h : History) (m : Memory) → Within start h m → (a : ℕ) (queue : List Key) (begin : ℕ) → (actor_at m a).queue ≡ queue → (key : Key)
    → DeadRow h.table m key
    → IfSome (open_move key place.Install a (record { call = call.OpenKey key; place = place.Install; «from» = begin }) h.table m) (Turned h.table m a (call.OpenKey key) place.Install begin queue)
install_turn laws start h m inv a queue begin queue_is key dead =
    let d : Doing = record { call = call.OpenKey key; place = place.Install; «from» = begin } in
    let has : HasSlot m key.number = row_has_slot h.table m key dead.row (table_now laws start h m inv) dead.row_is (placed_has_slot h.table m key.number inv.shaped) in
    let inode = brought (slot_at m key.number).inode in
    let word : Word = record (cached_word m key.number) { generation = key.generation; live = true; unlinked = false; pins = 1 } in
    let same : cached_word (bring_in key.number m) key.number ≡ cached_word m key.number =
    ap (λ (s : Slot). s.word) (slot_same m key.number (record { word = cached_word m key.number; inode = inode }) has) in
    let put : put_word key.number (after_install key.generation false (cached_word (bring_in key.number m) key.number)) (bring_in key.number m)
    ≡ put_word key.number (Some word) (put_inode key.number inode m) =
    ap (λ (w : Word). put_word key.number (after_install key.generation false w) (bring_in key.number m)) same
    ∙ ap (λ (o : Option Word). put_word key.number o (bring_in key.number m)) (installed_word key.generation false (cached_word m key.number) dead.dead) in
    subst (λ (n : Memory). Turned h.table m a (call.OpenKey key) place.Install begin queue (answers d reply.Done (moved_to a d (place.Leave reply.Done) n)))
    (sym (put ∙ word_over_inode m key.number inode word has))
    (goes _ _ _ (installs key dead has) queue_is)

-- ---- close and stat

-- the queue changes, and the call ends
pub queue_and_end : (m : Memory) (a : ℕ) (queue : List Key) → a < length m.actors → ended a (with_queue a queue m) ≡ with_actor a (record { doing = None; queue = queue }) m
queue_and_end m a queue low =
    let actor : Actor = record { doing = (actor_at m a).doing; queue = queue } in
    ap (λ (x : Actor). with_actor a (record { doing = None; queue = x.queue }) (with_queue a queue m)) (read_same m.actors a actor idle_actor low)
    ∙ ap (λ (actors : List Actor). record { actors = actors; groups = m.groups }) (set_twice m.actors a actor (record { doing = None; queue = queue }))

pub unpin_turn : (t : Table) (m : Memory) (a : ℕ) (queue : List Key) (begin : ℕ) → a < length m.actors → (actor_at m a).queue ≡ queue → (key : Key) → HeldWord t m key
    → IfSome (close_move key place.Unpin a (record { call = call.CloseKey key; place = place.Unpin; «from» = begin }) t m) (Turned t m a (call.CloseKey key) place.Unpin begin queue)
unpin_turn t m a queue begin low queue_is key held =
    let word : Word = cached_word m key.number in
    let later : Word = record word { pins = word.pins - 1 } in
    let put : after_close word ≡ Some later = closed_word word (pinned_is word held.live (omega (arith, held.pins, held.some))) in
    record {
      event = Some (Called (call.CloseKey key) reply.Done);
      next = None;
      later = release_queue key word queue;
      memory = with_word key.number later m;
      turn = unpins key held;
      event_is = refl;
      memory_is =
          ap (λ (o : Option Word). ended a (with_queue a (release_queue key word (actor_at m a).queue) (put_word key.number o m))) put
          ∙ queue_and_end (with_word key.number later m) a (release_queue key word (actor_at m a).queue) low
          ∙ ap (λ (q : List Key). with_actor a (record { doing = None; queue = release_queue key word q }) (with_word key.number later m)) queue_is;
    }

pub read_turn : (t : Table) (m : Memory) (a : ℕ) (queue : List Key) (begin : ℕ) → (actor_at m a).queue ≡ queue → (key : Key) → CanLock m (group_number key)
    → (Laws) → IsOpen (row_of t key)
    → IfSome (stat_move key place.Read a (record { call = call.Stat key; place = place.Read; «from» = begin }) t m) (Turned t m a (call.Stat key) place.Read begin queue)
read_turn t m a queue begin queue_is key can laws held =
    goes _ _ _ (reads key (reply_of t (call.Stat key)) can (laws.computed t (call.Stat key) tt held)) queue_is
