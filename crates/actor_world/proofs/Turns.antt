-- The ways in which a step goes, each with what it finds.
use Rattle.std.proofs.Common.{◌≡◌, ◌<◌, ◌≤◌, ◌+◌, ◌-◌, ◌%◌, ◌/◌, ℕ, true, false, List, [], ◌∷◌, Option, None, Some, IsSomeAnd, length}
use Rattle.life_limits.specs.declared.TheConstants.{GROUP_NUMBERS, MAX_PINS}
use Rattle.life_table.specs.declared.key.Key.{Key}
use Rattle.life_table.specs.declared.types.Row.{Row}
use Rattle.life_table.specs.declared.types.Call.{Call}
use Rattle.life_table.specs.declared.types.Call.TheVariants as call
use Rattle.life_table.specs.declared.types.Reply.{Reply}
use Rattle.life_table.specs.declared.types.Reply.TheVariants as reply
use Rattle.life_table.specs.declared.types.Event.{Event}
use Rattle.life_table.specs.declared.types.Event.TheVariants.{Called, Freed}
use Rattle.life_table.specs.declared.table.Table.{Table}
use Rattle.life_table.specs.Table.{group_number, row_of}
use Rattle.life_table.specs.Legal.{Awaits, Permits}
use Rattle.life_table.specs.History.{changed}
use Rattle.slot_words.specs.declared.word.Word.{Word}
use Rattle.slot_words.specs.declared.sight.Sight.TheVariants.{Open}
use Rattle.slot_words.specs.Steps.{is_idle, sight_of}
use Rattle.actor_world.specs.declared.memory.Place.{Place}
use Rattle.actor_world.specs.declared.memory.Place.TheVariants as place
use Rattle.actor_world.specs.declared.memory.Residence.TheVariants.{Absent}
use Rattle.actor_world.specs.declared.memory.Actor.{Actor}
use Rattle.actor_world.specs.declared.memory.Memory.{Memory}
use Rattle.actor_world.specs.Caches.{brought, cache_at, cached_word, clean_of, copy_all, is_of_geometry, locked, make_dirty, same_word, slot_at, unlocked, with_actor, with_slot}
use Rattle.actor_world.specs.Moves.{Move, group_of_call, is_log_call, links_of, makes_unlinked, place_after_change, release_queue, rows_to_free, sets_mark, stands_at, with_inodes, with_rows_to_free}
use Rattle.actor_world.specs.Words.{InstallDue, KillDue, MarkDue}
use Rattle.actor_world.proofs.LiveWords.{Opened}

-- another word at a number
abbrev pub with_word : ℕ → Word → Memory → Memory
with_word number word m = with_slot number (record { word = word; inode = (slot_at m number).inode }) m

-- the slot of a number is there
pub record HasSlot (m : Memory) (number : ℕ) : Type 0 where
  pub group : number / GROUP_NUMBERS < length m.groups
  pub slot : number % GROUP_NUMBERS < length (cache_at m (number / GROUP_NUMBERS)).slots

-- the lock of a group can be taken
pub record CanLock (m : Memory) (g : ℕ) : Type 0 where
  pub there : g < length m.groups
  pub free : (cache_at m g).holder ≡ None

-- the word of a key that is held
pub record HeldWord (t : Table) (m : Memory) (key : Key) : Type 0 where
  pub row : Row
  pub row_is : row_of t key ≡ Some row
  pub live : (cached_word m key.number).live ≡ true
  pub generation : (cached_word m key.number).generation ≡ key.generation
  pub pins : (cached_word m key.number).pins ≡ row.opens
  pub some : 1 ≤ row.opens

-- the row of a key whose word is not live
pub record DeadRow (t : Table) (m : Memory) (key : Key) : Type 0 where
  pub row : Row
  pub row_is : row_of t key ≡ Some row
  pub links : 1 ≤ row.links
  pub opens : row.opens ≡ 0
  pub dead : (cached_word m key.number).live ≡ false

-- the key of a link, an unlink or a cut
abbrev pub changer_key : Call → Option Key
changer_key (call.Link key) = Some key
changer_key (call.Unlink key) = Some key
changer_key (call.Cut key count) = Some key
changer_key _ = None

-- the group of a create or a tmpfile
abbrev pub maker_group : Call → Option ℕ
maker_group (call.Create g) = Some g
maker_group (call.Tmpfile g) = Some g
maker_group _ = None

-- the group of a call that makes room
abbrev pub room_group : Call → Option ℕ
room_group (call.Create g) = Some g
room_group (call.Tmpfile g) = Some g
room_group (call.Grow key count) = Some (group_number key)
room_group _ = None

-- What an actor's step does: the call and the place, and the queue before; what happens; where the call goes on, if it does;
-- the queue after; and the memory after, but for the actor itself.
pub data Turn (t : Table) (m : Memory) (a : ℕ) : Call → Place → List Key → Option Event → Option Place → List Key → Memory → Type 0 where
  load_pins : {q : List Key} → (key : Key) → is_of_geometry t key.number ≡ true → sight_of key.generation (cached_word m key.number) ≡ Open
      → Turn t m a (call.OpenKey key) place.Load q None (Some (place.Pin (cached_word m key.number))) q m
  load_crowded : {q : List Key} → (key : Key) → (row : Row) → row_of t key ≡ Some row → row.opens ≡ MAX_PINS
      → Turn t m a (call.OpenKey key) place.Load q (Some (Called (call.OpenKey key) reply.Crowded)) None q m
  load_finds : {q : List Key} → (key : Key) → is_of_geometry t key.number ≡ true → Turn t m a (call.OpenKey key) place.Load q None (Some place.Find) q m
  load_stale : {q : List Key} → (key : Key) → row_of t key ≡ None
      → Turn t m a (call.OpenKey key) place.Load q (Some (Called (call.OpenKey key) reply.Stale)) None q m
  pins : {q : List Key} → (key : Key) → (seen : Word) → Opened t m key
      → Turn t m a (call.OpenKey key) (place.Pin seen) q (Some (Called (call.OpenKey key) reply.Done)) None q
      (with_word key.number (record (cached_word m key.number) { pins = (cached_word m key.number).pins + 1 }) m)
  pin_misses : {q : List Key} → (key : Key) → (seen : Word) → same_word (cached_word m key.number) seen ≡ false → Turn t m a (call.OpenKey key) (place.Pin seen) q None (Some place.Find) q m
  finds_none : {q : List Key} → (key : Key) → CanLock m (group_number key) → row_of t key ≡ None
      → Turn t m a (call.OpenKey key) place.Find q (Some (Called (call.OpenKey key) reply.Stale)) (Some (place.Leave reply.Stale)) q (locked a (group_number key) m)
  finds_row : {q : List Key} → (key : Key) → (row : Row) → CanLock m (group_number key) → row_of t key ≡ Some row
      → Turn t m a (call.OpenKey key) place.Find q None (Some place.LoadLocked) q (locked a (group_number key) m)
  locked_pins : {q : List Key} → (key : Key) → (row : Row) → row_of t key ≡ Some row → sight_of key.generation (cached_word m key.number) ≡ Open
      → Turn t m a (call.OpenKey key) place.LoadLocked q None (Some (place.PinLocked (cached_word m key.number))) q m
  locked_crowded : {q : List Key} → (key : Key) → (row : Row) → row_of t key ≡ Some row → row.opens ≡ MAX_PINS
      → Turn t m a (call.OpenKey key) place.LoadLocked q (Some (Called (call.OpenKey key) reply.Crowded)) (Some (place.Leave reply.Crowded)) q m
  locked_stale : {q : List Key} → (key : Key) → (row : Row) → row_of t key ≡ Some row → Awaits row
      → Turn t m a (call.OpenKey key) place.LoadLocked q (Some (Called (call.OpenKey key) reply.Stale)) (Some (place.Leave reply.Stale)) q m
  locked_installs : {q : List Key} → (key : Key) → (row : Row) → row_of t key ≡ Some row → (cached_word m key.number).live ≡ false
      → Turn t m a (call.OpenKey key) place.LoadLocked q None (Some place.Install) q m
  pins_locked : {q : List Key} → (key : Key) → (seen : Word) → Opened t m key
      → Turn t m a (call.OpenKey key) (place.PinLocked seen) q (Some (Called (call.OpenKey key) reply.Done)) (Some (place.Leave reply.Done)) q
      (with_word key.number (record (cached_word m key.number) { pins = (cached_word m key.number).pins + 1 }) m)
  pin_misses_locked : {q : List Key} → (key : Key) → (seen : Word) → (row : Row) → row_of t key ≡ Some row → same_word (cached_word m key.number) seen ≡ false
      → Turn t m a (call.OpenKey key) (place.PinLocked seen) q None (Some place.LoadLocked) q m
  installs : {q : List Key} → (key : Key) → DeadRow t m key → HasSlot m key.number
      → Turn t m a (call.OpenKey key) place.Install q (Some (Called (call.OpenKey key) reply.Done)) (Some (place.Leave reply.Done)) q
      (with_slot key.number (record {
        word = record (cached_word m key.number) { generation = key.generation; live = true; unlinked = false; pins = 1 };
        inode = brought (slot_at m key.number).inode;
      }) m)
  leaves : {q : List Key} → (made : Call) → (answer : Reply) → (g : ℕ) → group_of_call q made ≡ Some g
      → Turn t m a made (place.Leave answer) q None None q (unlocked g m)
  unpins : {q : List Key} → (key : Key) → HeldWord t m key
      → Turn t m a (call.CloseKey key) place.Unpin q (Some (Called (call.CloseKey key) reply.Done)) None (release_queue key (cached_word m key.number) q)
      (with_word key.number (record (cached_word m key.number) { pins = (cached_word m key.number).pins - 1 }) m)
  reads : {q : List Key} → (key : Key) → (answer : Reply) → CanLock m (group_number key) → Permits t (call.Stat key) answer
      → Turn t m a (call.Stat key) place.Read q (Some (Called (call.Stat key) answer)) (Some (place.Leave answer)) q (locked a (group_number key) m)
  locks_change : {q : List Key} → (made : Call) → (key : Key) → changer_key made ≡ Some key → CanLock m (group_number key)
      → Turn t m a made place.Lock q None (Some place.Change) q (locked a (group_number key) m)
  refuses : {q : List Key} → (made : Call) → (key : Key) → (answer : Reply) → changer_key made ≡ Some key → Permits t made answer → changed made answer ≡ false
      → Turn t m a made place.Change q (Some (Called made answer)) (Some (place.Leave answer)) q m
  changes : {q : List Key} → (made : Call) → (key : Key) → changer_key made ≡ Some key → Permits t made reply.Done
      → Turn t m a made place.Change q (Some (Called made reply.Done)) (Some (place_after_change made reply.Done (links_of (row_of t key)))) q (make_dirty key.number m)
  marks : {q : List Key} → (made : Call) → (key : Key) → (row : Row) → (answer : Reply) → changer_key made ≡ Some key → MarkDue made t m key row
      → Turn t m a made (place.Mark answer) q None (Some (place.Leave answer)) q
      (with_word key.number (record (cached_word m key.number) { unlinked = sets_mark made }) m)
  locks_short : {q : List Key} → (made : Call) → (g : ℕ) → room_group made ≡ Some g → CanLock m g
      → Turn t m a made place.LockShort q None (Some (with_rows_to_free (rows_to_free made g t))) q (locked a g m)
  frees_one : {q : List Key} → (made : Call) → (g : ℕ) → (key : Key) → (others : List Key) → room_group made ≡ Some g → group_number key ≡ g → IsSomeAnd (row_of t key) Awaits
      → Turn t m a made (place.Free key others) q (Some (Freed key)) (Some (place.Kill key others)) q (make_dirty key.number m)
  kills : {q : List Key} → (made : Call) → (g : ℕ) → (key : Key) → (others : List Key) → room_group made ≡ Some g → KillDue t m key
      → Turn t m a made (place.Kill key others) q None (Some (with_rows_to_free others)) q
      (with_word key.number (record (cached_word m key.number) { live = false; unlinked = false }) m)
  grow_refuses : {q : List Key} → (key : Key) → (count : ℕ) → (answer : Reply) → Permits t (call.Grow key count) answer → changed (call.Grow key count) answer ≡ false
      → Turn t m a (call.Grow key count) place.Answer q (Some (Called (call.Grow key count) answer)) (Some (place.Leave answer)) q m
  grows : {q : List Key} → (key : Key) → (count : ℕ) → Permits t (call.Grow key count) reply.Done
      → Turn t m a (call.Grow key count) place.Answer q (Some (Called (call.Grow key count) reply.Done)) (Some (place.Leave reply.Done)) q (make_dirty key.number m)
  makes : {q : List Key} → (made : Call) → (g : ℕ) → (key : Key) → maker_group made ≡ Some g → Permits t made (reply.Made key)
      → Turn t m a made place.Answer q (Some (Called made (reply.Made key))) (Some (place.InstallMade key)) q (make_dirty key.number m)
  makes_none : {q : List Key} → (made : Call) → (g : ℕ) → maker_group made ≡ Some g → Permits t made reply.NoInodes
      → Turn t m a made place.Answer q (Some (Called made reply.NoInodes)) (Some (place.Leave reply.NoInodes)) q m
  installs_made : {q : List Key} → (made : Call) → (g : ℕ) → (key : Key) → (row : Row) → maker_group made ≡ Some g → InstallDue made t m key row
      → Turn t m a made (place.InstallMade key) q None (Some (place.Leave (reply.Made key))) q
      (with_word key.number (record (cached_word m key.number) { generation = key.generation; live = true; unlinked = makes_unlinked made; pins = 1 }) m)
  next_empty : Turn t m a call.Gc place.Next [] (Some (Called call.Gc reply.Done)) None [] m
  next_none : (key : Key) → (keys : List Key) → CanLock m (group_number key) → row_of t key ≡ None
      → Turn t m a call.Gc place.Next (key ∷ keys) None (Some place.Pass) (key ∷ keys) (locked a (group_number key) m)
  next_row : (key : Key) → (keys : List Key) → (row : Row) → CanLock m (group_number key) → row_of t key ≡ Some row
      → Turn t m a call.Gc place.Next (key ∷ keys) None (Some place.FreeHead) (key ∷ keys) (locked a (group_number key) m)
  frees_head : (key : Key) → (keys : List Key) → IsSomeAnd (row_of t key) Awaits
      → Turn t m a call.Gc place.FreeHead (key ∷ keys) (Some (Freed key)) (Some place.KillHead) (key ∷ keys) (make_dirty key.number m)
  kills_head : (key : Key) → (keys : List Key) → KillDue t m key
      → Turn t m a call.Gc place.KillHead (key ∷ keys) None (Some place.Pass) (key ∷ keys)
      (with_word key.number (record (cached_word m key.number) { live = false; unlinked = false }) m)
  passes_last : (key : Key) → Turn t m a call.Gc place.Pass (key ∷ []) (Some (Called call.Gc reply.Done)) None [] (unlocked (group_number key) m)
  passes : (key : Key) → (next : Key) → (keys : List Key)
      → Turn t m a call.Gc place.Pass (key ∷ next ∷ keys) None (Some place.Next) (next ∷ keys) (unlocked (group_number key) m)
  locks_flush : {q : List Key} → (g : ℕ) → CanLock m g → Turn t m a (call.FlushInodes g) place.LockFlush q None (Some place.Copy) q (locked a g m)
  copies : {q : List Key} → (g : ℕ) → Turn t m a (call.FlushInodes g) place.Copy q None (Some place.End) q (copy_all g m)
  ends_flush : {q : List Key} → (g : ℕ)
      → Turn t m a (call.FlushInodes g) place.End q (Some (Called (call.FlushInodes g) reply.Done)) None q (unlocked g m)
  locks_reclaim : {q : List Key} → (g : ℕ) → CanLock m g
      → Turn t m a (call.Reclaim g) place.LockReclaim q None (Some (with_inodes (clean_of m g))) q (locked a g m)
  retires : {q : List Key} → (g number : ℕ) → (others : List ℕ) → is_idle (cached_word m number) ≡ true
      → Turn t m a (call.Reclaim g) (place.Retire number others) q None (Some (with_inodes others)) q
      (with_slot number (record { word = record (cached_word m number) { live = false }; inode = Absent }) m)
  retires_none : {q : List Key} → (g number : ℕ) → (others : List ℕ) → is_idle (cached_word m number) ≡ false
      → Turn t m a (call.Reclaim g) (place.Retire number others) q None (Some (with_inodes others)) q m
  ends_reclaim : {q : List Key} → (g : ℕ)
      → Turn t m a (call.Reclaim g) place.End q (Some (Called (call.Reclaim g) reply.Done)) None q (unlocked g m)
  goes_on : {q : List Key} → (made : Call) → (at : Place) → (next : Place) → is_log_call made ≡ true → stands_at made at ≡ true → stands_at made next ≡ true
      → Turn t m a made at q None (Some next) q m
  is_answered : {q : List Key} → (made : Call) → (at : Place) → (answer : Reply) → is_log_call made ≡ true → stands_at made at ≡ true → Permits t made answer
      → Turn t m a made at q (Some (Called made answer)) None q m

-- the actor after it
abbrev pub after_turn : Call → ℕ → Option Place → List Key → Actor
after_turn made begin None queue = record { doing = None; queue = queue }
after_turn made begin (Some at) queue = record { doing = Some (record { call = made; place = at; «from» = begin }); queue = queue }

-- what a move of a call comes to
pub record Turned (t : Table) (m : Memory) (a : ℕ) (made : Call) (at : Place) (begin : ℕ) (queue : List Key) (move : Move) : Type 0 where
  pub event : Option Event
  pub next : Option Place
  pub later : List Key
  pub memory : Memory
  pub turn : Turn t m a made at queue event next later memory
  pub event_is : move.event ≡ event
  pub memory_is : move.memory ≡ with_actor a (after_turn made begin next later) memory
