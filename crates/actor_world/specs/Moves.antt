-- What the next step of a call comes to: what happens by it, if anything does, and what is then in memory. It is a
-- function of the table, of what is in memory, and of the actor; a step that only the log decides has none here.
use Rattle.std.specs.Prelude.{◌+◌, ◌*◌, ◌==◌, ◌&&◌, ℕ, Bool, true, false, List, [], ◌∷◌, ◌++◌, Option, None, Some, is_some, is_none, if◌then◌else◌, nat_lt, length}
use Rattle.std.specs.List.{flat_map, range_with_len}
use Rattle.life_limits.specs.declared.TheConstants.{GROUP_NUMBERS}
use Rattle.life_table.specs.declared.key.Key.{Key}
use Rattle.life_table.specs.declared.types.Row.{Row}
use Rattle.life_table.specs.declared.types.Call.{Call}
use Rattle.life_table.specs.declared.types.Call.TheVariants as call
use Rattle.life_table.specs.declared.types.Reply.{Reply}
use Rattle.life_table.specs.declared.types.Reply.TheVariants as reply
use Rattle.life_table.specs.declared.types.Event.{Event}
use Rattle.life_table.specs.declared.types.Event.TheVariants.{Called, Freed}
use Rattle.life_table.specs.declared.table.Inode.{Inode}
use Rattle.life_table.specs.declared.table.Table.{Table}
use Rattle.life_table.specs.Table.{group_at, group_number, row_of}
use Rattle.life_table.specs.Space.{lowest_key, chunk_place}
use Rattle.life_table.specs.Legal.{free_of}
use Rattle.life_table.specs.Replies.{reply_of}
use Rattle.life_table.specs.History.{changed}
use Rattle.slot_words.specs.declared.word.Word.{Word}
use Rattle.slot_words.specs.declared.sight.Sight.{Sight}
use Rattle.slot_words.specs.declared.sight.Sight.TheVariants as sight
use Rattle.slot_words.specs.Steps.{after_open, after_close, after_mark, after_install, after_retire, after_kill, sight_of}
use Rattle.actor_world.specs.declared.memory.Place.{Place}
use Rattle.actor_world.specs.declared.memory.Place.TheVariants as place
use Rattle.actor_world.specs.declared.memory.Doing.{Doing}
use Rattle.actor_world.specs.declared.memory.Memory.{Memory}
use Rattle.actor_world.specs.Caches.{actor_at, moved_to, ended, with_queue, cache_at, locked, unlocked, cached_word, put_word, bring_in, make_dirty, put_inode, copy_all, clean_of, same_word, is_of_geometry}
use Rattle.actor_world.specs.declared.memory.Residence.TheVariants.{Absent}

-- what a step comes to
pub record Move : Type 0 where
  pub event : Option Event
  pub memory : Memory

-- nothing happens by it; or the call is answered by it; or a row is freed by it
abbrev pub silent : Memory → Move
silent m = record { event = None; memory = m }

abbrev pub answers : Doing → Reply → Memory → Move
answers d answer m = record { event = Some (Called d.call answer); memory = m }

abbrev pub frees : Key → Memory → Move
frees key m = record { event = Some (Freed key); memory = m }

-- ---- shortage

-- whether a row has neither a link nor a hold
abbrev pub is_awaiting_row : Option Row → Bool
is_awaiting_row None = false
is_awaiting_row (Some row) = (row.links == 0) && (row.opens == 0)

-- the keys of the inodes that await being freed, which are numbered from here on
unfoldable pub awaiting_from : ℕ → List Inode → List Key
awaiting_from number [] = []
awaiting_from number (inode ∷ inodes) =
    if is_awaiting_row inode.row
    then record { number = number; generation = inode.generation } ∷ awaiting_from (number + 1) inodes
    else awaiting_from (number + 1) inodes

-- those of a group, ascending
unfoldable pub awaiting_of : Table → ℕ → List Key
awaiting_of t g = flat_map (λ chunk. awaiting_from (g * GROUP_NUMBERS + chunk.start) chunk.inodes) (group_at t g)

-- those of all groups, ascending: what an unmount frees
unfoldable pub awaiting_rows : Table → List Key
awaiting_rows t = flat_map (awaiting_of t) (range_with_len 0 (length t.groups))

-- whether no number of the group is free and no chunk can be added
abbrev pub has_no_number : Table → ℕ → Bool
has_no_number t g = is_none (lowest_key g (group_at t g)) && is_none (chunk_place t.blocks (group_at t g))

-- whether the call lacks a number, or blocks
abbrev pub is_short : Table → Call → Bool
is_short t (call.Create g) = has_no_number t g
is_short t (call.Tmpfile g) = has_no_number t g
is_short t (call.Grow key count) = nat_lt (length (free_of t key)) count
is_short t _ = false

-- where a call that makes room goes on, with these rows to free
abbrev pub with_rows_to_free : List Key → Place
with_rows_to_free [] = place.Answer
with_rows_to_free (key ∷ keys) = place.Free key keys

-- ---- open

-- the word was loaded without the lock, and shows this
abbrev pub saw : Sight → Word → ℕ → Doing → Memory → Move
saw sight.Open word a d m = silent (moved_to a d (place.Pin word) m)
saw sight.Crowded word a d m = answers d reply.Crowded (ended a m)
saw sight.Awaits word a d m = silent (moved_to a d place.Find m)
saw sight.Other word a d m = silent (moved_to a d place.Find m)

abbrev pub load : Key → ℕ → Doing → Table → Memory → Move
load key a d t m =
    if is_of_geometry t key.number
    then saw (sight_of key.generation (cached_word m key.number)) (cached_word m key.number) a d m
    else answers d reply.Stale (ended a m)

-- a pin more on the word
abbrev pub pinned : Key → Memory → Memory
pinned key m = put_word key.number (after_open key.generation (cached_word m key.number)) m

abbrev pub pin : Key → Word → ℕ → Doing → Memory → Move
pin key seen a d m =
    if same_word (cached_word m key.number) seen
    then answers d reply.Done (ended a (pinned key m))
    else silent (moved_to a d place.Find m)

-- the lock is taken, and the key has this row
abbrev pub found : Option Row → ℕ → Doing → Memory → Move
found None a d m = answers d reply.Stale (moved_to a d (place.Leave reply.Stale) m)
found (Some row) a d m = silent (moved_to a d place.LoadLocked m)

-- the word was loaded under the lock, and shows this
abbrev pub saw_locked : Sight → Word → ℕ → Doing → Memory → Move
saw_locked sight.Open word a d m = silent (moved_to a d (place.PinLocked word) m)
saw_locked sight.Crowded word a d m = answers d reply.Crowded (moved_to a d (place.Leave reply.Crowded) m)
saw_locked sight.Awaits word a d m = answers d reply.Stale (moved_to a d (place.Leave reply.Stale) m)
saw_locked sight.Other word a d m = silent (moved_to a d place.Install m)

abbrev pub pin_locked : Key → Word → ℕ → Doing → Memory → Move
pin_locked key seen a d m =
    if same_word (cached_word m key.number) seen
    then answers d reply.Done (moved_to a d (place.Leave reply.Done) (pinned key m))
    else silent (moved_to a d place.LoadLocked m)

-- a live word with one pin: the inode is in core before
abbrev pub installed : Key → Bool → Memory → Memory
installed key unlinked m = put_word key.number (after_install key.generation unlinked (cached_word m key.number)) m

-- gives back the group's lock: the call ends
abbrev pub leave : ℕ → ℕ → Memory → Move
leave g a m = silent (ended a (unlocked g m))

abbrev pub open_move : Key → Place → ℕ → Doing → Table → Memory → Option Move
open_move key place.Load a d t m = Some (load key a d t m)
open_move key (place.Pin seen) a d t m = Some (pin key seen a d m)
open_move key place.Find a d t m = Some (found (row_of t key) a d (locked a (group_number key) m))
open_move key place.LoadLocked a d t m = Some (saw_locked (sight_of key.generation (cached_word m key.number)) (cached_word m key.number) a d m)
open_move key (place.PinLocked seen) a d t m = Some (pin_locked key seen a d m)
open_move key place.Install a d t m = Some (answers d reply.Done (moved_to a d (place.Leave reply.Done) (installed key false (bring_in key.number m))))
open_move key (place.Leave answer) a d t m = Some (leave (group_number key) a m)
open_move key _ a d t m = None

-- ---- close

-- whether a close that finds this word is the last one of an inode without links
abbrev pub is_last_release : Word → Bool
is_last_release word = (word.pins == 1) && word.unlinked

abbrev pub release_queue : Key → Word → List Key → List Key
release_queue key word queue = if is_last_release word then queue ++ key ∷ [] else queue

-- the actor gives up a pin, and the key joins its queue where it was the last one
abbrev pub let_go : Key → ℕ → Memory → Memory
let_go key a m = with_queue a (release_queue key (cached_word m key.number) (actor_at m a).queue) (put_word key.number (after_close (cached_word m key.number)) m)

abbrev pub close_move : Key → Place → ℕ → Doing → Table → Memory → Option Move
close_move key place.Unpin a d t m = Some (answers d reply.Done (ended a (let_go key a m)))
close_move key _ a d t m = None

-- ---- stat

abbrev pub stat_move : Key → Place → ℕ → Doing → Table → Memory → Option Move
stat_move key place.Read a d t m = Some (answers d (reply_of t d.call) (moved_to a d (place.Leave (reply_of t d.call)) (locked a (group_number key) m)))
stat_move key (place.Leave answer) a d t m = Some (leave (group_number key) a m)
stat_move key _ a d t m = None

-- ---- link, unlink, cut

-- how many links the key's row has
abbrev pub links_of : Option Row → ℕ
links_of None = 0
links_of (Some row) = row.links

-- whether the mark of the word is due: the links went from 0 to 1, or from 1 to 0
abbrev pub is_mark_due : Call → Reply → ℕ → Bool
is_mark_due (call.Link key) reply.Done links = links == 0
is_mark_due (call.Unlink key) reply.Done links = links == 1
is_mark_due _ _ links = false

-- whether the mark is set by the call, or cleared
abbrev pub sets_mark : Call → Bool
sets_mark (call.Unlink key) = true
sets_mark _ = false

-- where the call goes on after its change, or its refusal
abbrev pub place_after_change : Call → Reply → ℕ → Place
place_after_change made answer links = if is_mark_due made answer links then place.Mark answer else place.Leave answer

-- the inode is dirty where the call changed it
abbrev pub dirtied : Key → Call → Reply → Memory → Memory
dirtied key made answer m = if changed made answer then make_dirty key.number m else m

abbrev pub change : Key → Reply → ℕ → Doing → Table → Memory → Move
change key answer a d t m = answers d answer (moved_to a d (place_after_change d.call answer (links_of (row_of t key))) (dirtied key d.call answer m))

abbrev pub marked : Key → Call → Memory → Memory
marked key made m = put_word key.number (after_mark (sets_mark made) (cached_word m key.number)) m

abbrev pub change_move : Key → Place → ℕ → Doing → Table → Memory → Option Move
change_move key place.Lock a d t m = Some (silent (moved_to a d place.Change (locked a (group_number key) m)))
change_move key place.Change a d t m = Some (change key (reply_of t d.call) a d t m)
change_move key (place.Mark answer) a d t m = Some (silent (moved_to a d (place.Leave answer) (marked key d.call m)))
change_move key (place.Leave answer) a d t m = Some (leave (group_number key) a m)
change_move key _ a d t m = None

-- ---- grow, create, tmpfile

-- the rows that a call frees are those that await as it takes the lock, where it is short then
abbrev pub rows_to_free : Call → ℕ → Table → List Key
rows_to_free made g t = if is_short t made then awaiting_of t g else []

-- the word of a row that was freed leaves the cache
abbrev pub killed : Key → Memory → Memory
killed key m = put_word key.number (after_kill key.generation (cached_word m key.number)) m

-- frees a row: its inode stays in core, dirty
abbrev pub free_key : Key → Memory → Move
free_key key m = frees key (make_dirty key.number m)

-- The steps of making room in a group, which end where the call is answered.
abbrev pub room_move : ℕ → Place → ℕ → Doing → Table → Memory → Option Move
room_move g place.LockShort a d t m = Some (silent (moved_to a d (with_rows_to_free (rows_to_free d.call g t)) (locked a g m)))
room_move g (place.Free key others) a d t m = Some (free_key key (moved_to a d (place.Kill key others) m))
room_move g (place.Kill key others) a d t m = Some (silent (moved_to a d (with_rows_to_free others) (killed key m)))
room_move g (place.Leave answer) a d t m = Some (leave g a m)
room_move g _ a d t m = None

abbrev pub grow_move : Key → Place → ℕ → Doing → Table → Memory → Option Move
grow_move key place.Answer a d t m = Some (answers d (reply_of t d.call) (moved_to a d (place.Leave (reply_of t d.call)) (dirtied key d.call (reply_of t d.call) m)))
grow_move key at a d t m = room_move (group_number key) at a d t m

-- whether the inode is made without links
abbrev pub makes_unlinked : Call → Bool
makes_unlinked (call.Tmpfile g) = true
makes_unlinked _ = false

-- the commit of a create brings its inode into core; the word comes after it
abbrev pub answer_create : Reply → ℕ → Doing → Memory → Move
answer_create (reply.Made key) a d m = answers d (reply.Made key) (moved_to a d (place.InstallMade key) (make_dirty key.number m))
answer_create answer a d m = answers d answer (moved_to a d (place.Leave answer) m)

abbrev pub create_move : ℕ → Place → ℕ → Doing → Table → Memory → Option Move
create_move g place.Answer a d t m = Some (answer_create (reply_of t d.call) a d m)
create_move g (place.InstallMade key) a d t m = Some (silent (moved_to a d (place.Leave (reply.Made key)) (installed key (makes_unlinked d.call) m)))
create_move g at a d t m = room_move g at a d t m

-- ---- gc

-- where a gc goes on that has taken the lock of a key's group and finds this row
abbrev pub head_place : Option Row → Place
head_place None = place.Pass
head_place (Some row) = place.FreeHead

-- the lock of the key's group is given back, and the key leaves the queue; behind the last one the call ends
abbrev pub passed : Key → List Key → ℕ → Doing → Memory → Move
passed key [] a d m = answers d reply.Done (ended a (with_queue a [] (unlocked (group_number key) m)))
passed key (next ∷ keys) a d m = silent (moved_to a d place.Next (with_queue a (next ∷ keys) (unlocked (group_number key) m)))

-- a step at the first key of the queue
abbrev pub head_move : Key → List Key → Place → ℕ → Doing → Table → Memory → Option Move
head_move key keys place.Next a d t m = Some (silent (moved_to a d (head_place (row_of t key)) (locked a (group_number key) m)))
head_move key keys place.FreeHead a d t m = Some (free_key key (moved_to a d place.KillHead m))
head_move key keys place.KillHead a d t m = Some (silent (moved_to a d place.Pass (killed key m)))
head_move key keys place.Pass a d t m = Some (passed key keys a d m)
head_move key keys _ a d t m = None

abbrev pub empty_move : Place → ℕ → Doing → Memory → Option Move
empty_move place.Next a d m = Some (answers d reply.Done (ended a m))
empty_move _ a d m = None

abbrev pub gc_move : List Key → Place → ℕ → Doing → Table → Memory → Option Move
gc_move [] at a d t m = empty_move at a d m
gc_move (key ∷ keys) at a d t m = head_move key keys at a d t m

-- ---- flush and reclaim

-- gives back the lock with the entry: the call ends
abbrev pub end_house : ℕ → ℕ → Doing → Memory → Move
end_house g a d m = answers d reply.Done (ended a (unlocked g m))

abbrev pub flush_move : ℕ → Place → ℕ → Doing → Table → Memory → Option Move
flush_move g place.LockFlush a d t m = Some (silent (moved_to a d place.Copy (locked a g m)))
flush_move g place.Copy a d t m = Some (silent (moved_to a d place.End (copy_all g m)))
flush_move g place.End a d t m = Some (end_house g a d m)
flush_move g _ a d t m = None

-- where a reclaim goes on, with these inodes to look at
abbrev pub with_inodes : List ℕ → Place
with_inodes [] = place.End
with_inodes (number ∷ numbers) = place.Retire number numbers

-- an inode whose word may leave the cache leaves core with it
abbrev pub retired : ℕ → Option Word → Memory → Memory
retired number None m = m
retired number (Some word) m = put_inode number Absent (put_word number (Some word) m)

abbrev pub reclaim_move : ℕ → Place → ℕ → Doing → Table → Memory → Option Move
reclaim_move g place.LockReclaim a d t m = Some (silent (moved_to a d (with_inodes (clean_of m g)) (locked a g m)))
reclaim_move g (place.Retire number others) a d t m = Some (silent (moved_to a d (with_inodes others) (retired number (after_retire (cached_word m number)) m)))
reclaim_move g place.End a d t m = Some (end_house g a d m)
reclaim_move g _ a d t m = None

-- ---- any call

-- the first place of a call
abbrev pub first_place : Call → Place
first_place (call.Create g) = place.LockShort
first_place (call.Tmpfile g) = place.LockShort
first_place (call.OpenKey key) = place.Load
first_place (call.CloseKey key) = place.Unpin
first_place (call.Link key) = place.Lock
first_place (call.Unlink key) = place.Lock
first_place (call.Grow key count) = place.LockShort
first_place (call.Cut key count) = place.Lock
first_place (call.Stat key) = place.Read
first_place call.Sync = place.Take
first_place call.Home = place.TakeLog
first_place call.Gc = place.Next
first_place (call.FlushInodes g) = place.LockFlush
first_place (call.Reclaim g) = place.LockReclaim

-- the step of a call at a place, its lock being free where it takes one; none of a sync or a home, nor where the call
-- never stands
abbrev pub call_move : Call → ℕ → Doing → Table → Memory → Option Move
call_move (call.Create g) a d t m = create_move g d.place a d t m
call_move (call.Tmpfile g) a d t m = create_move g d.place a d t m
call_move (call.OpenKey key) a d t m = open_move key d.place a d t m
call_move (call.CloseKey key) a d t m = close_move key d.place a d t m
call_move (call.Link key) a d t m = change_move key d.place a d t m
call_move (call.Unlink key) a d t m = change_move key d.place a d t m
call_move (call.Grow key count) a d t m = grow_move key d.place a d t m
call_move (call.Cut key count) a d t m = change_move key d.place a d t m
call_move (call.Stat key) a d t m = stat_move key d.place a d t m
call_move call.Sync a d t m = None
call_move call.Home a d t m = None
call_move call.Gc a d t m = gc_move (actor_at m a).queue d.place a d t m
call_move (call.FlushInodes g) a d t m = flush_move g d.place a d t m
call_move (call.Reclaim g) a d t m = reclaim_move g d.place a d t m

-- ---- locks

-- the group of a call, by its group or its key; of a gc by the first key of the queue
abbrev pub head_group : List Key → Option ℕ
head_group [] = None
head_group (key ∷ keys) = Some (group_number key)

abbrev pub group_of_call : List Key → Call → Option ℕ
group_of_call queue (call.Create g) = Some g
group_of_call queue (call.Tmpfile g) = Some g
group_of_call queue (call.OpenKey key) = Some (group_number key)
group_of_call queue (call.CloseKey key) = Some (group_number key)
group_of_call queue (call.Link key) = Some (group_number key)
group_of_call queue (call.Unlink key) = Some (group_number key)
group_of_call queue (call.Grow key count) = Some (group_number key)
group_of_call queue (call.Cut key count) = Some (group_number key)
group_of_call queue (call.Stat key) = Some (group_number key)
group_of_call queue call.Sync = None
group_of_call queue call.Home = None
group_of_call queue call.Gc = head_group queue
group_of_call queue (call.FlushInodes g) = Some g
group_of_call queue (call.Reclaim g) = Some g

-- whether the step at a place takes a group's lock
abbrev pub takes_group : Place → Bool
takes_group place.Find = true
takes_group place.Read = true
takes_group place.Lock = true
takes_group place.LockShort = true
takes_group place.Next = true
takes_group place.LockFlush = true
takes_group place.LockReclaim = true
takes_group _ = false

-- whether it takes the log's lock
abbrev pub takes_log : Place → Bool
takes_log place.Take = true
takes_log place.TakeLog = true
takes_log _ = false

-- whether a call at a place holds its group's lock
abbrev pub lies_in_group : Place → Bool
lies_in_group place.LoadLocked = true
lies_in_group (place.PinLocked seen) = true
lies_in_group place.Install = true
lies_in_group (place.Leave answer) = true
lies_in_group place.Change = true
lies_in_group (place.Mark answer) = true
lies_in_group (place.Free key others) = true
lies_in_group (place.Kill key others) = true
lies_in_group place.Answer = true
lies_in_group (place.InstallMade key) = true
lies_in_group place.FreeHead = true
lies_in_group place.KillHead = true
lies_in_group place.Pass = true
lies_in_group place.Copy = true
lies_in_group (place.Retire number others) = true
lies_in_group place.End = true
lies_in_group _ = false

-- whether it holds the log's lock
abbrev pub lies_in_log : Place → Bool
lies_in_log place.Force = true
lies_in_log place.WriteHome = true
lies_in_log _ = false

-- the holder of a group's lock, where the step takes that lock
abbrev pub group_holder : Option ℕ → Bool → Memory → Option ℕ
group_holder None takes m = None
group_holder (Some g) takes m = if takes then (cache_at m g).holder else None

-- the actor for which a step waits: the one that holds the group's lock that the step takes
abbrev pub waits_in_group : List Key → Doing → Memory → Option ℕ
waits_in_group queue d m = group_holder (group_of_call queue d.call) (takes_group d.place) m

-- the next step of an actor's call, where it needs no lock that is held
abbrev pub doing_move : Option Doing → ℕ → Table → Memory → Option Move
doing_move None a t m = None
doing_move (Some d) a t m = if is_some (waits_in_group (actor_at m a).queue d m) then None else call_move d.call a d t m

abbrev pub move_of : ℕ → Table → Memory → Option Move
move_of a t m = doing_move (actor_at m a).doing a t m

-- whether a call is answered by the log
abbrev pub is_log_call : Call → Bool
is_log_call call.Sync = true
is_log_call call.Home = true
is_log_call _ = false

-- ---- the places of calls

abbrev pub is_open_place : Place → Bool
is_open_place place.Load = true
is_open_place (place.Pin seen) = true
is_open_place place.Find = true
is_open_place place.LoadLocked = true
is_open_place (place.PinLocked seen) = true
is_open_place place.Install = true
is_open_place (place.Leave answer) = true
is_open_place _ = false

abbrev pub is_close_place : Place → Bool
is_close_place place.Unpin = true
is_close_place _ = false

abbrev pub is_stat_place : Place → Bool
is_stat_place place.Read = true
is_stat_place (place.Leave answer) = true
is_stat_place _ = false

abbrev pub is_cut_place : Place → Bool
is_cut_place place.Lock = true
is_cut_place place.Change = true
is_cut_place (place.Leave answer) = true
is_cut_place _ = false

abbrev pub is_link_place : Place → Bool
is_link_place (place.Mark answer) = true
is_link_place at = is_cut_place at

abbrev pub is_grow_place : Place → Bool
is_grow_place place.LockShort = true
is_grow_place (place.Free key others) = true
is_grow_place (place.Kill key others) = true
is_grow_place place.Answer = true
is_grow_place (place.Leave answer) = true
is_grow_place _ = false

abbrev pub is_create_place : Place → Bool
is_create_place (place.InstallMade key) = true
is_create_place at = is_grow_place at

abbrev pub is_gc_place : Place → Bool
is_gc_place place.Next = true
is_gc_place place.FreeHead = true
is_gc_place place.KillHead = true
is_gc_place place.Pass = true
is_gc_place _ = false

abbrev pub is_flush_place : Place → Bool
is_flush_place place.LockFlush = true
is_flush_place place.Copy = true
is_flush_place place.End = true
is_flush_place _ = false

abbrev pub is_reclaim_place : Place → Bool
is_reclaim_place place.LockReclaim = true
is_reclaim_place (place.Retire number others) = true
is_reclaim_place place.End = true
is_reclaim_place _ = false

abbrev pub is_sync_place : Place → Bool
is_sync_place place.Take = true
is_sync_place place.Force = true
is_sync_place _ = false

abbrev pub is_home_place : Place → Bool
is_home_place place.TakeLog = true
is_home_place place.WriteHome = true
is_home_place _ = false

-- whether a call ever stands at a place
abbrev pub stands_at : Call → Place → Bool
stands_at (call.Create g) at = is_create_place at
stands_at (call.Tmpfile g) at = is_create_place at
stands_at (call.OpenKey key) at = is_open_place at
stands_at (call.CloseKey key) at = is_close_place at
stands_at (call.Link key) at = is_link_place at
stands_at (call.Unlink key) at = is_link_place at
stands_at (call.Grow key count) at = is_grow_place at
stands_at (call.Cut key count) at = is_cut_place at
stands_at (call.Stat key) at = is_stat_place at
stands_at call.Sync at = is_sync_place at
stands_at call.Home at = is_home_place at
stands_at call.Gc at = is_gc_place at
stands_at (call.FlushInodes g) at = is_flush_place at
stands_at (call.Reclaim g) at = is_reclaim_place at
