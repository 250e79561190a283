-- How long a lock is held.
use Rattle.std.specs.Prelude.{◌≡◌, ◌+◌, ◌-◌, ◌*◌, ℕ, zero, suc, Bool, true, false, List, Option, None, Some, IsSomeAnd, length}
use Rattle.life_table.specs.declared.key.Key.{Key}
use Rattle.life_table.specs.declared.types.Call.{Call}
use Rattle.life_table.specs.declared.types.Call.TheVariants as call
use Rattle.life_table.specs.declared.table.Table.{Table}
use Rattle.life_table.specs.Table.{group_number}
use Rattle.slot_words.specs.declared.word.Word.{Word}
use Rattle.actor_world.specs.declared.memory.Place.{Place}
use Rattle.actor_world.specs.declared.memory.Place.TheVariants as place
use Rattle.actor_world.specs.declared.memory.Doing.{Doing}
use Rattle.actor_world.specs.declared.memory.Memory.{Memory}
use Rattle.actor_world.specs.Caches.{actor_at, cached_word, clean_of, same_word}
use Rattle.actor_world.specs.Moves.{first_place, lies_in_group, rows_to_free}
use Rattle.actor_world.specs.World.{World}
use Rattle.actor_world.specs.Steps.{DiskFace, Step, Telling}

-- the steps of an open that is about to pin a word: it is as it was seen, or it is loaded once more
abbrev pub pin_left : Bool → ℕ
pin_left true = 2
pin_left false = 4

abbrev pub open_left : Memory → Call → Word → ℕ
open_left m (call.OpenKey key) seen = pin_left (same_word (cached_word m key.number) seen)
open_left m _ seen = 0

-- how many steps a call makes at most until it has given back the lock of its group, where no other actor steps between
abbrev pub lock_left : Memory → Call → Place → ℕ
lock_left m made place.LoadLocked = 3
lock_left m made (place.PinLocked seen) = open_left m made seen
lock_left m made place.Install = 2
lock_left m made (place.Leave answer) = 1
lock_left m made place.Change = 3
lock_left m made (place.Mark answer) = 2
lock_left m made (place.Free key others) = 2 * length others + 5
lock_left m made (place.Kill key others) = 2 * length others + 4
lock_left m made place.Answer = 3
lock_left m made (place.InstallMade key) = 2
lock_left m made place.FreeHead = 3
lock_left m made place.KillHead = 2
lock_left m made place.Pass = 1
lock_left m made place.Copy = 2
lock_left m made (place.Retire number others) = length others + 2
lock_left m made place.End = 1
lock_left m made _ = 0

-- the same where it has no lock yet
abbrev pub first_pin_left : Bool → ℕ
first_pin_left true = 1
first_pin_left false = 5

abbrev pub first_open_left : Memory → Call → Word → ℕ
first_open_left m (call.OpenKey key) seen = first_pin_left (same_word (cached_word m key.number) seen)
first_open_left m _ seen = 0

-- how many rows a call frees that takes its lock now, and how many inodes a reclaim looks at
abbrev pub rows_now : Table → Call → ℕ
rows_now t (call.Create g) = length (rows_to_free (call.Create g) g t)
rows_now t (call.Tmpfile g) = length (rows_to_free (call.Tmpfile g) g t)
rows_now t (call.Grow key count) = length (rows_to_free (call.Grow key count) (group_number key) t)
rows_now t _ = 0

abbrev pub inodes_now : Memory → Call → ℕ
inodes_now m (call.Reclaim g) = length (clean_of m g)
inodes_now m _ = 0

-- how many steps a call of the group makes at most until it ends, where no other actor steps between; a gc has these keys
abbrev pub call_left : Table → Memory → List Key → Call → Place → ℕ
call_left t m q made place.Load = 5
call_left t m q made (place.Pin seen) = first_open_left m made seen
call_left t m q made place.Find = 4
call_left t m q made place.Unpin = 1
call_left t m q made place.Read = 2
call_left t m q made place.Lock = 4
call_left t m q made place.LockShort = 2 * rows_now t made + 4
call_left t m q made place.Next = 4 * length q + 1
call_left t m q made place.FreeHead = 4 * length q
call_left t m q made place.KillHead = 4 * length q - 1
call_left t m q made place.Pass = 4 * length q - 2
call_left t m q made place.LockFlush = 3
call_left t m q made place.LockReclaim = inodes_now m made + 2
call_left t m q made at = lock_left m made at

-- so many steps a whole call of an actor makes at most, which begins now
abbrev pub steps_in_call : {D : Type 0} → World D → ℕ → Call → ℕ
steps_in_call {D} w a made = call_left w.history.table w.memory (actor_at w.memory a).queue made (first_place made)

abbrev pub doing_left : Memory → Option Doing → ℕ
doing_left m None = 0
doing_left m (Some d) = lock_left m d.call d.place

abbrev pub steps_in_lock : Memory → ℕ → ℕ
steps_in_lock m a = doing_left m (actor_at m a).doing

-- an actor holds the lock of a group
abbrev pub IsInLock : Memory → ℕ → Type 0
IsInLock m a = IsSomeAnd (actor_at m a).doing (λ (d : Doing). lies_in_group d.place ≡ true)

-- An actor makes so many steps with no step of another between, and holds the lock of a group before each and after the
-- last.
abbrev pub StepsInLock : {D : Type 0} → DiskFace D → Telling → ℕ → ℕ → World D → World D → Type 0
StepsInLock {D} face tells a zero old new = IsInLock old.memory a × (new ≡ old)
StepsInLock {D} face tells a (suc n) old new = IsInLock old.memory a × (next : World D) × Step face tells a old next × StepsInLock face tells a n next new
