-- Runs that show what the steps do between each other, and what each is answered.
use Rattle.std.specs.Prelude.{ℕ, List, [], ◌∷◌}
use Rattle.life_table.specs.declared.key.Key.{Key}
use Rattle.life_table.specs.declared.types.Call.{Call}
use Rattle.life_table.specs.declared.types.Call.TheVariants as call
use Rattle.life_table.specs.declared.types.Reply.TheVariants as reply
use Rattle.life_table.specs.declared.types.Event.{Event}
use Rattle.life_table.specs.declared.types.Event.TheVariants.{Called, Freed}
use Rattle.actor_world.specs.Runs.{Order, begin, finish, step, waits}
use Rattle.actor_world.specs.Lines.{Line}

-- the first inode of the first chunk, in its first life
abbrev pub first_made : Key
first_made = record { number = 192; generation = 1 }

-- a whole call
abbrev pub whole : ℕ → Call → List Order → List Order
whole a made orders = begin a made ∷ finish a ∷ orders

-- A reclaim takes the inode out of the cache between an open's load and its exchange. The open goes on under the lock and
-- puts it back.
abbrev pub reclaim_between_load_and_exchange : List Order
reclaim_between_load_and_exchange =
    whole 0 (call.Create 0)
    (whole 0 (call.CloseKey first_made)
    (whole 0 (call.FlushInodes 0)
    (begin 0 (call.OpenKey first_made) ∷ step 0
    ∷ whole 1 (call.Reclaim 0)
    (step 0 ∷ finish 0
    ∷ whole 0 (call.Stat first_made) []))))

abbrev pub reclaim_between_events : List Event
reclaim_between_events =
    Called (call.Create 0) (reply.Made first_made)
    ∷ Called (call.CloseKey first_made) reply.Done
    ∷ Called (call.FlushInodes 0) reply.Done
    ∷ Called (call.Reclaim 0) reply.Done
    ∷ Called (call.OpenKey first_made) reply.Done
    ∷ Called (call.Stat first_made) (reply.Shown first_made 1 0 [])
    ∷ []

-- Another actor opens an inode between the commit of its unlink and its mark, and its next call on it waits for the lock.
abbrev pub open_between_commit_and_mark : List Order
open_between_commit_and_mark =
    whole 0 (call.Create 0)
    (begin 0 (call.Unlink first_made) ∷ step 0 ∷ step 0
    ∷ whole 1 (call.OpenKey first_made)
    (begin 1 (call.Stat first_made) ∷ waits 1 0 ∷ finish 0 ∷ finish 1
    ∷ whole 0 (call.CloseKey first_made)
    (whole 1 (call.CloseKey first_made)
    (whole 0 (call.OpenKey first_made) []))))

abbrev pub open_between_events : List Event
open_between_events =
    Called (call.Create 0) (reply.Made first_made)
    ∷ Called (call.Unlink first_made) reply.Done
    ∷ Called (call.OpenKey first_made) reply.Done
    ∷ Called (call.Stat first_made) (reply.Shown first_made 0 0 [])
    ∷ Called (call.CloseKey first_made) reply.Done
    ∷ Called (call.CloseKey first_made) reply.Done
    ∷ Called (call.OpenKey first_made) reply.Stale
    ∷ []

-- the next inode of the chunk, and the next life of the first
abbrev pub second_made : Key
second_made = record { number = 193; generation = 1 }

abbrev pub made_again : Key
made_again = record { number = 192; generation = 2 }

-- An inode without links stays while it is held, and cannot be opened once its last holder let go of it. The actor that let
-- go last frees it; its number then begins another life.
abbrev pub no_revival : List Order
no_revival =
    whole 0 (call.Create 0)
    (whole 1 (call.OpenKey first_made)
    (whole 0 (call.Unlink first_made)
    (whole 2 (call.OpenKey first_made)
    (whole 0 (call.CloseKey first_made)
    (whole 1 (call.CloseKey first_made)
    (whole 2 (call.CloseKey first_made)
    (whole 0 (call.OpenKey first_made)
    (whole 0 (call.Create 0)
    (whole 2 call.Gc
    (whole 0 (call.Create 0) []))))))))))

abbrev pub no_revival_events : List Event
no_revival_events =
    Called (call.Create 0) (reply.Made first_made)
    ∷ Called (call.OpenKey first_made) reply.Done
    ∷ Called (call.Unlink first_made) reply.Done
    ∷ Called (call.OpenKey first_made) reply.Done
    ∷ Called (call.CloseKey first_made) reply.Done
    ∷ Called (call.CloseKey first_made) reply.Done
    ∷ Called (call.CloseKey first_made) reply.Done
    ∷ Called (call.OpenKey first_made) reply.Stale
    ∷ Called (call.Create 0) (reply.Made second_made)
    ∷ Freed first_made
    ∷ Called call.Gc reply.Done
    ∷ Called (call.Create 0) (reply.Made made_again)
    ∷ []

-- the same calls as lines
abbrev pub at_line : ℕ → Call → Line
at_line a made = record { actor = a; call = made }

abbrev pub no_revival_lines : List Line
no_revival_lines =
    at_line 0 (call.Create 0)
    ∷ at_line 1 (call.OpenKey first_made)
    ∷ at_line 0 (call.Unlink first_made)
    ∷ at_line 2 (call.OpenKey first_made)
    ∷ at_line 0 (call.CloseKey first_made)
    ∷ at_line 1 (call.CloseKey first_made)
    ∷ at_line 2 (call.CloseKey first_made)
    ∷ at_line 0 (call.OpenKey first_made)
    ∷ at_line 0 (call.Create 0)
    ∷ at_line 2 call.Gc
    ∷ at_line 0 (call.Create 0)
    ∷ []

abbrev pub no_revival_answers : List Event
no_revival_answers =
    Called (call.Create 0) (reply.Made first_made)
    ∷ Called (call.OpenKey first_made) reply.Done
    ∷ Called (call.Unlink first_made) reply.Done
    ∷ Called (call.OpenKey first_made) reply.Done
    ∷ Called (call.CloseKey first_made) reply.Done
    ∷ Called (call.CloseKey first_made) reply.Done
    ∷ Called (call.CloseKey first_made) reply.Done
    ∷ Called (call.OpenKey first_made) reply.Stale
    ∷ Called (call.Create 0) (reply.Made second_made)
    ∷ Called call.Gc reply.Done
    ∷ Called (call.Create 0) (reply.Made made_again)
    ∷ []
