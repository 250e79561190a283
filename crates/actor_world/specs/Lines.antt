-- Whole calls, one after the other: what each is answered, and what it leaves. Where no two calls are in progress at once
-- and the device does not fail, this is all that a caller sees.
use Rattle.std.specs.Prelude.{◌+◌, ℕ, List, [], ◌∷◌, ◌++◌, is_some, if◌then◌else◌, replicate, slice_index_or, slice_set}
use Rattle.life_limits.specs.declared.TheConstants.{MAX_ACTORS}
use Rattle.life_table.specs.declared.key.Key.{Key}
use Rattle.life_table.specs.declared.types.Call.{Call}
use Rattle.life_table.specs.declared.types.Call.TheVariants as call
use Rattle.life_table.specs.declared.types.Reply.{Reply}
use Rattle.life_table.specs.declared.types.Reply.TheVariants as reply
use Rattle.life_table.specs.declared.types.Event.{Event}
use Rattle.life_table.specs.declared.types.Event.TheVariants.{Called}
use Rattle.life_table.specs.declared.table.Table.{Table}
use Rattle.life_table.specs.Table.{group_number, row_of}
use Rattle.life_table.specs.Legal.{after_call, freed}
use Rattle.life_table.specs.Replies.{reply_of}
use Rattle.life_table.specs.History.{changed}
use Rattle.actor_world.specs.Moves.{awaiting_of, is_awaiting_row, is_short}

-- The table with its holds; by actor the keys that wait for its gc; and how many changes the mount has made.
pub record LinesState : Type 0 where
  pub table : Table
  pub queues : List (List Key)
  pub changes : ℕ

-- what a whole call comes to
pub record LineResult : Type 0 where
  pub reply : Reply
  pub state : LinesState

-- these rows are freed, in order; a key without a row is passed over
abbrev pub free_row : Key → LinesState → LinesState
free_row key s = if is_some (row_of s.table key) then record s { table = freed s.table key; changes = s.changes + 1 } else s

abbrev pub free_rows : List Key → LinesState → LinesState
free_rows [] s = s
free_rows (key ∷ keys) s = free_rows keys (free_row key s)

-- a call that is short first frees every row of its group that awaits, ascending
abbrev pub made_room : Call → ℕ → LinesState → LinesState
made_room made g s = if is_short s.table made then free_rows (awaiting_of s.table g) s else s

-- the call is answered as the table says
abbrev pub answered_line : Call → Reply → LinesState → LineResult
answered_line made answer s = record {
  reply = answer;
  state = record s { table = after_call s.table made answer; changes = s.changes + (if changed made answer then 1 else 0) };
}

abbrev pub by_table : Call → LinesState → LineResult
by_table made s = answered_line made (reply_of s.table made) s

-- a close that leaves a row which awaits puts its key in the actor's queue
abbrev pub closed_line : ℕ → Key → LineResult → LineResult
closed_line a key r =
    if is_awaiting_row (row_of r.state.table key)
    then record r { state = record (r.state) { queues = slice_set r.state.queues a (slice_index_or r.state.queues a [] ++ key ∷ []) } }
    else r

-- a gc frees the rows of the actor's queue
abbrev pub gc_line : ℕ → LinesState → LineResult
gc_line a s = record { reply = reply.Done; state = free_rows (slice_index_or s.queues a []) (record s { queues = slice_set s.queues a [] }) }

-- a whole call of an actor
abbrev pub line : ℕ → Call → LinesState → LineResult
line a (call.Create g) s = by_table (call.Create g) (made_room (call.Create g) g s)
line a (call.Tmpfile g) s = by_table (call.Tmpfile g) (made_room (call.Tmpfile g) g s)
line a (call.Grow key count) s = by_table (call.Grow key count) (made_room (call.Grow key count) (group_number key) s)
line a (call.CloseKey key) s = closed_line a key (by_table (call.CloseKey key) s)
line a call.Gc s = gc_line a s
line a call.Sync s = record { reply = reply.Covered s.changes; state = s }
line a made s = by_table made s

-- a whole call and its actor
pub record Line : Type 0 where
  pub actor : ℕ
  pub call : Call

-- what whole calls are answered, one after the other
unfoldable pub Lines : List Line → LinesState → List Event
Lines [] s = []
Lines (l ∷ ls) s = Called l.call (line l.actor l.call s).reply ∷ Lines ls (line l.actor l.call s).state

-- the state as a mount leaves it
abbrev pub lines_begin : Table → LinesState
lines_begin t = record { table = t; queues = replicate MAX_ACTORS []; changes = 0 }
