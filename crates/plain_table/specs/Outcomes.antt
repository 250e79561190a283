-- What a call comes to, as the program says it.
use Rattle.std.specs.Prelude.{◌≡◌, Option, None, Some}
use Rattle.std.specs.Option.{unwrap_or}
use Rattle.life_table.specs.declared.key.Key.{Key}
use Rattle.life_table.specs.declared.types.Row.{Row}
use Rattle.life_table.specs.declared.types.Call.{Call}
use Rattle.life_table.specs.declared.types.Call.TheVariants as call
use Rattle.life_table.specs.declared.types.Reply.{Reply}
use Rattle.life_table.specs.declared.types.Reply.TheVariants as reply
use Rattle.life_table.specs.declared.table.Table.{Table}
use Rattle.life_table.specs.Legal.{row_after, after_call}
use Rattle.life_table.specs.Replies.{row_reply, reply_of}

-- the key that a call names
abbrev pub key_called : Call → Option Key
key_called (call.OpenKey key) = Some key
key_called (call.CloseKey key) = Some key
key_called (call.Link key) = Some key
key_called (call.Unlink key) = Some key
key_called (call.Grow key count) = Some key
key_called (call.Cut key count) = Some key
key_called (call.Stat key) = Some key
key_called _ = None

-- the row that a call leaves, where it changes one
abbrev pub next_row : Table → Row → Call → Reply → Option Row
next_row t row (call.OpenKey key) reply.Done = Some (row_after t row (call.OpenKey key))
next_row t row (call.CloseKey key) reply.Done = Some (row_after t row (call.CloseKey key))
next_row t row (call.Link key) reply.Done = Some (row_after t row (call.Link key))
next_row t row (call.Unlink key) reply.Done = Some (row_after t row (call.Unlink key))
next_row t row (call.Grow key count) reply.Done = Some (row_after t row (call.Grow key count))
next_row t row (call.Cut key count) reply.Done = Some (row_after t row (call.Cut key count))
next_row t row _ _ = None

-- the reply of a call on a row, and the row after it, where it changes
pub record IsRowOutcome (t : Table) (row : Row) (called : Call) (answer : Reply) (next : Option Row) : Type 0 where
  pub replied : answer ≡ row_reply t row called
  pub leaves : next ≡ next_row t row called answer

-- the reply of a call, and the table after it, where it changes
pub record IsOutcome (t : Table) (called : Call) (answer : Reply) (next : Option Table) : Type 0 where
  pub replied : answer ≡ reply_of t called
  pub leaves : unwrap_or next t ≡ after_call t called answer
