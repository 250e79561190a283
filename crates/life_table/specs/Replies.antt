-- The one reply that a call has, computed. That it is the one that may come is a law.
use Rattle.std.specs.Prelude.{◌==◌, ◌&&◌, Option, None, Some, if◌then◌else◌, nat_lt, length}
use Rattle.life_limits.specs.declared.TheConstants.{MAX_EXTENTS, MAX_LINKS, MAX_PINS}
use Rattle.extent_fork.specs.Runs.{runs}
use Rattle.life_table.specs.declared.key.Key.{Key}
use Rattle.life_table.specs.declared.types.Row.{Row}
use Rattle.life_table.specs.declared.types.Call.{Call}
use Rattle.life_table.specs.declared.types.Call.TheVariants as call
use Rattle.life_table.specs.declared.types.Reply.{Reply}
use Rattle.life_table.specs.declared.types.Reply.TheVariants as reply
use Rattle.life_table.specs.declared.table.Table.{Table}
use Rattle.life_table.specs.Table.{group_at, row_of}
use Rattle.life_table.specs.Space.{lowest_key, prepared}
use Rattle.life_table.specs.Legal.{free_of, grown_blocks}

-- the reply of a call on a row
abbrev pub row_reply : Table → Row → Call → Reply
row_reply t row (call.OpenKey key) = if row.links == 0 && row.opens == 0 then reply.Stale else (if row.opens == MAX_PINS then reply.Crowded else reply.Done)
row_reply t row (call.Link key) = if row.links == MAX_LINKS then reply.TooManyLinks else reply.Done
row_reply t row (call.Unlink key) = if row.links == 0 then reply.NoLinks else reply.Done
row_reply t row (call.Grow key count) =
    if nat_lt (length (free_of t key)) count then reply.NoSpace
    else (if nat_lt MAX_EXTENTS (length (runs (grown_blocks t key count row))) then reply.TooManyExtents else reply.Done)
row_reply t row (call.Cut key count) = if nat_lt (length row.blocks) count then reply.CutTooFar else reply.Done
row_reply t row (call.Stat key) = reply.Shown key row.links (length row.blocks) (runs row.blocks)
row_reply t row _ = reply.Done

-- the same where the key may have no row
abbrev pub key_reply : Table → Option Row → Call → Reply
key_reply t None called = reply.Stale
key_reply t (Some row) called = row_reply t row called

-- the reply of a create, by the key that it finds
abbrev pub create_reply : Option Key → Reply
create_reply None = reply.NoInodes
create_reply (Some key) = reply.Made key

-- the reply of a call that the table answers
abbrev pub reply_of : Table → Call → Reply
reply_of t (call.Create g) = create_reply (lowest_key g (prepared t.blocks g (group_at t g)))
reply_of t (call.Tmpfile g) = create_reply (lowest_key g (prepared t.blocks g (group_at t g)))
reply_of t (call.OpenKey key) = key_reply t (row_of t key) (call.OpenKey key)
reply_of t (call.CloseKey key) = key_reply t (row_of t key) (call.CloseKey key)
reply_of t (call.Link key) = key_reply t (row_of t key) (call.Link key)
reply_of t (call.Unlink key) = key_reply t (row_of t key) (call.Unlink key)
reply_of t (call.Grow key count) = key_reply t (row_of t key) (call.Grow key count)
reply_of t (call.Cut key count) = key_reply t (row_of t key) (call.Cut key count)
reply_of t (call.Stat key) = key_reply t (row_of t key) (call.Stat key)
reply_of t _ = reply.Done
