-- Which reply a call may have at a table, and the table after it.
use Rattle.std.specs.Prelude.{◌≡◌, ◌≢◌, ◌+◌, ◌-◌, ◌<◌, ◌≤◌, ⊤, ℕ, List, [], ◌++◌, Option, None, Some, IsSomeAnd, length, take, drop}
use Rattle.life_limits.specs.declared.TheConstants.{MAX_EXTENTS, MAX_LINKS, MAX_PINS}
use Rattle.extent_fork.specs.Runs.{runs}
use Rattle.life_table.specs.declared.key.Key.{Key}
use Rattle.life_table.specs.declared.types.Row.{Row}
use Rattle.life_table.specs.declared.types.Call.{Call}
use Rattle.life_table.specs.declared.types.Call.TheVariants as call
use Rattle.life_table.specs.declared.types.Reply.{Reply}
use Rattle.life_table.specs.declared.types.Reply.TheVariants as reply
use Rattle.life_table.specs.declared.table.Table.{Table}
use Rattle.life_table.specs.Table.{group_number, group_at, with_group, with_inode, row_of, with_row}
use Rattle.life_table.specs.Space.{free_blocks, lowest_key, chunk_place, prepared}

-- the row has neither a link nor a hold: it awaits being freed
abbrev pub Awaits : Row → Type 0
Awaits row = (row.links ≡ 0) × (row.opens ≡ 0)

-- the free blocks of a group of the table, and of a key's group
abbrev pub free_in : Table → ℕ → List ℕ
free_in t g = free_blocks t.blocks (group_at t g)

abbrev pub free_of : Table → Key → List ℕ
free_of t key = free_in t (group_number key)

-- no number of the group is free, and no chunk can be added
abbrev pub HasNoNumber : Table → ℕ → Type 0
HasNoNumber t g = (lowest_key g (group_at t g) ≡ None) × (chunk_place t.blocks (group_at t g) ≡ None)

-- the call lacks a number, or blocks
abbrev pub Short : Table → Call → Type 0
Short t (call.Create g) = HasNoNumber t g
Short t (call.Tmpfile g) = HasNoNumber t g
Short t (call.Grow key count) = length (free_of t key) < count
Short t _ = ⊥

-- the blocks of a row with so many more: the lowest free ones, ascending
abbrev pub grown_blocks : Table → Key → ℕ → Row → List ℕ
grown_blocks t key count row = row.blocks ++ take count (free_of t key)

-- the blocks of a row without the last so many
abbrev pub cut_blocks : ℕ → Row → List ℕ
cut_blocks count row = take (length row.blocks - count) row.blocks

-- the last so many blocks of a row
abbrev pub last_blocks : ℕ → Row → List ℕ
last_blocks count row = drop (length row.blocks - count) row.blocks

-- the table with the chunk added that a create in this group adds
abbrev pub prepare : Table → ℕ → Table
prepare t g = with_group t g (prepared t.blocks g (group_at t g))

-- the key is the lowest free one of the group, after a chunk was added where none was free
abbrev pub IsNextKey : Table → ℕ → Key → Type 0
IsNextKey t g key = (g < length t.groups) × (lowest_key g (prepared t.blocks g (group_at t g)) ≡ Some key)

-- what a call on a row may be answered: a pair that stands in no line never comes
abbrev pub RowReplies : Table → Row → Call → Reply → Type 0
RowReplies t row (call.OpenKey key) reply.Stale = Awaits row
RowReplies t row (call.OpenKey key) reply.Crowded = row.opens ≡ MAX_PINS
RowReplies t row (call.OpenKey key) reply.Done = (Awaits row → ⊥) × (row.opens ≢ MAX_PINS)
RowReplies t row (call.CloseKey key) reply.Done = 1 ≤ row.opens
RowReplies t row (call.Link key) reply.TooManyLinks = row.links ≡ MAX_LINKS
RowReplies t row (call.Link key) reply.Done = row.links ≢ MAX_LINKS
RowReplies t row (call.Unlink key) reply.NoLinks = row.links ≡ 0
RowReplies t row (call.Unlink key) reply.Done = row.links ≢ 0
RowReplies t row (call.Grow key count) reply.NoSpace = Short t (call.Grow key count)
RowReplies t row (call.Grow key count) reply.TooManyExtents =
    (Short t (call.Grow key count) → ⊥) × (MAX_EXTENTS < length (runs (grown_blocks t key count row)))
RowReplies t row (call.Grow key count) reply.Done =
    (Short t (call.Grow key count) → ⊥) × (length (runs (grown_blocks t key count row)) ≤ MAX_EXTENTS)
RowReplies t row (call.Cut key count) reply.CutTooFar = length row.blocks < count
RowReplies t row (call.Cut key count) reply.Done = count ≤ length row.blocks
RowReplies t row (call.Stat key) (reply.Shown shown links blocks extents) =
    (shown ≡ key) × (links ≡ row.links) × (blocks ≡ length row.blocks) × (extents ≡ runs row.blocks)
RowReplies t row _ _ = ⊥

-- the same where the key may have no row: only an open is answered then
abbrev pub KeyReplies : Table → Option Row → Call → Reply → Type 0
KeyReplies t None (call.OpenKey key) reply.Stale = ⊤
KeyReplies t None _ _ = ⊥
KeyReplies t (Some row) called answer = RowReplies t row called answer

-- what a call that the device answers may be answered, whatever the table
abbrev pub IsDeviceFault : Reply → Type 0
IsDeviceFault reply.WriteFault = ⊤
IsDeviceFault reply.FlushFault = ⊤
IsDeviceFault reply.PositionEnd = ⊤
IsDeviceFault (reply.Down fault) = ⊤
IsDeviceFault _ = ⊥

-- when a call may have a reply
abbrev pub Permits : Table → Call → Reply → Type 0
Permits t (call.Create g) (reply.Made key) = IsNextKey t g key
Permits t (call.Create g) reply.NoInodes = (g < length t.groups) × HasNoNumber t g
Permits t (call.Create g) _ = ⊥
Permits t (call.Tmpfile g) (reply.Made key) = IsNextKey t g key
Permits t (call.Tmpfile g) reply.NoInodes = (g < length t.groups) × HasNoNumber t g
Permits t (call.Tmpfile g) _ = ⊥
Permits t (call.OpenKey key) answer = KeyReplies t (row_of t key) (call.OpenKey key) answer
Permits t (call.CloseKey key) answer = KeyReplies t (row_of t key) (call.CloseKey key) answer
Permits t (call.Link key) answer = KeyReplies t (row_of t key) (call.Link key) answer
Permits t (call.Unlink key) answer = KeyReplies t (row_of t key) (call.Unlink key) answer
Permits t (call.Grow key count) answer = KeyReplies t (row_of t key) (call.Grow key count) answer
Permits t (call.Cut key count) answer = KeyReplies t (row_of t key) (call.Cut key count) answer
Permits t (call.Stat key) answer = KeyReplies t (row_of t key) (call.Stat key) answer
Permits t call.Gc reply.Done = ⊤
Permits t call.Gc _ = ⊥
Permits t (call.FlushInodes g) reply.Done = ⊤
Permits t (call.FlushInodes g) _ = ⊥
Permits t (call.Reclaim g) reply.Done = ⊤
Permits t (call.Reclaim g) _ = ⊥
Permits t call.Home reply.Done = ⊤
Permits t call.Home answer = IsDeviceFault answer
Permits t call.Sync (reply.Covered changes) = ⊤
Permits t call.Sync answer = IsDeviceFault answer

-- the row of a new inode: it has no blocks, and its maker holds it
abbrev pub made_row : ℕ → Row
made_row links = record { links = links; blocks = []; opens = 1 }

-- the row that a call leaves which was made
abbrev pub row_after : Table → Row → Call → Row
row_after t row (call.OpenKey key) = record { links = row.links; blocks = row.blocks; opens = row.opens + 1 }
row_after t row (call.CloseKey key) = record { links = row.links; blocks = row.blocks; opens = row.opens - 1 }
row_after t row (call.Link key) = record { links = row.links + 1; blocks = row.blocks; opens = row.opens }
row_after t row (call.Unlink key) = record { links = row.links - 1; blocks = row.blocks; opens = row.opens }
row_after t row (call.Grow key count) = record { links = row.links; blocks = grown_blocks t key count row; opens = row.opens }
row_after t row (call.Cut key count) = record { links = row.links; blocks = cut_blocks count row; opens = row.opens }
row_after t row _ = row

-- the table with the row that such a call leaves
abbrev pub with_changed : Table → Key → Option Row → Call → Table
with_changed t key None called = t
with_changed t key (Some row) called = with_row t key (row_after t row called)

-- the table after a call with this reply: a refusal leaves it
abbrev pub after_call : Table → Call → Reply → Table
after_call t (call.Create g) (reply.Made key) = with_row (prepare t g) key (made_row 1)
after_call t (call.Tmpfile g) (reply.Made key) = with_row (prepare t g) key (made_row 0)
after_call t (call.OpenKey key) reply.Done = with_changed t key (row_of t key) (call.OpenKey key)
after_call t (call.CloseKey key) reply.Done = with_changed t key (row_of t key) (call.CloseKey key)
after_call t (call.Link key) reply.Done = with_changed t key (row_of t key) (call.Link key)
after_call t (call.Unlink key) reply.Done = with_changed t key (row_of t key) (call.Unlink key)
after_call t (call.Grow key count) reply.Done = with_changed t key (row_of t key) (call.Grow key count)
after_call t (call.Cut key count) reply.Done = with_changed t key (row_of t key) (call.Cut key count)
after_call t _ _ = t

-- one call, its reply, and the table before and after
abbrev pub Legal : Table → Call → Reply → Table → Type 0
Legal t called answer u = Permits t called answer × (u ≡ after_call t called answer)

-- the table after a free: the row goes, and the number's generation rises by one
abbrev pub freed : Table → Key → Table
freed t key = with_inode t key.number (record { generation = key.generation + 1; row = None })

-- a free, and the table before and after: only a row that awaits is freed
abbrev pub Frees : Table → Key → Table → Type 0
Frees t key u = IsSomeAnd (row_of t key) Awaits × (u ≡ freed t key)

-- a call that the table alone answers: each but Sync and Home, which the device answers
abbrev pub IsOfTable : Call → Type 0
IsOfTable call.Sync = ⊥
IsOfTable call.Home = ⊥
IsOfTable _ = ⊤

-- there is a row, and somebody holds it
abbrev pub IsOpen : Option Row → Type 0
IsOpen o = IsSomeAnd o (λ row. 1 ≤ row.opens)

-- some caller may make the call: its group is there, or its key is held; every key may be opened
abbrev pub CanMake : Table → Call → Type 0
CanMake t (call.Create g) = g < length t.groups
CanMake t (call.Tmpfile g) = g < length t.groups
CanMake t (call.CloseKey key) = IsOpen (row_of t key)
CanMake t (call.Link key) = IsOpen (row_of t key)
CanMake t (call.Unlink key) = IsOpen (row_of t key)
CanMake t (call.Grow key count) = IsOpen (row_of t key)
CanMake t (call.Cut key count) = IsOpen (row_of t key)
CanMake t (call.Stat key) = IsOpen (row_of t key)
CanMake t _ = ⊤

-- each call but Cut
abbrev pub IsNoCut : Call → Type 0
IsNoCut (call.Cut key count) = ⊥
IsNoCut _ = ⊤

-- each call but those that take a hold or give one up
abbrev pub IsNoHold : Call → Type 0
IsNoHold (call.OpenKey key) = ⊥
IsNoHold (call.CloseKey key) = ⊥
IsNoHold _ = ⊤
