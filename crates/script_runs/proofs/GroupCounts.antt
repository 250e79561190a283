-- How many groups a table has, which nothing that happens changes; and the table after one entry more.
use Rattle.std.proofs.Common.{◌≡◌, ◌+◌, ◌/◌, ◌%◌, ℕ, List, [], ◌∷◌, ◌++◌, Option, None, Some, length, take, refl, ◌∙◌, length-set}
use Rattle.std.proofs.lemmas.List.{length-map}
use Rattle.life_limits.specs.declared.TheConstants.{GROUP_NUMBERS}
use Rattle.life_table.specs.declared.key.Key.{Key}
use Rattle.life_table.specs.declared.types.Row.{Row}
use Rattle.life_table.specs.declared.types.Call.{Call}
use Rattle.life_table.specs.declared.types.Call.TheVariants as call
use Rattle.life_table.specs.declared.types.Reply.{Reply}
use Rattle.life_table.specs.declared.types.Reply.TheVariants as reply
use Rattle.life_table.specs.declared.types.Event.{Event}
use Rattle.life_table.specs.declared.types.Event.TheVariants.{Called, Freed}
use Rattle.life_table.specs.declared.types.Entry.{Entry}
use Rattle.life_table.specs.declared.table.Inode.{Inode}
use Rattle.life_table.specs.declared.table.Table.{Table}
use Rattle.life_table.specs.Table.{group_at, in_use, map_group, row_of, set_inode, with_inode, with_row}
use Rattle.life_table.specs.Space.{prepared}
use Rattle.life_table.specs.Legal.{after_call, made_row, prepare, row_after, with_changed}
use Rattle.life_table.specs.History.{After, after_entries, after_event, changes, closed_inode}

inode_count : (t : Table) (number : ℕ) (inode : Inode) → length (with_inode t number inode).groups ≡ length t.groups
unfolding with_inode
inode_count t number inode = length-set t.groups (number / GROUP_NUMBERS) (set_inode (group_at t (number / GROUP_NUMBERS)) (number % GROUP_NUMBERS) inode)

row_count : (t : Table) (key : Key) (row : Row) → length (with_row t key row).groups ≡ length t.groups
row_count t key row = inode_count t key.number (in_use key row)

made_count : (t : Table) (g : ℕ) (key : Key) (links : ℕ) → length (with_row (prepare t g) key (made_row links)).groups ≡ length t.groups
made_count t g key links = row_count (prepare t g) key (made_row links) ∙ length-set t.groups g (prepared t.blocks g (group_at t g))

changed_count : (t : Table) (key : Key) (o : Option Row) (made : Call) → length (with_changed t key o made).groups ≡ length t.groups
changed_count t key None made = refl
changed_count t key (Some row) made = row_count t key (row_after t row made)

call_count : (t : Table) (made : Call) (answer : Reply) → length (after_call t made answer).groups ≡ length t.groups
call_count t (call.Create g) (reply.Made key) = made_count t g key 1
call_count t (call.Create g) _ = refl
call_count t (call.Tmpfile g) (reply.Made key) = made_count t g key 0
call_count t (call.Tmpfile g) _ = refl
call_count t (call.OpenKey key) reply.Done = changed_count t key (row_of t key) (call.OpenKey key)
call_count t (call.OpenKey key) _ = refl
call_count t (call.CloseKey key) reply.Done = changed_count t key (row_of t key) (call.CloseKey key)
call_count t (call.CloseKey key) _ = refl
call_count t (call.Link key) reply.Done = changed_count t key (row_of t key) (call.Link key)
call_count t (call.Link key) _ = refl
call_count t (call.Unlink key) reply.Done = changed_count t key (row_of t key) (call.Unlink key)
call_count t (call.Unlink key) _ = refl
call_count t (call.Grow key count) reply.Done = changed_count t key (row_of t key) (call.Grow key count)
call_count t (call.Grow key count) _ = refl
call_count t (call.Cut key count) reply.Done = changed_count t key (row_of t key) (call.Cut key count)
call_count t (call.Cut key count) _ = refl
call_count t _ _ = refl

event_count : (t : Table) (event : Event) → length (after_event t event).groups ≡ length t.groups
event_count t (Called made answer) = call_count t made answer
event_count t (Freed key) = inode_count t key.number (record { generation = key.generation + 1; row = None })

entries_count : (t : Table) (entries : List Entry) → length (after_entries t entries).groups ≡ length t.groups
entries_count t [] = refl
entries_count t (entry ∷ entries) = entries_count (after_event t entry.event) entries ∙ event_count t entry.event

-- as many groups as before are there after so many first changes
pub first_count : (t : Table) (entries : List Entry) (n : ℕ) → length (After t entries n).groups ≡ length t.groups
first_count t entries n = let u : Table = after_entries t (take n (changes entries)) in length-map u.groups (map_group closed_inode) ∙ entries_count t (take n (changes entries))

-- the table after one entry more
pub after_one : (t : Table) (entries : List Entry) (entry : Entry) → after_entries t (entries ++ entry ∷ []) ≡ after_event (after_entries t entries) entry.event
after_one t [] entry = refl
after_one t (x ∷ entries) entry = after_one (after_event t x.event) entries entry
