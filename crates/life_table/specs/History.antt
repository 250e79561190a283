-- Histories of a table, the changes in them, and what recovery leaves.
use Rattle.std.specs.Prelude.{◌≡◌, ◌==◌, ◌+◌, ◌-◌, ◌<◌, ◌&&◌, ⊤, ℕ, Bool, true, false, List, [], ◌∷◌, ◌++◌, Option, None, Some, if◌then◌else◌, map, take}
use Rattle.std.specs.List.{count_by, filter}
use Rattle.life_table.specs.declared.key.Key.{Key}
use Rattle.life_table.specs.declared.types.Row.{Row}
use Rattle.life_table.specs.declared.types.Call.{Call}
use Rattle.life_table.specs.declared.types.Call.TheVariants as call
use Rattle.life_table.specs.declared.types.Reply.{Reply}
use Rattle.life_table.specs.declared.types.Reply.TheVariants as reply
use Rattle.life_table.specs.declared.types.Event.{Event}
use Rattle.life_table.specs.declared.types.Event.TheVariants.{Called, Freed}
use Rattle.life_table.specs.declared.types.Entry.{Entry}
use Rattle.life_table.specs.declared.table.Inode.{Inode}
use Rattle.life_table.specs.declared.table.Table.{Table}
use Rattle.life_table.specs.Table.{Group, map_inodes}
use Rattle.life_table.specs.Legal.{Legal, Frees, after_call, freed}

-- an event, and the table before and after
abbrev pub Happens : Table → Event → Table → Type 0
Happens t (Called made answer) u = Legal t made answer u
Happens t (Freed key) u = Frees t key u

-- the events of these entries lead, one after the other, from the first table to the last
abbrev pub Leads : Table → List Entry → Table → Type 0
Leads first [] last = last ≡ first
Leads first (entry ∷ entries) last = (next : Table) × Happens first entry.event next × Leads next entries last

-- whether two keys are the same
abbrev pub same_key : Key → Key → Bool
same_key a b = (a.number == b.number) && (a.generation == b.generation)

-- whether an event gives the caller a hold on a key: the key was made or opened
abbrev pub takes_hold : Key → Event → Bool
takes_hold key (Called (call.Create g) (reply.Made made)) = same_key key made
takes_hold key (Called (call.Tmpfile g) (reply.Made made)) = same_key key made
takes_hold key (Called (call.OpenKey opened) reply.Done) = same_key key opened
takes_hold key _ = false

-- whether it gives a hold up
abbrev pub gives_up : Key → Event → Bool
gives_up key (Called (call.CloseKey closed) reply.Done) = same_key key closed
gives_up key _ = false

-- how many holds an actor has on a key after these entries
abbrev pub holds : List Entry → ℕ → Key → ℕ
holds entries actor key =
    count_by (λ (entry : Entry). (entry.actor == actor) && takes_hold key entry.event) entries
    - count_by (λ (entry : Entry). (entry.actor == actor) && gives_up key entry.event) entries

-- the key that a call is made on: a call that opens is on none yet
abbrev pub key_of : Call → Option Key
key_of (call.CloseKey key) = Some key
key_of (call.Link key) = Some key
key_of (call.Unlink key) = Some key
key_of (call.Grow key count) = Some key
key_of (call.Cut key count) = Some key
key_of (call.Stat key) = Some key
key_of _ = None

-- after these entries the actor holds the key, if there is one
abbrev pub IsHeld : List Entry → ℕ → Option Key → Type 0
IsHeld before actor None = ⊤
IsHeld before actor (Some key) = 0 < holds before actor key

-- an event that calls on a key is of an actor that holds the key
abbrev pub IsByHolder : List Entry → ℕ → Event → Type 0
IsByHolder before actor (Called made answer) = IsHeld before actor (key_of made)
IsByHolder before actor (Freed key) = ⊤

-- so is each of these entries, behind the entries before them
abbrev pub AreByHolders : List Entry → List Entry → Type 0
AreByHolders before [] = ⊤
AreByHolders before (entry ∷ entries) = IsByHolder before entry.actor entry.event × AreByHolders (before ++ entry ∷ []) entries

-- the entries are a legal history from the first table to the last
pub record LegalHistory (first : Table) (entries : List Entry) (last : Table) : Type 0 where
  pub leads : Leads first entries last
  pub held : AreByHolders [] entries

-- whether a call with this reply changed what the image holds
abbrev pub changed : Call → Reply → Bool
changed (call.Create g) (reply.Made key) = true
changed (call.Tmpfile g) (reply.Made key) = true
changed (call.Link key) reply.Done = true
changed (call.Unlink key) reply.Done = true
changed (call.Grow key count) reply.Done = true
changed (call.Cut key count) reply.Done = true
changed _ _ = false

-- whether an event is a change; each is one commit
abbrev pub is_change : Event → Bool
is_change (Called made answer) = changed made answer
is_change (Freed key) = true

-- the changes of a history
abbrev pub changes : List Entry → List Entry
changes entries = filter (λ (entry : Entry). is_change entry.event) entries

-- the table after an event
abbrev pub after_event : Table → Event → Table
after_event t (Called made answer) = after_call t made answer
after_event t (Freed key) = freed t key

-- the table after these entries
abbrev pub after_entries : Table → List Entry → Table
after_entries t [] = t
after_entries t (entry ∷ entries) = after_entries (after_event t entry.event) entries

-- an inode that nobody holds
abbrev pub closed_row : Option Row → Option Row
closed_row None = None
closed_row (Some row) = Some (record { links = row.links; blocks = row.blocks; opens = 0 })

abbrev pub closed_inode : Inode → Inode
closed_inode inode = record { generation = inode.generation; row = closed_row inode.row }

-- the table with no holds
abbrev pub closed : Table → Table
closed t = map_inodes closed_inode t

-- the table after the first n changes of a history, with no holds
abbrev pub After : Table → List Entry → ℕ → Table
After t entries n = closed (after_entries t (take n (changes entries)))

-- what recovery makes of an inode: a row without links is freed
abbrev pub recovered_as : ℕ → Option Row → Inode
recovered_as generation None = record { generation = generation; row = None }
recovered_as generation (Some row) =
    if row.links == 0
    then record { generation = generation + 1; row = None }
    else record { generation = generation; row = Some row }

abbrev pub recovered_inode : Inode → Inode
recovered_inode inode = recovered_as inode.generation inode.row

-- the table with every row without links freed
abbrev pub recovered : Table → Table
recovered t = map_inodes recovered_inode t

-- how many rows have no link: of one inode's row, of inodes, of a group, of groups
abbrev pub orphans_of : Option Row → ℕ
orphans_of None = 0
orphans_of (Some row) = if row.links == 0 then 1 else 0

unfoldable pub orphans_in : List Inode → ℕ
orphans_in [] = 0
orphans_in (inode ∷ inodes) = orphans_of inode.row + orphans_in inodes

unfoldable pub orphans_among : Group → ℕ
orphans_among [] = 0
orphans_among (chunk ∷ chunks) = orphans_in chunk.inodes + orphans_among chunks

unfoldable pub orphans_all : List Group → ℕ
orphans_all [] = 0
orphans_all (group ∷ groups) = orphans_among group + orphans_all groups

-- how many rows of the table have no link
abbrev pub orphans : Table → ℕ
orphans t = orphans_all t.groups

-- the entries that free these keys
abbrev pub frees_of : ℕ → List Key → List Entry
frees_of actor keys = map (λ key. record { actor = actor; event = Freed key }) keys
