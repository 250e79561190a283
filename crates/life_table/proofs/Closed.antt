-- The table with no holds, and the changes of a history.
use Rattle.std.proofs.Common.{◌≡◌, ◌↔◌, IsSomeAnd, ◌<◌, ◌≤◌, subst, ◌==◌, ◌+◌, ◌-◌, ◌*◌, ◌%◌, ◌&&◌, ℕ, zero, suc, Bool, true, false, List, [], ◌∷◌, ◌++◌, Option, None, Some, option_map, is_none, is_some, if◌then◌else◌, nat_le, nat_lt, map, filter, find, length, take, slice_get, replicate, refl, sym, ap, ◌∙◌, arith}
use Rattle.std.specs.List.{list_all, range_with_len}
use Rattle.std.proofs.lemmas.List.{length-map, take_all}
use Rattle.std.proofs.lemmas.Bool.{true≢false, false≢true}
use Rattle.life_limits.specs.declared.TheConstants.{FIRST_DATA_BLOCK, GROUP_NUMBERS, MAX_CHUNKS, MAX_EXTENTS}
use Rattle.extent_fork.specs.Runs.{runs}
use Rattle.life_table.specs.declared.key.Key.{Key}
use Rattle.life_table.specs.declared.types.Row.{Row}
use Rattle.life_table.specs.declared.types.Call.{Call}
use Rattle.life_table.specs.declared.types.Call.TheVariants as call
use Rattle.life_table.specs.declared.types.Reply.{Reply}
use Rattle.life_table.specs.declared.types.Reply.TheVariants as reply
use Rattle.life_table.specs.declared.types.Event.{Event}
use Rattle.life_table.specs.declared.types.Event.TheVariants.{Called, Freed}
use Rattle.life_table.specs.declared.types.Entry.{Entry}
use Rattle.life_table.specs.declared.table.Inode.{Inode}
use Rattle.life_table.specs.declared.table.Chunk.{Chunk}
use Rattle.life_table.specs.declared.table.Table.{Table}
use Rattle.life_table.specs.Table.{Group, group_number, group_at, with_group, inode_of, row_in_life, row_of, with_row, in_use, with_inode, map_chunk, map_group}
use Rattle.life_table.specs.Space.{times, chunk_blocks, row_blocks, inode_blocks, used, is_free_block, free_blocks, begins_run, chunk_place, new_chunk, insert_chunk, is_free, keys_from, free_keys, lowest_key, with_chunk, prepared}
use Rattle.life_table.specs.Legal.{Awaits, HasNoNumber, IsNextKey, IsNoHold, KeyReplies, Permits, RowReplies, free_of, prepare, made_row, row_after, with_changed, after_call}
use Rattle.life_table.specs.History.{Happens, Leads, changed, is_change, changes, after_event, after_entries, closed_row, closed_inode, closed, After}
use Rattle.life_table.proofs.Mapped.{group_of-map, inode_of-map, with_group-map, with_inode-map, with_inode-itself, map_inodes-twice}
use Rattle.life_table.proofs.Moves.{HasRow-from}

abbrev closed_group : Group → Group
closed_group group = map_group closed_inode group

-- what holds do not touch: the blocks that are used
row_blocks-closed : (o : Option Row) → row_blocks (closed_row o) ≡ row_blocks o
row_blocks-closed None = refl
row_blocks-closed (Some row) = refl

inode_blocks-closed : (inodes : List Inode) → inode_blocks (map closed_inode inodes) ≡ inode_blocks inodes
unfolding inode_blocks
inode_blocks-closed [] = refl
inode_blocks-closed (inode ∷ inodes) = λ i. row_blocks-closed inode.row i ++ inode_blocks-closed inodes i

chunk_blocks-closed : (chunk : Chunk) → chunk_blocks (map_chunk closed_inode chunk) ≡ chunk_blocks chunk
unfolding chunk_blocks
chunk_blocks-closed chunk = refl

pub used-closed : (group : Group) → used (closed_group group) ≡ used group
unfolding used
used-closed [] = refl
used-closed (chunk ∷ chunks) = λ i. (chunk_blocks-closed chunk i ++ inode_blocks-closed chunk.inodes i) ++ used-closed chunks i

-- the blocks that are free, by those that are used
free_by : ℕ → List ℕ → ℕ → Bool
free_by blocks taken block = nat_le FIRST_DATA_BLOCK block && (nat_lt block blocks && times block taken == 0)

is_free_block-by : (blocks : ℕ) (group : Group) → is_free_block blocks group ≡ free_by blocks (used group)
unfolding is_free_block free_by
is_free_block-by blocks group = refl

pub is_free_block-closed : (blocks : ℕ) (group : Group) → is_free_block blocks (closed_group group) ≡ is_free_block blocks group
is_free_block-closed blocks group = is_free_block-by blocks (closed_group group) ∙ ap (free_by blocks) (used-closed group) ∙ sym (is_free_block-by blocks group)

pub free_blocks-closed : (blocks : ℕ) (group : Group) → free_blocks blocks (closed_group group) ≡ free_blocks blocks group
unfolding free_blocks
free_blocks-closed blocks group = ap (λ (p : ℕ → Bool). filter p (range_with_len 0 blocks)) (is_free_block-closed blocks group)

run_by : (ℕ → Bool) → ℕ → Bool
run_by p block = (block % 8 == 0) && list_all p (range_with_len block 8)

begins_run-by : (blocks : ℕ) (group : Group) → begins_run blocks group ≡ run_by (is_free_block blocks group)
unfolding begins_run run_by
begins_run-by blocks group = refl

begins_run-closed : (blocks : ℕ) (group : Group) → begins_run blocks (closed_group group) ≡ begins_run blocks group
begins_run-closed blocks group = begins_run-by blocks (closed_group group) ∙ ap run_by (is_free_block-closed blocks group) ∙ sym (begins_run-by blocks group)

chunk_place-closed : (blocks : ℕ) (group : Group) → chunk_place blocks (closed_group group) ≡ chunk_place blocks group
unfolding chunk_place
chunk_place-closed blocks group =
    let long : length (closed_group group) ≡ length group = length-map group (map_chunk closed_inode) in
    ap (λ n. if nat_lt n MAX_CHUNKS then find (begins_run blocks (closed_group group)) (range_with_len 0 blocks) else None) long
    ∙ ap (λ (p : ℕ → Bool). if nat_lt (length group) MAX_CHUNKS then find p (range_with_len 0 blocks) else None) (begins_run-closed blocks group)

-- the numbers that are free
is_none-closed : (o : Option Row) → is_none (closed_row o) ≡ is_none o
is_none-closed None = refl
is_none-closed (Some row) = refl

keys_from-closed : (number : ℕ) (inodes : List Inode) → keys_from number (map closed_inode inodes) ≡ keys_from number inodes
unfolding keys_from
keys_from-closed number [] = refl
keys_from-closed number (inode ∷ inodes) =
    let key : Key = record { number = number; generation = inode.generation } in
    let test : is_free (closed_inode inode) ≡ is_free inode = ap (λ b. b && nat_lt inode.generation 4294967295) (is_none-closed inode.row) in
    ap (λ b. if b then key ∷ keys_from (number + 1) (map closed_inode inodes) else keys_from (number + 1) (map closed_inode inodes)) test
    ∙ ap (λ keys. if is_free inode then key ∷ keys else keys) (keys_from-closed (number + 1) inodes)

free_keys-closed : (g : ℕ) (group : Group) → free_keys g (closed_group group) ≡ free_keys g group
unfolding free_keys
free_keys-closed g [] = refl
free_keys-closed g (chunk ∷ chunks) = λ i. keys_from-closed (g * GROUP_NUMBERS + chunk.start) chunk.inodes i ++ free_keys-closed g chunks i

-- a chunk more
insert_chunk-closed : (new : Chunk) (group : Group) → closed_group (insert_chunk new group) ≡ insert_chunk (map_chunk closed_inode new) (closed_group group)
unfolding insert_chunk
insert_chunk-closed new [] = refl
insert_chunk-closed new (chunk ∷ chunks) =
    elim (nat_lt new.start chunk.start) as (λ c. closed_group (if c then new ∷ chunk ∷ chunks else chunk ∷ insert_chunk new chunks)
    ≡ (if c then map_chunk closed_inode new ∷ closed_group (chunk ∷ chunks) else map_chunk closed_inode chunk ∷ insert_chunk (map_chunk closed_inode new) (closed_group chunks))) [
      | true ↦ refl
      | false ↦ ap (λ others. map_chunk closed_inode chunk ∷ others) (insert_chunk-closed new chunks)
    ]

fresh-closed : (n : ℕ) (inode : Inode) → closed_inode inode ≡ inode → map closed_inode (replicate n inode) ≡ replicate n inode
fresh-closed zero inode same = refl
fresh-closed (suc n) inode same = λ i. same i ∷ fresh-closed n inode same i

new_chunk-closed : (block : ℕ) → map_chunk closed_inode (new_chunk block) ≡ new_chunk block
unfolding new_chunk
new_chunk-closed block =
    let whole : List Inode → Chunk = λ inodes. record { start = block * 8; inodes = inodes } in
    ap whole (fresh-closed 64 (record { generation = 1; row = None }) refl)

with_chunk-closed : (group : Group) (place : Option ℕ) → closed_group (with_chunk group place) ≡ with_chunk (closed_group group) place
with_chunk-closed group None = refl
with_chunk-closed group (Some block) = insert_chunk-closed (new_chunk block) group ∙ ap (λ new. insert_chunk new (closed_group group)) (new_chunk-closed block)

prepared-closed : (blocks g : ℕ) (group : Group) → prepared blocks g (closed_group group) ≡ closed_group (prepared blocks g group)
unfolding prepared
prepared-closed blocks g group =
    let low : lowest_key g (closed_group group) ≡ lowest_key g group = ap (λ keys. slice_get keys 0) (free_keys-closed g group) in
    ap (λ o. if is_some o then closed_group group else with_chunk (closed_group group) (chunk_place blocks (closed_group group))) low
    ∙ ap (λ p. if is_some (lowest_key g group) then closed_group group else with_chunk (closed_group group) p) (chunk_place-closed blocks group)
    ∙ elim (is_some (lowest_key g group)) as (λ c. (if c then closed_group group else with_chunk (closed_group group) (chunk_place blocks group))
    ≡ closed_group (if c then group else with_chunk group (chunk_place blocks group))) [
      | true ↦ refl
      | false ↦ sym (with_chunk-closed group (chunk_place blocks group))
    ]

prepare-closed : (t : Table) (g : ℕ) → prepare (closed t) g ≡ closed (prepare t g)
prepare-closed t g =
    let whole : Group → Table = λ group. with_group (closed t) g group in
    ap whole (ap (prepared t.blocks g) (group_of-map closed_inode t g) ∙ prepared-closed t.blocks g (group_at t g))
    ∙ sym (with_group-map closed_inode t g (prepared t.blocks g (group_at t g)))

free_of-closed : (t : Table) (key : Key) → free_of (closed t) key ≡ free_of t key
free_of-closed t key = ap (free_blocks t.blocks) (group_of-map closed_inode t (group_number key)) ∙ free_blocks-closed t.blocks (group_at t (group_number key))

-- holds given up twice
closed_row-twice : (o : Option Row) → closed_row (closed_row o) ≡ closed_row o
closed_row-twice None = refl
closed_row-twice (Some row) = refl

closed_inode-twice : (inode : Inode) → closed_inode (closed_inode inode) ≡ closed_inode inode
closed_inode-twice inode = let whole : Option Row → Inode = λ o. record { generation = inode.generation; row = o } in ap whole (closed_row-twice inode.row)

pub closed-twice : (t : Table) → closed (closed t) ≡ closed t
closed-twice t = map_inodes-twice closed_inode closed_inode closed_inode closed_inode-twice t

row_in_life-closed : (generation : ℕ) (o : Option Inode) → row_in_life generation (option_map closed_inode o) ≡ closed_row (row_in_life generation o)
row_in_life-closed generation None = refl
row_in_life-closed generation (Some inode) =
    elim (inode.generation == generation) as (λ c. (if c then closed_row inode.row else None) ≡ closed_row (if c then inode.row else None)) [ true ↦ refl | false ↦ refl ]

pub row_of-closed : (t : Table) (key : Key) → row_of (closed t) key ≡ closed_row (row_of t key)
row_of-closed t key = ap (row_in_life key.generation) (inode_of-map closed_inode t key.number) ∙ row_in_life-closed key.generation (inode_of t key.number)

-- two tables that differ in holds alone, after one inode of each was changed to inodes that differ in holds alone
with_inode-closed : (t : Table) (number : ℕ) (one other : Inode) → closed_inode one ≡ closed_inode other → closed (with_inode t number one) ≡ closed (with_inode (closed t) number other)
with_inode-closed t number one other same =
    with_inode-map closed_inode t number one
    ∙ (λ i. with_inode (sym (closed-twice t) i) number (same i))
    ∙ sym (with_inode-map closed_inode (closed t) number other)

-- a change looks at no holds
row_changes : (t : Table) (key : Key) (called : Call) → ((row : Row) → closed_row (Some (row_after t row called)) ≡ closed_row (Some (row_after (closed t) (record { links = row.links; blocks = row.blocks; opens = 0 }) called)))
    → (o : Option Row) → closed (with_changed t key o called) ≡ closed (with_changed (closed t) key (closed_row o) called)
row_changes t key called same None = sym (closed-twice t)
row_changes t key called same (Some row) =
    let whole : Option Row → Inode = λ o. record { generation = key.generation; row = o } in
    with_inode-closed t key.number (in_use key (row_after t row called))
    (in_use key (row_after (closed t) (record { links = row.links; blocks = row.blocks; opens = 0 }) called)) (ap whole (same row))

on_row : (t : Table) (key : Key) (called : Call) → ((row : Row) → closed_row (Some (row_after t row called)) ≡ closed_row (Some (row_after (closed t) (record { links = row.links; blocks = row.blocks; opens = 0 }) called)))
    → closed (with_changed t key (row_of t key) called) ≡ closed (with_changed (closed t) key (row_of (closed t) key) called)
on_row t key called same = row_changes t key called same (row_of t key) ∙ ap (λ o. closed (with_changed (closed t) key o called)) (sym (row_of-closed t key))

made-closed : (t : Table) (g : ℕ) (key : Key) (links : ℕ) → closed (with_row (prepare t g) key (made_row links)) ≡ closed (with_row (prepare (closed t) g) key (made_row links))
made-closed t g key links =
    with_inode-closed (prepare t g) key.number (in_use key (made_row links)) (in_use key (made_row links)) refl
    ∙ ap (λ u. closed (with_row u key (made_row links))) (sym (prepare-closed t g))

call_changes : (t : Table) (called : Call) (answer : Reply) → changed called answer ≡ true → closed (after_call t called answer) ≡ closed (after_call (closed t) called answer)
call_changes t (call.Create g) (reply.Made key) is = made-closed t g key 1
call_changes t (call.Tmpfile g) (reply.Made key) is = made-closed t g key 0
call_changes t (call.Link key) reply.Done is = on_row t key (call.Link key) (λ row. refl)
call_changes t (call.Unlink key) reply.Done is = on_row t key (call.Unlink key) (λ row. refl)
call_changes t (call.Grow key count) reply.Done is =
    on_row t key (call.Grow key count) (λ row.
    let whole : List ℕ → Option Row = λ more. Some (record { links = row.links; blocks = row.blocks ++ take count more; opens = 0 }) in
    ap whole (sym (free_of-closed t key)))
call_changes t (call.Cut key count) reply.Done is = on_row t key (call.Cut key count) (λ row. refl)
call_changes t _ _ is = absurd (false≢true is)

pub event_changes : (t : Table) (event : Event) → is_change event ≡ true → closed (after_event t event) ≡ closed (after_event (closed t) event)
event_changes t (Called called answer) is = call_changes t called answer is
event_changes t (Freed key) is =
    let gone : Inode = record { generation = key.generation + 1; row = None } in
    with_inode-closed t key.number gone gone refl

-- what is no change changes holds alone
same_row : (t : Table) (key : Key) (row : Row) (opens : ℕ) → row_of t key ≡ Some row → closed (with_row t key (record { links = row.links; blocks = row.blocks; opens = opens })) ≡ closed t
same_row t key row opens at =
    let has = HasRow-from (inode_of t key.number) key.generation row at in
    let shut : Inode = record { generation = key.generation; row = Some (record { links = row.links; blocks = row.blocks; opens = 0 }) } in
    let is : closed_inode has.inode ≡ shut = λ i. record { generation = has.life i; row = closed_row (has.is i) } in
    with_inode-map closed_inode t key.number (in_use key (record { links = row.links; blocks = row.blocks; opens = opens }))
    ∙ with_inode-itself (closed t) key.number shut (inode_of-map closed_inode t key.number ∙ ap (option_map closed_inode) has.at ∙ ap Some is)

opened_row : (t : Table) (key : Key) (o : Option Row) → row_of t key ≡ o → closed (with_changed t key o (call.OpenKey key)) ≡ closed t
opened_row t key None at = refl
opened_row t key (Some row) at = same_row t key row (row.opens + 1) at

closed_one : (t : Table) (key : Key) (o : Option Row) → row_of t key ≡ o → closed (with_changed t key o (call.CloseKey key)) ≡ closed t
closed_one t key None at = refl
closed_one t key (Some row) at = same_row t key row (row.opens - 1) at

call_keeps : (t : Table) (called : Call) (answer : Reply) → changed called answer ≡ false → closed (after_call t called answer) ≡ closed t
call_keeps t (call.OpenKey key) reply.Done is = opened_row t key (row_of t key) refl
call_keeps t (call.CloseKey key) reply.Done is = closed_one t key (row_of t key) refl
call_keeps t (call.Create g) (reply.Made key) is = absurd (true≢false is)
call_keeps t (call.Tmpfile g) (reply.Made key) is = absurd (true≢false is)
call_keeps t (call.Link key) reply.Done is = absurd (true≢false is)
call_keeps t (call.Unlink key) reply.Done is = absurd (true≢false is)
call_keeps t (call.Grow key count) reply.Done is = absurd (true≢false is)
call_keeps t (call.Cut key count) reply.Done is = absurd (true≢false is)
call_keeps t _ _ is = refl

-- an event leads to the table after it
happens_is : (t : Table) (event : Event) (u : Table) → Happens t event u → u ≡ after_event t event
happens_is t (Called called answer) u happens = happens.1
happens_is t (Freed key) u happens = happens.1

pub after_keeps : (t : Table) (event : Event) → is_change event ≡ false → closed (after_event t event) ≡ closed t
after_keeps t (Called called answer) is = call_keeps t called answer is
after_keeps t (Freed key) is = absurd (true≢false is)

event_keeps : (t : Table) (event : Event) (u : Table) → Happens t event u → is_change event ≡ false → closed u ≡ closed t
event_keeps t event u happens is = ap closed (happens_is t event u happens) ∙ after_keeps t event is

-- the changes alone lead from a table that differs in holds alone to one that differs in holds alone
changes_lead : (t other : Table) (entries : List Entry) (u : Table) → Leads t entries u → closed t ≡ closed other → closed (after_entries other (changes entries)) ≡ closed u
changes_lead t other [] u leads same = sym same ∙ sym (ap closed leads)
changes_lead t other (entry ∷ entries) u (next, first, rest) same =
    elim (is_change entry.event) as (λ c. is_change entry.event ≡ c → closed (after_entries other (if c then entry ∷ changes entries else changes entries)) ≡ closed u) [
      | true ↦ λ is.
          let follows : closed next ≡ closed (after_event other entry.event) =
          ap closed (happens_is t entry.event next first) ∙ event_changes t entry.event is
          ∙ ap (λ v. closed (after_event v entry.event)) same ∙ sym (event_changes other entry.event is) in
          changes_lead next (after_event other entry.event) entries u rest follows
      | false ↦ λ is. changes_lead next other entries u rest (event_keeps t entry.event next first is ∙ same)
    ] refl

pub After-all : (t : Table) (entries : List Entry) (u : Table) → Leads t entries u → After t entries (length (changes entries)) ≡ closed u
After-all t entries u leads =
    ap (λ es. closed (after_entries t es)) (take_all (length (changes entries)) (changes entries) (omega arith)) ∙ changes_lead t t entries u leads refl

-- the moment of a history after its first so many changes
record Moment (t : Table) (entries : List Entry) (n : ℕ) : Type 0 where
  count : ℕ
  table : Table
  leads : Leads t (take count entries) table
  same : changes (take count entries) ≡ take n (changes entries)

moment : (t : Table) (entries : List Entry) (u : Table) (n : ℕ) → Leads t entries u → Moment t entries n
moment t [] u zero leads = record { count = 0; table = t; leads = refl; same = refl }
moment t [] u (suc n) leads = record { count = 0; table = t; leads = refl; same = refl }
moment t (entry ∷ entries) u zero leads = record { count = 0; table = t; leads = refl; same = refl }
moment t (entry ∷ entries) u (suc n) (next, first, rest) =
    elim (is_change entry.event) as (λ c. is_change entry.event ≡ c → Moment t (entry ∷ entries) (suc n)) [
      | true ↦ λ is.
          let more = moment next entries u n rest in
          record {
            count = suc more.count;
            table = more.table;
            leads = (next, first, more.leads);
            same = (λ i. if is i then entry ∷ changes (take more.count entries) else changes (take more.count entries))
                ∙ ap (λ es. entry ∷ es) more.same
                ∙ (λ i. take (suc n) (if sym is i then entry ∷ changes entries else changes entries));
          }
      | false ↦ λ is.
          let more = moment next entries u (suc n) rest in
          record {
            count = suc more.count;
            table = more.table;
            leads = (next, first, more.leads);
            same = (λ i. if is i then entry ∷ changes (take more.count entries) else changes (take more.count entries))
                ∙ more.same
                ∙ (λ i. take (suc n) (if sym is i then entry ∷ changes entries else changes entries));
          }
    ] refl

pub After-between : (t : Table) (entries : List Entry) (u : Table) (n : ℕ) → Leads t entries u
    → (count : ℕ) × (middle : Table) × Leads t (take count entries) middle × (After t entries n ≡ closed middle)
After-between t entries u n leads =
    let found = moment t entries u n leads in (
      found.count,
      found.table,
      found.leads,
      ap (λ es. closed (after_entries t es)) (sym found.same)
          ∙ changes_lead t t (take found.count entries) found.table found.leads refl,
    )

-- what a call may be answered has nothing to do with holds, but for those that take one or give one up
closed_groups : (t : Table) → length (closed t).groups ≡ length t.groups
closed_groups t = length-map t.groups (map_group closed_inode)

next_key-closed : (t : Table) (g : ℕ) → lowest_key g (prepared t.blocks g (group_at (closed t) g)) ≡ lowest_key g (prepared t.blocks g (group_at t g))
next_key-closed t g =
    ap (λ group. lowest_key g (prepared t.blocks g group)) (group_of-map closed_inode t g)
    ∙ ap (lowest_key g) (prepared-closed t.blocks g (group_at t g)) ∙ ap (λ keys. slice_get keys 0) (free_keys-closed g (prepared t.blocks g (group_at t g)))

no_number-closed : (t : Table) (g : ℕ) → (lowest_key g (group_at (closed t) g) ≡ lowest_key g (group_at t g)) × (chunk_place t.blocks (group_at (closed t) g) ≡ chunk_place t.blocks (group_at t g))
no_number-closed t g = (
  ap (lowest_key g) (group_of-map closed_inode t g) ∙ ap (λ keys. slice_get keys 0) (free_keys-closed g (group_at t g)),
  ap (chunk_place t.blocks) (group_of-map closed_inode t g) ∙ chunk_place-closed t.blocks (group_at t g),
)

along : (P : List ℕ → Type 0) (a b : List ℕ) → a ≡ b → P a ↔ P b
along P a b same = (subst P same, subst P (sym same))

abbrev shut : Row → Row
shut row = record { links = row.links; blocks = row.blocks; opens = 0 }

row_answers : (t : Table) (row : Row) (called : Call) (answer : Reply) → IsNoHold called → RowReplies (closed t) (shut row) called answer ↔ RowReplies t row called answer
row_answers t row (call.OpenKey key) answer no-hold = absurd no-hold
row_answers t row (call.CloseKey key) answer no-hold = absurd no-hold
row_answers t row (call.Grow key count) reply.NoSpace no-hold = along (λ (free : List ℕ). length free < count) (free_of (closed t) key) (free_of t key) (free_of-closed t key)
row_answers t row (call.Grow key count) reply.TooManyExtents no-hold =
    along (λ (free : List ℕ). (length free < count → ⊥) × (MAX_EXTENTS < length (runs (row.blocks ++ take count free)))) (free_of (closed t) key) (free_of t key) (free_of-closed t key)
row_answers t row (call.Grow key count) reply.Done no-hold =
    along (λ (free : List ℕ). (length free < count → ⊥) × (length (runs (row.blocks ++ take count free)) ≤ MAX_EXTENTS)) (free_of (closed t) key) (free_of t key) (free_of-closed t key)
row_answers t row _ _ no-hold = (λ h. h, λ h. h)

key_answers : (t : Table) (o : Option Row) (called : Call) (answer : Reply) → IsNoHold called → KeyReplies (closed t) (closed_row o) called answer ↔ KeyReplies t o called answer
key_answers t (Some row) called answer no-hold = row_answers t row called answer no-hold
key_answers t None (call.OpenKey key) answer no-hold = absurd no-hold
key_answers t None _ answer no-hold = (λ h. h, λ h. h)

key_permits : (t : Table) (key : Key) (called : Call) (answer : Reply) → IsNoHold called → KeyReplies (closed t) (row_of (closed t) key) called answer ↔ KeyReplies t (row_of t key) called answer
key_permits t key called answer no-hold =
    let both = key_answers t (row_of t key) called answer no-hold in
    (λ h. both.0 (subst (λ o. KeyReplies (closed t) o called answer) (row_of-closed t key) h), λ h. subst (λ o. KeyReplies (closed t) o called answer) (sym (row_of-closed t key)) (both.1 h))

below : (t : Table) (g : ℕ) → (g < length (closed t).groups) ↔ (g < length t.groups)
below t g = (subst (λ n. g < n) (closed_groups t), subst (λ n. g < n) (sym (closed_groups t)))

next_permits : (t : Table) (g : ℕ) (key : Key) → IsNextKey (closed t) g key ↔ IsNextKey t g key
next_permits t g key =
    (λ h. ((below t g).0 h.0, sym (next_key-closed t g) ∙ h.1), λ h. ((below t g).1 h.0, next_key-closed t g ∙ h.1))

none_permits : (t : Table) (g : ℕ) → ((g < length (closed t).groups) × HasNoNumber (closed t) g) ↔ ((g < length t.groups) × HasNoNumber t g)
none_permits t g =
    let same = no_number-closed t g in
    (λ h. ((below t g).0 h.0, (sym same.0 ∙ h.1.0, sym same.1 ∙ h.1.1)), λ h. ((below t g).1 h.0, (same.0 ∙ h.1.0, same.1 ∙ h.1.1)))

pub permits-closed : (t : Table) (called : Call) (answer : Reply) → IsNoHold called → Permits (closed t) called answer ↔ Permits t called answer
permits-closed t (call.OpenKey key) answer no-hold = absurd no-hold
permits-closed t (call.CloseKey key) answer no-hold = absurd no-hold
permits-closed t (call.Create g) (reply.Made key) no-hold = next_permits t g key
permits-closed t (call.Create g) reply.NoInodes no-hold = none_permits t g
permits-closed t (call.Tmpfile g) (reply.Made key) no-hold = next_permits t g key
permits-closed t (call.Tmpfile g) reply.NoInodes no-hold = none_permits t g
permits-closed t (call.Link key) answer no-hold = key_permits t key (call.Link key) answer tt
permits-closed t (call.Unlink key) answer no-hold = key_permits t key (call.Unlink key) answer tt
permits-closed t (call.Grow key count) answer no-hold = key_permits t key (call.Grow key count) answer tt
permits-closed t (call.Cut key count) answer no-hold = key_permits t key (call.Cut key count) answer tt
permits-closed t (call.Stat key) answer no-hold = key_permits t key (call.Stat key) answer tt
permits-closed t _ _ no-hold = (λ h. h, λ h. h)

awaits_shut : (o : Option Row) → IsSomeAnd o Awaits → IsSomeAnd (closed_row o) Awaits
awaits_shut None h = h
awaits_shut (Some row) h = (h.0, refl)

pub awaits-closed : (t : Table) (key : Key) → IsSomeAnd (row_of t key) Awaits → IsSomeAnd (row_of (closed t) key) Awaits
awaits-closed t key h = subst (λ o. IsSomeAnd o Awaits) (sym (row_of-closed t key)) (awaits_shut (row_of t key) h)
