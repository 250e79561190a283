-- The table that a state has is that of which it is the group.
use Rattle.std.proofs.Common.{◌≡◌, ◌<◌, ◌≤◌, ◌+◌, ◌%◌, ℕ, zero, suc, true, List, [], ◌∷◌, Option, None, Some, length, map, get_or, refl, ap, sym, ◌∙◌, subst, arith, zero-add}
use Rattle.std.specs.Prelude.{IfSome, IsSomeAnd}
use Rattle.std.specs.List.{flat_map, range_with_len}
use Rattle.std.proofs.lemmas.List.{get_or-map, length-map, same_lists}
use Rattle.std.proofs.lemmas.List.FromFn.{get_or-map-range_with_len, length-map-range_with_len}
use Rattle.std.proofs.lemmas.Option.{slice_get-get_or}
use Rattle.life_limits.specs.declared.TheConstants.{BUCKETS, CHUNK_INODES, MAX_EXTENTS, MAX_GROUPS}
use Rattle.life_bytes.specs.declared.sector.Sector.{Sector}
use Rattle.geometry.specs.Shape.{IsGeometry}
use Rattle.inode_core.specs.declared.shape.Core.{Core}
use Rattle.inode_core.specs.Cores.{IsCore}
use Rattle.inode_core.specs.Reading.{core_in}
use Rattle.extent_fork.specs.declared.extent.Extent.{Extent}
use Rattle.extent_fork.specs.Reading.{runs_in}
use Rattle.extent_fork.specs.Runs.{blocks_of, runs}
use Rattle.inode_cache.specs.declared.inode.Kept.{Kept}
use Rattle.inode_cache.specs.Inodes.{incore_encoding}
use Rattle.life_table.specs.declared.types.Row.{Row}
use Rattle.life_table.specs.declared.table.Inode.{Inode}
use Rattle.life_table.specs.declared.table.Chunk.{Chunk}
use Rattle.life_table.specs.declared.table.Table.{Table}
use Rattle.life_table.specs.History.{closed, closed_inode, closed_row}
use Rattle.life_table.specs.Space.{row_blocks}
use Rattle.life_table.specs.Table.{Group, empty_table, group_at, inode_in, map_chunk, map_group, with_group}
use Rattle.life_table.specs.WellFormed.{ChunksAscend, IsChunk}
use Rattle.sound_image.specs.Encoding.{Layouts, bucket_list, core_for, next_in}
use Rattle.group_frame.specs.Frames.{alone}
use Rattle.group_ops.specs.Buffers.{Buffers, buffer_in}
use Rattle.group_ops.specs.Changes.{with_room}
use Rattle.group_ops.specs.OwnTable.{chunk_seen, chunks_seen, inode_by, inode_seen, incore_in_buffer, incore_read, incore_seen, own_table}
use Rattle.group_ops.specs.Represents.{IsGroupOf, incore_for}
use Rattle.group_ops.specs.Telling.{HasRowAt}
use Rattle.group_ops.specs.Values.{StateValue, kept_at}
use Rattle.group_ops.proofs.Inodes.{all_get, inode_at_chunk}
use Rattle.group_ops.proofs.RowLines.{as_many_buffers, groups_ascend, start_of_chunk}
use Rattle.group_ops.proofs.Seen.{ForksStand, has_fork}
use Rattle.group_ops.proofs.Shown.{Lower, clean_buffer, core_read}
use Rattle.group_ops.proofs.Told.{chunks_of, encodes}

-- the laws that this rests on
pub record OwnLaws : Type 0 where
  pub lower : Lower
  pub stand : ForksStand

-- ---- one inode

-- an inode in core is one of the table, holds aside
by_row : (generation next : ℕ) (row : Option Row) → let inode : Inode = inode_by (record { core = core_for generation row next; blocks = row_blocks row }) in inode ≡ record { generation = generation; row = closed_row row }
unfolding core_for
by_row generation next None = refl
by_row generation next (Some row) = refl

pub by_incore : (layouts : Layouts) (group agino : ℕ) (inode : Inode) → inode_by (incore_for layouts group agino inode) ≡ closed_inode inode
by_incore layouts group agino inode = by_row inode.generation (next_in (bucket_list layouts group (agino % BUCKETS)) agino) inode.row

-- what a sector gives of an inode depends on its blocks only where it is in use
dead_row : (generation next : ℕ) (blocks : List ℕ) → let inode : Inode = inode_by (record { core = core_for generation None next; blocks = blocks }) in inode ≡ record { generation = generation; row = None }
unfolding core_for
dead_row generation next blocks = refl

read_blocks : OwnLaws → (s : StateValue) (t : Table) (layouts : Layouts) (agino : ℕ) (inode : Inode) (row : Row) (bytes : List ℕ) → IsGeometry s.geometry → s.group < s.geometry.groups → HasRowAt s agino t layouts inode row
    → bytes ≡ incore_encoding s.group s.geometry.uuid agino (incore_for layouts s.group agino inode) → length (runs row.blocks) ≤ MAX_EXTENTS
    → flat_map blocks_of (runs_in (length (runs row.blocks)) bytes) ≡ row.blocks
read_blocks l s t layouts agino inode row bytes shape inside has same few =
    let fork = has_fork l.lower.sectors l.stand s t layouts agino inode row bytes shape inside has same in
    let small : s.group < MAX_GROUPS = omega (arith, inside, shape.groups.1) in
    ap (λ (list : List Extent). flat_map blocks_of list) (l.lower.forks.read bytes (length (runs row.blocks)) s.group (runs row.blocks) small few fork) ∙ l.lower.forks.blocks row.blocks

live_row : (generation next : ℕ) (row : Row) (bytes : List ℕ) → flat_map blocks_of (runs_in (length (runs row.blocks)) bytes) ≡ row.blocks
    → let core : Core = core_for generation (Some row) next in
    let inode : Inode = inode_by (record { core = core; blocks = flat_map blocks_of (runs_in core.extents bytes) }) in
    inode ≡ record { generation = generation; row = closed_row (Some row) }
unfolding core_for
live_row generation next row bytes e = ap (λ (b : List ℕ). let inode : Inode = record { generation = generation; row = Some (record { links = row.links; blocks = b; opens = 0 }) } in inode) e

few_runs : (generation next : ℕ) (row : Row) → (core_for generation (Some row) next).extents ≤ MAX_EXTENTS → length (runs row.blocks) ≤ MAX_EXTENTS
unfolding core_for
few_runs generation next row few = few

is_live : (generation next : ℕ) (row : Row) → (core_for generation (Some row) next).live ≡ true
unfolding core_for
is_live generation next row = refl

read_by : OwnLaws → (s : StateValue) (t : Table) (layouts : Layouts) (agino : ℕ) (inode : Inode) (r : Option Row) (bytes : List ℕ) → IsGeometry s.geometry → s.group < s.geometry.groups → IsGroupOf s t layouts
    → inode_in (group_at t s.group) agino ≡ Some inode → inode.row ≡ r → bytes ≡ incore_encoding s.group s.geometry.uuid agino (incore_for layouts s.group agino inode)
    → core_in bytes ≡ core_for inode.generation inode.row (next_in (bucket_list layouts s.group (agino % BUCKETS)) agino)
    → IsCore (core_for inode.generation inode.row (next_in (bucket_list layouts s.group (agino % BUCKETS)) agino)) → inode_by (incore_read bytes) ≡ closed_inode inode
read_by l s t layouts agino inode None bytes shape inside is there used same core allowed =
    let next : ℕ = next_in (bucket_list layouts s.group (agino % BUCKETS)) agino in
    let e : core_in bytes ≡ core_for inode.generation None next = core ∙ ap (λ (r : Option Row). core_for inode.generation r next) used in
    ap (λ (c : Core). inode_by (record { core = c; blocks = flat_map blocks_of (runs_in c.extents bytes) })) e
    ∙ dead_row inode.generation next (flat_map blocks_of (runs_in (core_for inode.generation None next).extents bytes))
    ∙ ap (λ (r : Option Row). let x : Inode = record { generation = inode.generation; row = closed_row r } in x) (sym used)
read_by l s t layouts agino inode (Some row) bytes shape inside is there used same core allowed =
    let next : ℕ = next_in (bucket_list layouts s.group (agino % BUCKETS)) agino in
    let e : core_in bytes ≡ core_for inode.generation (Some row) next = core ∙ ap (λ (r : Option Row). core_for inode.generation r next) used in
    let right = subst (λ (r : Option Row). IsCore (core_for inode.generation r next)) used allowed in
    let few = few_runs inode.generation next row (right.live (is_live inode.generation next row)).extents in
    let has : HasRowAt s agino t layouts inode row = record { group = is; inode_there = there; used = used } in
    ap (λ (c : Core). inode_by (record { core = c; blocks = flat_map blocks_of (runs_in c.extents bytes) })) e
    ∙ live_row inode.generation next row bytes (read_blocks l s t layouts agino inode row bytes shape inside has same few)
    ∙ ap (λ (r : Option Row). let x : Inode = record { generation = inode.generation; row = closed_row r } in x) (sym used)

-- a sector that encodes an inode gives it
read_sector : OwnLaws → (s : StateValue) (t : Table) (layouts : Layouts) (agino : ℕ) (inode : Inode) (bytes : List ℕ) → IsGeometry s.geometry → s.group < s.geometry.groups → IsGroupOf s t layouts
    → inode_in (group_at t s.group) agino ≡ Some inode → bytes ≡ incore_encoding s.group s.geometry.uuid agino (incore_for layouts s.group agino inode) → inode_by (incore_read bytes) ≡ closed_inode inode
read_sector l s t layouts agino inode bytes shape inside is there same =
    let next : ℕ = next_in (bucket_list layouts s.group (agino % BUCKETS)) agino in
    let allowed = (encodes l.lower.sectors l.lower.cores s t layouts agino inode bytes shape inside is there same).allowed in
    let core = core_read l.lower.read l.lower.forks s.group agino inode.generation next s.geometry.uuid bytes inode.row shape.uuid allowed same in
    read_by l s t layouts agino inode inode.row bytes shape inside is there refl same core allowed

read_buffer : OwnLaws → (s : StateValue) (t : Table) (layouts : Layouts) (agino : ℕ) (inode : Inode) (b : Option Sector) → IsGeometry s.geometry → s.group < s.geometry.groups → IsGroupOf s t layouts
    → inode_in (group_at t s.group) agino ≡ Some inode
    → IsSomeAnd b (λ sector. sector.bytes ≡ incore_encoding s.group s.geometry.uuid agino (incore_for layouts s.group agino inode))
    → inode_by (incore_in_buffer b) ≡ closed_inode inode
read_buffer l s t layouts agino inode None shape inside is there has = absurd has
read_buffer l s t layouts agino inode (Some sector) shape inside is there has = read_sector l s t layouts agino inode sector.bytes shape inside is there has

seen_by : OwnLaws → (s : StateValue) (t : Table) (layouts : Layouts) (agino : ℕ) (inode : Inode) (k : Option Kept) → IsGeometry s.geometry → s.group < s.geometry.groups → IsGroupOf s t layouts
    → inode_in (group_at t s.group) agino ≡ Some inode → kept_at s agino ≡ k → inode_by (incore_seen k (buffer_in s.buffers agino)) ≡ closed_inode inode
seen_by l s t layouts agino inode None shape inside is there at =
    read_buffer l s t layouts agino inode (buffer_in s.buffers agino) shape inside is there
    (clean_buffer (buffer_in s.buffers agino) (kept_at s agino) (incore_encoding s.group s.geometry.uuid agino (incore_for layouts s.group agino inode)) at (is.inodes agino inode there).buffer)
seen_by l s t layouts agino inode (Some kept) shape inside is there at =
    let same = subst (λ (k : Option Kept). IfSome k (λ x. x.inode ≡ incore_for layouts s.group agino inode)) at (is.inodes agino inode there).in_core in
    ap inode_by same ∙ by_incore layouts s.group agino inode

-- an inode of the table is as the state has it
pub inode_is : OwnLaws → (s : StateValue) (t : Table) (layouts : Layouts) (agino : ℕ) (inode : Inode) → IsGeometry s.geometry → s.group < s.geometry.groups → IsGroupOf s t layouts
    → inode_in (group_at t s.group) agino ≡ Some inode → inode_seen s agino ≡ closed_inode inode
unfolding inode_seen
inode_is l s t layouts agino inode shape inside is there = seen_by l s t layouts agino inode (kept_at s agino) shape inside is there refl

-- ---- chunks

chunk_by : OwnLaws → (s : StateValue) (t : Table) (layouts : Layouts) (k : ℕ) (d : Chunk) → IsGeometry s.geometry → s.group < s.geometry.groups → IsGroupOf s t layouts → k < length (group_at t s.group)
    → map (λ index. inode_seen s ((get_or (group_at t s.group) k d).start + index)) (range_with_len 0 CHUNK_INODES) ≡ map closed_inode (get_or (group_at t s.group) k d).inodes
chunk_by l s t layouts k d shape inside is low =
    let chunks : Group = group_at t s.group in
    let c : Chunk = get_or chunks k d in
    let all = chunks_of t s.group is.table.groups in
    let ascends : ChunksAscend chunks = groups_ascend t.blocks t.groups s.group is.table.groups in
    let whole = (all_get IsChunk chunks k d all low).whole in
    let seen : ℕ → Inode = λ index. inode_seen s (c.start + index) in
    let x : Inode = record { generation = 0; row = None } in
    same_lists (map seen (range_with_len 0 CHUNK_INODES)) (map closed_inode c.inodes)
    (length-map-range_with_len seen 0 CHUNK_INODES ∙ sym whole ∙ sym (length-map c.inodes closed_inode))
    (λ i e within.
    let small : i < CHUNK_INODES = omega (arith, within, length-map-range_with_len seen 0 CHUNK_INODES) in
    let there = inode_at_chunk chunks k i d all ascends low small ∙ slice_get-get_or c.inodes i x (omega (arith, small, whole)) in
    get_or-map-range_with_len seen 0 CHUNK_INODES i i e small (zero-add i)
    ∙ inode_is l s t layouts (c.start + i) (get_or c.inodes i x) shape inside is there
    ∙ sym (get_or-map closed_inode c.inodes i x e (omega (arith, small, whole))))

chunk_is : OwnLaws → (s : StateValue) (t : Table) (layouts : Layouts) (k : ℕ) (d : Chunk) → IsGeometry s.geometry → s.group < s.geometry.groups → IsGroupOf s t layouts → k < length (group_at t s.group)
    → chunk_seen s (get_or (group_at t s.group) k d).start ≡ map_chunk closed_inode (get_or (group_at t s.group) k d)
unfolding chunk_seen
chunk_is l s t layouts k d shape inside is low =
    ap (λ (inodes : List Inode). let chunk : Chunk = record { start = (get_or (group_at t s.group) k d).start; inodes = inodes } in chunk) (chunk_by l s t layouts k d shape inside is low)

pub chunks_are : OwnLaws → (s : StateValue) (t : Table) (layouts : Layouts) → IsGeometry s.geometry → s.group < s.geometry.groups → IsGroupOf s t layouts
    → chunks_seen s ≡ map_group closed_inode (group_at t s.group)
unfolding chunks_seen
chunks_are l s t layouts shape inside is =
    let chunks : Group = group_at t s.group in
    let seen : Buffers → Chunk = λ (chunk : Buffers). chunk_seen s chunk.start in
    let closes : Chunk → Chunk = map_chunk closed_inode in
    let x : Buffers = record { start = 0; sectors = [] } in
    let y : Chunk = record { start = 0; inodes = [] } in
    let many = as_many_buffers s.buffers chunks is.starts in
    same_lists (map seen s.buffers) (map closes chunks)
    (length-map s.buffers seen ∙ many ∙ sym (length-map chunks closes))
    (λ k e within.
    let low : k < length s.buffers = omega (arith, within, length-map s.buffers seen) in
    get_or-map seen s.buffers k x e low
    ∙ ap (chunk_seen s) (sym (start_of_chunk s.buffers chunks k x y is.starts low))
    ∙ chunk_is l s t layouts k y shape inside is (omega (arith, low, many))
    ∙ sym (get_or-map closes chunks k y e (omega (arith, low, many))))

-- ---- the table

closed_group : (groups : List Group) (g : ℕ) → get_or (map (map_group closed_inode) groups) g [] ≡ map_group closed_inode (get_or groups g [])
closed_group [] g = refl
closed_group (x ∷ xs) zero = refl
closed_group (x ∷ xs) (suc g) = closed_group xs g

pub table_is : OwnLaws → ((t : Table) (g : ℕ) → closed (alone t g) ≡ alone (closed t) g) → (s : StateValue) (t : Table) (layouts : Layouts) → IsGeometry s.geometry → s.group < s.geometry.groups → IsGroupOf s t layouts
    → own_table s ≡ closed (alone t s.group)
unfolding own_table
table_is l law s t layouts shape inside is =
    let version : s.geometry.version ≡ t.version = shape.version ∙ sym is.table.version in
    let count : s.geometry.groups ≡ length (closed t).groups = sym is.groups ∙ sym (length-map t.groups (map_group closed_inode)) in
    let chunks : chunks_seen s ≡ group_at (closed t) s.group = chunks_are l s t layouts shape inside is ∙ sym (closed_group t.groups s.group) in
    ap (λ (v : ℕ). with_group (empty_table v s.geometry.groups s.geometry.blocks) s.group (chunks_seen s)) version
    ∙ ap (λ (n : ℕ). with_group (empty_table t.version n s.geometry.blocks) s.group (chunks_seen s)) count
    ∙ ap (λ (b : ℕ). with_group (empty_table t.version (length (closed t).groups) b) s.group (chunks_seen s)) (sym is.blocks)
    ∙ ap (λ (chunks : Group). with_group (empty_table t.version (length (closed t).groups) t.blocks) s.group chunks) chunks
    ∙ sym (law t s.group)

-- room is not seen
pub own_roomed : (s : StateValue) (room : ℕ) → own_table (with_room s room) ≡ own_table s
unfolding own_table chunks_seen chunk_seen inode_seen
own_roomed s room = refl
