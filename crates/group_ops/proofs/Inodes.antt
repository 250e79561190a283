-- Where the inodes of a group's chunks are.
use Rattle.std.proofs.Common.{◌≡◌, ◌≢◌, ◌<◌, ◌≤◌, ◌+◌, ◌%◌, ℕ, zero, suc, eqb, List, [], ◌∷◌, Some, None, length, map, get_or, refl, ap, ◌∙◌, arith, All}
use Rattle.std.specs.List.{AllByRecursion, slice_get}
use Rattle.std.proofs.lemmas.Bool.{cond-true, cond-false, eq-eqb, ne_eqb}
use Rattle.std.proofs.lemmas.Option.{slice_get-get_or}
use Rattle.geometry.specs.declared.shape.Geometry.{Geometry}
use Rattle.geometry.specs.Places.{group_sectors}
use Rattle.inobt_leaf.specs.declared.chunk.ChunkRec.{ChunkRec}
use Rattle.life_bytes.specs.declared.sector.Sector.{Sector}
use Rattle.life_table.specs.declared.table.Inode.{Inode}
use Rattle.life_table.specs.declared.table.Chunk.{Chunk}
use Rattle.life_table.specs.declared.table.Table.{Table}
use Rattle.life_table.specs.Table.{Group, group_at, start_of, inode_in}
use Rattle.life_table.specs.WellFormed.{ChunksAscend, IsChunk, IsGroup}
use Rattle.sound_image.specs.Encoding.{CanEncode, Layouts, chunk_record}
use Rattle.sound_image.specs.Rules.{IsInData}

pub inode_first : (c : Chunk) (cs : Group) (agino : ℕ) → c.start ≡ start_of agino → inode_in (c ∷ cs) agino ≡ slice_get c.inodes (agino % 64)
unfolding inode_in
inode_first c cs agino e = cond-true (eqb c.start (start_of agino)) (slice_get c.inodes (agino % 64)) (inode_in cs agino) (eq-eqb c.start (start_of agino) e)

pub inode_later : (c : Chunk) (cs : Group) (agino : ℕ) → c.start ≢ start_of agino → inode_in (c ∷ cs) agino ≡ inode_in cs agino
unfolding inode_in
inode_later c cs agino ne = cond-false (eqb c.start (start_of agino)) (slice_get c.inodes (agino % 64)) (inode_in cs agino) (ne_eqb c.start (start_of agino) ne)

pub all_get : {X : Type 0} (P : X → Type 0) (xs : List X) (k : ℕ) (d : X) → AllByRecursion P xs → k < length xs → P (get_or xs k d)
all_get P [] k d all low = absurd (omega arith)
all_get P (x ∷ xs) zero d all low = all.0
all_get P (x ∷ xs) (suc k) d all low = all_get P xs k d all.1 (omega arith)

-- an inode of a chunk, by its place in it
pub inode_at_chunk : (chunks : Group) (k i : ℕ) (d : Chunk) → AllByRecursion IsChunk chunks → ChunksAscend chunks → k < length chunks → i < 64
    → inode_in chunks ((get_or chunks k d).start + i) ≡ slice_get (get_or chunks k d).inodes i
inode_at_chunk [] k i d all ascends low small = absurd (omega arith)
inode_at_chunk (c ∷ cs) zero i d all ascends low small =
    let aligned = all.0.start in
    let e : c.start ≡ start_of (c.start + i) = omega (arith, aligned, small) in
    let index : (c.start + i) % 64 ≡ i = omega (arith, aligned, small) in
    inode_first c cs (c.start + i) e ∙ ap (λ (n : ℕ). slice_get c.inodes n) index
inode_at_chunk (c ∷ cs) (suc k) i d all ascends low small =
    let up = all_get (λ (later : Chunk). c.start < later.start) cs k d ascends.0 (omega arith) in
    let aligned = (all_get IsChunk cs k d all.1 (omega arith)).start in
    inode_later c cs ((get_or cs k d).start + i) (λ e. omega (arith, e, up, aligned, small)) ∙ inode_at_chunk cs k i d all.1 ascends.1 (omega arith) small

-- a group of a well-formed table
pub group_of : (blocks : ℕ) (groups : List Group) (group : ℕ) → AllByRecursion (IsGroup blocks) groups → group < length groups → IsGroup blocks (get_or groups group [])
group_of blocks groups group all low = all_get (IsGroup blocks) groups group [] all low

pub record_at : (chunks : Group) (k : ℕ) (d : ChunkRec) (e : Chunk) → k < length (map chunk_record chunks) → (get_or (map chunk_record chunks) k d).start ≡ (get_or chunks k e).start
unfolding chunk_record
record_at [] k d e low = absurd (omega arith)
record_at (c ∷ cs) zero d e low = refl
record_at (c ∷ cs) (suc k) d e low = record_at cs k d e (omega arith)

pub as_many_records : (chunks : Group) → length (map chunk_record chunks) ≡ length chunks
as_many_records [] = refl
as_many_records (c ∷ cs) = ap (λ (n : ℕ). suc n) (as_many_records cs)

-- the blocks of the chunks of a table that an image can encode are data blocks
pub in_data : ((g : Geometry) (t : Table) (layouts : Layouts) (image : List Sector) (group agino : ℕ) (inode : Inode) → CanEncode g t layouts image → group < g.groups
    → inode_in (group_at t group) agino ≡ Some inode → (192 ≤ agino) × (agino < group_sectors g))
    → (g : Geometry) (t : Table) (layouts : Layouts) (image : List Sector) (group : ℕ) → CanEncode g t layouts image → group < g.groups
    → All (IsInData g.blocks) (map chunk_record (group_at t group))
in_data place g t layouts image group can inside k d low =
    let chunks : Group = group_at t group in
    let e : Chunk = record { start = 0; inodes = [] } in
    let is : IsGroup t.blocks chunks = group_of t.blocks t.groups group can.table.groups (omega (arith, can.groups, inside)) in
    let below : k < length chunks = omega (arith, low, as_many_records chunks) in
    let own = all_get IsChunk chunks k e is.chunks below in
    let x : Inode = record { generation = 0; row = None } in
    let first = place g t layouts image group ((get_or chunks k e).start + 0) (get_or (get_or chunks k e).inodes 0 x) can inside
    (inode_at_chunk chunks k 0 e is.chunks is.ascends below (omega arith) ∙ slice_get-get_or (get_or chunks k e).inodes 0 x (omega (arith, own.whole))) in
    let last = place g t layouts image group ((get_or chunks k e).start + 63) (get_or (get_or chunks k e).inodes 63 x) can inside
    (inode_at_chunk chunks k 63 e is.chunks is.ascends below (omega arith) ∙ slice_get-get_or (get_or chunks k e).inodes 63 x (omega (arith, own.whole))) in
    let same = record_at chunks k d e low in
    (omega (arith, first, same, own.start), omega (arith, last, same, own.start))
