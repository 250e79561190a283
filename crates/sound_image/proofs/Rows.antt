-- The rows, chunks and generations of an image that encodes a table are the table's.
use Rattle.std.proofs.Common.{◌≡◌, ◌<◌, ◌+◌, ◌%◌, ℕ, zero, suc, Bool, true, false, cond, List, [], ◌∷◌, Option, None, Some, length, map, get_or, eqb, refl, ap, sym, ◌∙◌, arith}
use Rattle.std.specs.Prelude.{is_none}
use Rattle.std.specs.Option.{option_map, option_and_then}
use Rattle.std.specs.List.{range_with_len, AllByRecursion, slice_get}
use Rattle.std.proofs.lemmas.Bool.{cond-true, cond-false, eq-eqb, ne_eqb}
use Rattle.std.proofs.lemmas.List.{same_lists, length-map, get_or-map}
use Rattle.std.proofs.lemmas.List.Elements.{All-from_recursion}
use Rattle.std.proofs.lemmas.List.FromFn.{length-map-range_with_len, get_or-map-range_with_len}
use Rattle.std.proofs.lemmas.Option.{none-some, same_Some, slice_get-map, slice_get-get_or}
use Rattle.life_bytes.specs.declared.sector.Sector.{Sector}
use Rattle.life_bytes.specs.Bits.{is_set}
use Rattle.geometry.specs.declared.shape.Geometry.{Geometry}
use Rattle.inode_core.specs.declared.shape.Core.{Core}
use Rattle.inobt_leaf.specs.declared.chunk.ChunkRec.{ChunkRec}
use Rattle.life_table.specs.declared.types.Row.{Row}
use Rattle.life_table.specs.declared.table.Inode.{Inode}
use Rattle.life_table.specs.declared.table.Chunk.{Chunk}
use Rattle.life_table.specs.declared.table.Table.{Table}
use Rattle.life_table.specs.Table.{Group, group_at, inode_in, start_of}
use Rattle.life_table.specs.History.{closed, closed_inode, closed_row}
use Rattle.life_table.specs.WellFormed.{IsChunk, ChunksAscend}
use Rattle.sound_image.specs.Reading.{core_of, blocks_in, inode_read, chunk_read, group_read, rows_of, inode_at, row_at}
use Rattle.sound_image.specs.Encoding.{Layouts, CanEncode, mask_of, chunk_record, core_for, encoded}
use Rattle.sound_image.proofs.Headers.{records_are}
use Rattle.sound_image.proofs.Inodes.{stored, stored_runs, blocks_are, next_for}
use Rattle.sound_image.proofs.Leaves.{unused, no_chunk, below_later}
use Rattle.sound_image.proofs.Ready.{Lower, IsReady, ready}

-- ---- the inode of a number of a chunk

-- a chunk starts at a multiple of 64
abbrev pub IsAligned : Chunk → Type 0
IsAligned c = c.start % 64 ≡ 0

aligned : (group : Group) → AllByRecursion IsChunk group → AllByRecursion IsAligned group
aligned [] all = tt
aligned (c ∷ cs) all = (all.0.start, aligned cs all.1)

pub in_chunk : (group : Group) (k i : ℕ) (d : Chunk) → ChunksAscend group → AllByRecursion IsAligned group → k < length group → i < 64
    → inode_in group ((get_or group k d).start + i) ≡ slice_get (get_or group k d).inodes i
unfolding inode_in
in_chunk [] k i d up all lt low = absurd (omega arith)
in_chunk (c ∷ cs) zero i d up all lt low =
    let even = all.0 in
    let start : c.start ≡ start_of (c.start + i) = omega arith in
    let rest : (c.start + i) % 64 ≡ i = omega arith in
    cond-true (eqb c.start (start_of (c.start + i))) _ _ (eq-eqb c.start (start_of (c.start + i)) start) ∙ ap (slice_get c.inodes) rest
in_chunk (c ∷ cs) (suc k) i d up all lt low =
    let a : ℕ = (get_or cs k d).start + i in
    let above = below_later c.start cs k d up.0 (omega arith) in
    let even = All-from_recursion IsAligned cs all.1 k d (omega arith) in
    cond-false (eqb c.start (start_of a)) _ _ (ne_eqb c.start (start_of a) (λ e. omega arith)) ∙ in_chunk cs k i d up.1 all.1 (omega arith) low

-- ---- one inode

abbrev made : ℕ → Option Row → Inode
made generation row = record { generation = generation; row = row }

abbrev pub row_made : ℕ → List ℕ → Row
row_made links blocks = record { links = links; blocks = blocks; opens = 0 }

generation_for : (generation next : ℕ) (o : Option Row) → (core_for generation o next).generation ≡ generation
unfolding core_for
generation_for generation next None = refl
generation_for generation next (Some row) = refl

row_read : (o : Option Row) (b : Bool) (links : ℕ) (blocks : List ℕ) → b ≡ is_none o → ((row : Row) → o ≡ Some row → (links ≡ row.links) × (blocks ≡ row.blocks))
    → cond b None (Some (row_made links blocks)) ≡ closed_row o
row_read None b links blocks e same = cond-true b None (Some (row_made links blocks)) e
row_read (Some row) b links blocks e same =
    let s = same row refl in
    cond-false b None (Some (row_made links blocks)) e ∙ ap (λ (n : ℕ). Some (row_made n blocks)) s.0 ∙ ap (λ (bs : List ℕ). Some (row_made row.links bs)) s.1

mask_bit : (l : Lower) (inodes : List Inode) (i : ℕ) (d : Inode) → i < length inodes → is_set (mask_of inodes) i ≡ is_none (get_or inodes i d).row
unfolding mask_of
mask_bit l inodes i d lt = l.bits.bit (map unused inodes) i ∙ get_or-map unused inodes i d false lt

inode_is : (l : Lower) (g : Geometry) (t : Table) (layouts : Layouts) (image : List Sector) (group : ℕ) (c : Chunk) (i : ℕ) (x : Inode) → IsReady g t layouts image group
    → inode_in (group_at t group) (c.start + i) ≡ Some x → is_set (mask_of c.inodes) i ≡ is_none x.row → inode_read g (encoded g t layouts image) group (chunk_record c) i ≡ closed_inode x
unfolding inode_read chunk_record
inode_is l g t layouts image group c i x r found bit =
    let new = encoded g t layouts image in
    let a : ℕ = c.start + i in
    let core = core_of g new group a in
    let generation : core.generation ≡ x.generation =
    ap (λ (k : Core). k.generation) (stored l g t layouts image group a x r found).core_is ∙ generation_for x.generation (next_for layouts group a) x.row in
    let row : cond (is_set (mask_of c.inodes) i) None (Some (row_made core.links (blocks_in g new group a))) ≡ closed_row x.row =
    row_read x.row (is_set (mask_of c.inodes) i) core.links (blocks_in g new group a) bit
    (λ row live. ((stored_runs l g t layouts image group a x row r found live).links, blocks_are l g t layouts image group a x row r found live)) in
    ap (λ (n : ℕ). made n (cond (is_set (mask_of c.inodes) i) None (Some (row_made core.links (blocks_in g new group a))))) generation ∙ ap (made x.generation) row

-- ---- one chunk

abbrev pub closed_chunk : Chunk → Chunk
closed_chunk c = record { start = c.start; inodes = map closed_inode c.inodes }

abbrev chunk_made : ℕ → List Inode → Chunk
chunk_made start inodes = record { start = start; inodes = inodes }

no_inode : Inode
no_inode = record { generation = 0; row = None }

chunk_is : (l : Lower) (g : Geometry) (t : Table) (layouts : Layouts) (image : List Sector) (group k : ℕ) (d : Chunk) → IsReady g t layouts image group → k < length (group_at t group)
    → chunk_read g (encoded g t layouts image) group (chunk_record (get_or (group_at t group) k d)) ≡ closed_chunk (get_or (group_at t group) k d)
unfolding chunk_read chunk_record
chunk_is l g t layouts image group k d r lt =
    let new = encoded g t layouts image in
    let c : Chunk = get_or (group_at t group) k d in
    let is = All-from_recursion IsChunk (group_at t group) r.is_group.chunks k d lt in
    let f : ℕ → Inode = inode_read g new group (chunk_record c) in
    ap (chunk_made c.start) (same_lists (map f (range_with_len 0 64)) (map closed_inode c.inodes)
    (length-map-range_with_len f 0 64 ∙ sym (length-map c.inodes closed_inode ∙ is.whole))
    (λ i e low.
    let below : i < 64 = omega (arith, low, length-map-range_with_len f 0 64) in
    let within : i < length c.inodes = omega (arith, is.whole) in
    let x : Inode = get_or c.inodes i no_inode in
    let found : inode_in (group_at t group) (c.start + i) ≡ Some x =
    in_chunk (group_at t group) k i d r.is_group.ascends (aligned (group_at t group) r.is_group.chunks) lt below ∙ slice_get-get_or c.inodes i no_inode within in
    get_or-map-range_with_len f 0 64 i i e below (omega arith)
    ∙ inode_is l g t layouts image group c i x r found (mask_bit l c.inodes i no_inode within)
    ∙ sym (get_or-map closed_inode c.inodes i no_inode e within)))

-- ---- one group

pub group_is : (l : Lower) (g : Geometry) (t : Table) (layouts : Layouts) (image : List Sector) (group : ℕ) → IsReady g t layouts image group
    → group_read g (encoded g t layouts image) group ≡ map closed_chunk (group_at t group)
unfolding group_read
group_is l g t layouts image group r =
    let new = encoded g t layouts image in
    let chunks = group_at t group in
    let f : ChunkRec → Chunk = chunk_read g new group in
    ap (map f) (records_are l g t layouts image group r)
    ∙ same_lists (map f (map chunk_record chunks)) (map closed_chunk chunks)
    (length-map (map chunk_record chunks) f ∙ length-map chunks chunk_record ∙ sym (length-map chunks closed_chunk))
    (λ k e low.
    let within : k < length chunks = omega (arith, low, length-map (map chunk_record chunks) f, length-map chunks chunk_record) in
    get_or-map f (map chunk_record chunks) k (chunk_record no_chunk) e (omega (arith, length-map chunks chunk_record))
    ∙ ap f (get_or-map chunk_record chunks k no_chunk (chunk_record no_chunk) within)
    ∙ chunk_is l g t layouts image group k no_chunk r within
    ∙ sym (get_or-map closed_chunk chunks k no_chunk e within))

-- ---- the table

abbrev pub table_made : ℕ → ℕ → List Group → Table
table_made version blocks groups = record { version = version; blocks = blocks; groups = groups }

pub closed_is : (t : Table) → closed t ≡ table_made t.version t.blocks (map (map closed_chunk) t.groups)
closed_is t = refl

pub rows_are : (l : Lower) (g : Geometry) (t : Table) (layouts : Layouts) (image : List Sector) → CanEncode g t layouts image → rows_of g (encoded g t layouts image) ≡ closed t
unfolding rows_of
rows_are l g t layouts image can =
    let new = encoded g t layouts image in
    let f : ℕ → Group = group_read g new in
    let groups : map f (range_with_len 0 g.groups) ≡ map (map closed_chunk) t.groups =
    same_lists (map f (range_with_len 0 g.groups)) (map (map closed_chunk) t.groups)
    (length-map-range_with_len f 0 g.groups ∙ sym can.groups ∙ sym (length-map t.groups (map closed_chunk)))
    (λ group e low.
    let below : group < g.groups = omega (arith, low, length-map-range_with_len f 0 g.groups) in
    let within : group < length t.groups = let same = can.groups in omega arith in
    get_or-map-range_with_len f 0 g.groups group group e below (omega arith)
    ∙ group_is l g t layouts image group (ready g t layouts image group can below)
    ∙ sym (get_or-map (map closed_chunk) t.groups group [] e within)) in
    ap (λ (n : ℕ). table_made n g.blocks (map f (range_with_len 0 g.groups))) (can.shape.version ∙ sym can.table.version)
    ∙ ap (λ (n : ℕ). table_made t.version n (map f (range_with_len 0 g.groups))) (sym can.blocks)
    ∙ ap (table_made t.version t.blocks) groups
    ∙ sym (closed_is t)

-- ---- the inode that is read at a number

pub closed_in : (group : Group) (agino : ℕ) → inode_in (map closed_chunk group) agino ≡ option_map closed_inode (inode_in group agino)
unfolding inode_in
closed_in [] agino = refl
closed_in (c ∷ cs) agino =
    chosen (eqb c.start (start_of agino)) (slice_get (map closed_inode c.inodes) (agino % 64)) (inode_in (map closed_chunk cs) agino) (slice_get c.inodes (agino % 64)) (inode_in cs agino)
    (slice_get-map closed_inode c.inodes (agino % 64)) (closed_in cs agino)
  where
    chosen : (b : Bool) (p q x y : Option Inode) → p ≡ option_map closed_inode x → q ≡ option_map closed_inode y → cond b p q ≡ option_map closed_inode (cond b x y)
    chosen true p q x y e f = e
    chosen false p q x y e f = f

-- an inode that is read
pub record IsRead (group : Group) (agino : ℕ) (inode : Inode) : Type 0 where
  pub held : Inode
  pub found : inode_in group agino ≡ Some held
  pub same : inode ≡ closed_inode held

read_from : (o : Option Inode) (inode : Inode) → option_map closed_inode o ≡ Some inode → (x : Inode) × (o ≡ Some x) × (inode ≡ closed_inode x)
read_from None inode e = absurd (none-some inode e)
read_from (Some x) inode e = (x, refl, sym (same_Some (closed_inode x) inode e))

pub inode_at_is : (l : Lower) (g : Geometry) (t : Table) (layouts : Layouts) (image : List Sector) (group agino : ℕ) → IsReady g t layouts image group
    → inode_at g (encoded g t layouts image) group agino ≡ option_map closed_inode (inode_in (group_at t group) agino)
unfolding inode_at
inode_at_is l g t layouts image group agino r =
    ap (λ (chunks : Group). inode_in chunks agino) (group_is l g t layouts image group r) ∙ closed_in (group_at t group) agino

pub is_read : (l : Lower) (g : Geometry) (t : Table) (layouts : Layouts) (image : List Sector) (group agino : ℕ) (inode : Inode) → IsReady g t layouts image group
    → inode_at g (encoded g t layouts image) group agino ≡ Some inode → IsRead (group_at t group) agino inode
is_read l g t layouts image group agino inode r e =
    let found = read_from (inode_in (group_at t group) agino) inode (sym (inode_at_is l g t layouts image group agino r) ∙ e) in
    record { held = found.0; found = found.1; same = found.2 }

-- a row that is read
pub record IsRowRead (group : Group) (agino : ℕ) (row : Row) : Type 0 where
  pub inode : Inode
  pub held : Row
  pub found : inode_in group agino ≡ Some inode
  pub live : inode.row ≡ Some held
  pub links : row.links ≡ held.links
  pub blocks : row.blocks ≡ held.blocks

row_from : (o : Option Row) (row : Row) → closed_row o ≡ Some row → (held : Row) × (o ≡ Some held) × (row.links ≡ held.links) × (row.blocks ≡ held.blocks)
row_from None row e = absurd (none-some row e)
row_from (Some held) row e =
    let same : row ≡ row_made held.links held.blocks = sym (same_Some (row_made held.links held.blocks) row e) in
    (held, refl, ap (λ (r : Row). r.links) same, ap (λ (r : Row). r.blocks) same)

row_of_inode : (o : Option Inode) (row : Row) → option_and_then (λ (inode : Inode). inode.row) (option_map closed_inode o) ≡ Some row
    → (x : Inode) × (held : Row) × (o ≡ Some x) × (x.row ≡ Some held) × (row.links ≡ held.links) × (row.blocks ≡ held.blocks)
row_of_inode None row e = absurd (none-some row e)
row_of_inode (Some x) row e = let r = row_from x.row row e in (x, r.0, refl, r.1, r.2, r.3)

pub is_row_read : (l : Lower) (g : Geometry) (t : Table) (layouts : Layouts) (image : List Sector) (group agino : ℕ) (row : Row) → IsReady g t layouts image group
    → row_at g (encoded g t layouts image) group agino ≡ Some row → IsRowRead (group_at t group) agino row
unfolding row_at
is_row_read l g t layouts image group agino row r e =
    let found = row_of_inode (inode_in (group_at t group) agino) row (sym (ap (option_and_then (λ (inode : Inode). inode.row)) (inode_at_is l g t layouts image group agino r)) ∙ e) in
    record { inode = found.0; held = found.1; found = found.2; live = found.3; links = found.4; blocks = found.5 }
