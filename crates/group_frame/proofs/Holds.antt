-- What encodes a table does not see its holds.
use Rattle.std.proofs.Common.{◌≡◌, ◌↔◌, ◌==◌, ◌+◌, ◌-◌, ◌*◌, ◌/◌, ◌%◌, ◌<◌, ◌&&◌, ℕ, suc, Bool, true, false, List, [], ◌∷◌, ◌++◌, Option, None, Some, option_map, is_none, if◌then◌else◌, length, map, nat_le, nat_lt, slice_get, unwrap_or, refl, sym, ap, subst, ◌∙◌}
use Rattle.std.specs.Prelude.{count_by, sum_by}
use Rattle.std.specs.List.{range_with_len}
use Rattle.std.proofs.lemmas.Option.{slice_get-map}
use Rattle.std.proofs.lemmas.List.Sums.{sum_by-cons}
use Rattle.std.proofs.Math.ListN.{get_or-map}
use Rattle.life_limits.specs.declared.TheConstants.{BLOCK_SECTORS, BUCKETS, CHUNK_INODES, FIRST_DATA_BLOCK}
use Rattle.life_bytes.specs.declared.sector.Sector.{Sector}
use Rattle.geometry.specs.declared.shape.Geometry.{Geometry}
use Rattle.geometry.specs.Places.{group_sectors, number_in}
use Rattle.extent_fork.specs.Inodes.{inode_encoding}
use Rattle.inobt_leaf.specs.Pages.{page_encoding}
use Rattle.ag_header.specs.declared.agi.Agi.{Agi}
use Rattle.ag_header.specs.Headers.{header_encoding}
use Rattle.free_map.specs.Bitmap.{number_of_bits, bitmap}
use Rattle.life_table.specs.declared.types.Row.{Row}
use Rattle.life_table.specs.declared.table.Inode.{Inode}
use Rattle.life_table.specs.declared.table.Chunk.{Chunk}
use Rattle.life_table.specs.declared.table.Table.{Table}
use Rattle.life_table.specs.Table.{Group, group_at, inode_in, map_chunk, map_group, start_of}
use Rattle.life_table.specs.Space.{times, chunk_blocks, inode_blocks, is_free_block, row_blocks, used}
use Rattle.life_table.specs.WellFormed.{IsTable}
use Rattle.life_table.specs.History.{closed, closed_inode, closed_row}
use Rattle.sound_image.specs.Places.{bitmap_place, bitmap_sectors, bytes_at, header_place, part, sector_in}
use Rattle.sound_image.specs.Rules.{free_set}
use Rattle.sound_image.specs.Encoding.{AreLayouts, CanEncode, Layouts, bucket_list, chunk_record, core_for, encoded, encoded_bytes, free_count, header_for, inode_sector, is_unlinked, is_unlinked_row, mask_of, metadata, next_in, page_bytes, page_place}

abbrev closed_group : Group → Group
closed_group group = map_group closed_inode group

-- the inode of a number
pub inode_closed : (group : Group) (agino : ℕ) → inode_in (closed_group group) agino ≡ option_map closed_inode (inode_in group agino)
unfolding inode_in
inode_closed [] agino = refl
inode_closed (chunk ∷ chunks) agino =
    elim (chunk.start == start_of agino) as (λ c. (if c then slice_get (map closed_inode chunk.inodes) (agino % CHUNK_INODES) else inode_in (closed_group chunks) agino)
    ≡ option_map closed_inode (if c then slice_get chunk.inodes (agino % CHUNK_INODES) else inode_in chunks agino)) [
      | true ↦ slice_get-map closed_inode chunk.inodes (agino % CHUNK_INODES)
      | false ↦ inode_closed chunks agino
    ]

-- the records of chunks
none_closed : (o : Option Row) → is_none (closed_row o) ≡ is_none o
none_closed None = refl
none_closed (Some row) = refl

marks_closed : (inodes : List Inode) → map (λ (inode : Inode). is_none inode.row) (map closed_inode inodes) ≡ map (λ (inode : Inode). is_none inode.row) inodes
marks_closed [] = refl
marks_closed (inode ∷ inodes) = λ i. none_closed inode.row i ∷ marks_closed inodes i

mask_closed : (inodes : List Inode) → mask_of (map closed_inode inodes) ≡ mask_of inodes
unfolding mask_of
mask_closed inodes = ap number_of_bits (marks_closed inodes)

sum_same : {X : Type 0} (f : X → ℕ) (change : X → X) → ((x : X) → f (change x) ≡ f x) → (xs : List X) → sum_by f (map change xs) ≡ sum_by f xs
sum_same f change same [] = refl
sum_same f change same (x ∷ xs) =
    sum_by-cons f (change x) (map change xs) ∙ (λ i. same x i + sum_same f change same xs i) ∙ sym (sum_by-cons f x xs)

counted : (inodes : List Inode) → count_by (λ (inode : Inode). is_none inode.row) (map closed_inode inodes) ≡ count_by (λ (inode : Inode). is_none inode.row) inodes
counted inodes = sum_same (λ (inode : Inode). if is_none inode.row then 1 else 0) closed_inode (λ inode. ap (λ b. if b then 1 else 0) (none_closed inode.row)) inodes

free_closed : (inodes : List Inode) → free_count (map closed_inode inodes) ≡ free_count inodes
unfolding free_count
free_closed inodes = counted inodes

record_closed : (chunk : Chunk) → chunk_record (map_chunk closed_inode chunk) ≡ chunk_record chunk
unfolding chunk_record
record_closed chunk = λ i. record { start = chunk.start; free = free_closed chunk.inodes i; mask = mask_closed chunk.inodes i }

pub records_closed : (group : Group) → map chunk_record (closed_group group) ≡ map chunk_record group
records_closed [] = refl
records_closed (chunk ∷ chunks) = λ i. record_closed chunk i ∷ records_closed chunks i

length_closed : (group : Group) → length (closed_group group) ≡ length group
length_closed [] = refl
length_closed (chunk ∷ chunks) = ap suc (length_closed chunks)

frees_closed : (group : Group) → sum_by (λ (chunk : Chunk). free_count chunk.inodes) (closed_group group) ≡ sum_by (λ (chunk : Chunk). free_count chunk.inodes) group
frees_closed group = sum_same (λ (chunk : Chunk). free_count chunk.inodes) (map_chunk closed_inode) (λ chunk. free_closed chunk.inodes) group

header_closed : (g : Geometry) (number : ℕ) (group : Group) (layouts : Layouts) → header_for g number (closed_group group) layouts ≡ header_for g number group layouts
unfolding header_for
header_closed g number group layouts =
    let whole : ℕ → ℕ → Agi = λ chunks free. record (header_for g number group layouts) { count = 64 * chunks; free = free } in
    λ i. whole (length_closed group i) (frees_closed group i)

-- the blocks in use
blocks_closed : (o : Option Row) → row_blocks (closed_row o) ≡ row_blocks o
blocks_closed None = refl
blocks_closed (Some row) = refl

inode_blocks_closed : (inodes : List Inode) → inode_blocks (map closed_inode inodes) ≡ inode_blocks inodes
unfolding inode_blocks
inode_blocks_closed [] = refl
inode_blocks_closed (inode ∷ inodes) = λ i. blocks_closed inode.row i ++ inode_blocks_closed inodes i

chunk_blocks_closed : (chunk : Chunk) → chunk_blocks (map_chunk closed_inode chunk) ≡ chunk_blocks chunk
unfolding chunk_blocks
chunk_blocks_closed chunk = refl

used_closed : (group : Group) → used (closed_group group) ≡ used group
unfolding used
used_closed [] = refl
used_closed (chunk ∷ chunks) = λ i. (chunk_blocks_closed chunk i ++ inode_blocks_closed chunk.inodes i) ++ used_closed chunks i

free_block_closed : (blocks : ℕ) (group : Group) → is_free_block blocks (closed_group group) ≡ is_free_block blocks group
unfolding is_free_block
free_block_closed blocks group =
    ap (λ taken. λ block. nat_le FIRST_DATA_BLOCK block && (nat_lt block blocks && times block taken == 0)) (used_closed group)

pub free_set_closed : (blocks : ℕ) (group : Group) → free_set blocks (closed_group group) ≡ free_set blocks group
unfolding free_set
free_set_closed blocks group = ap (λ (p : ℕ → Bool). map p (range_with_len 0 blocks)) (free_block_closed blocks group)

-- the page, and the sectors of inodes
page_closed : (g : Geometry) (layouts : Layouts) (number : ℕ) (group : Group) → page_bytes g layouts number (closed_group group) ≡ page_bytes g layouts number group
unfolding page_bytes
page_closed g layouts number group =
    ap (λ records. page_encoding records number (sector_in g number (page_place layouts number)) g.uuid) (records_closed group)

core_closed : (generation next : ℕ) (o : Option Row) → core_for generation (closed_row o) next ≡ core_for generation o next
unfolding core_for
core_closed generation next None = refl
core_closed generation next (Some row) = refl

sector_closed : (g : Geometry) (layouts : Layouts) (number agino : ℕ) (inode : Inode) → inode_sector g layouts number agino (closed_inode inode) ≡ inode_sector g layouts number agino inode
unfolding inode_sector
sector_closed g layouts number agino inode = λ i.
    inode_encoding (core_closed inode.generation (next_in (bucket_list layouts number (agino % BUCKETS)) agino) inode.row i) (number_in number agino) g.uuid number (blocks_closed inode.row i)

sectors_closed : (g : Geometry) (layouts : Layouts) (number agino : ℕ) (o : Option Inode)
    → option_map (inode_sector g layouts number agino) (option_map closed_inode o) ≡ option_map (inode_sector g layouts number agino) o
sectors_closed g layouts number agino None = refl
sectors_closed g layouts number agino (Some inode) = ap (λ bytes. Some bytes) (sector_closed g layouts number agino inode)

-- what the format says of a place
says : Geometry → Layouts → ℕ → ℕ → List ℕ → List Bool → List ℕ → Option (List ℕ) → Option (List ℕ)
says g layouts number place header free page inode =
    if place == header_place then Some header
    else if nat_le bitmap_place place && nat_lt place (bitmap_place + bitmap_sectors) then Some (part (place - bitmap_place) (bitmap free))
    else if nat_le (page_place layouts number) place && nat_lt place (page_place layouts number + BLOCK_SECTORS)
    then Some (part (place - page_place layouts number) page)
    else inode

metadata_is : (g : Geometry) (layouts : Layouts) (number : ℕ) (group : Group) (place : ℕ) → metadata g layouts number group place
    ≡ says g layouts number place (header_encoding (header_for g number group layouts)) (free_set g.blocks group) (page_bytes g layouts number group)
    (option_map (inode_sector g layouts number place) (inode_in group place))
unfolding metadata says
metadata_is g layouts number group place = refl

pub metadata_closed : (g : Geometry) (layouts : Layouts) (number : ℕ) (group : Group) (place : ℕ)
    → metadata g layouts number (closed_group group) place ≡ metadata g layouts number group place
metadata_closed g layouts number group place =
    metadata_is g layouts number (closed_group group) place
    ∙ (λ i. says g layouts number place (header_encoding (header_closed g number group layouts i)) (free_set_closed g.blocks group i) (page_closed g layouts number group i)
    ((ap (option_map (inode_sector g layouts number place)) (inode_closed group place) ∙ sectors_closed g layouts number place (inode_in group place)) i))
    ∙ sym (metadata_is g layouts number group place)

pub group_closed : (t : Table) (number : ℕ) → group_at (closed t) number ≡ closed_group (group_at t number)
group_closed t number = get_or-map (map_group closed_inode) t.groups number []

groups_closed : (groups : List Group) → length (map (map_group closed_inode) groups) ≡ length groups
groups_closed [] = refl
groups_closed (group ∷ groups) = ap suc (groups_closed groups)

-- the layouts
unlinked_row_closed : (o : Option Row) → is_unlinked_row (closed_row o) ≡ is_unlinked_row o
unlinked_row_closed None = refl
unlinked_row_closed (Some row) = refl

unlinked_closed : (o : Option Inode) → is_unlinked (option_map closed_inode o) ≡ is_unlinked o
unlinked_closed None = refl
unlinked_closed (Some inode) = unlinked_row_closed inode.row

unlinked_at : (t : Table) (group agino : ℕ) → is_unlinked (inode_in (group_at (closed t) group) agino) ≡ is_unlinked (inode_in (group_at t group) agino)
unlinked_at t group agino =
    ap (λ chunks. is_unlinked (inode_in chunks agino)) (group_closed t group)
    ∙ ap is_unlinked (inode_closed (group_at t group) agino) ∙ unlinked_closed (inode_in (group_at t group) agino)

layouts_to : (t : Table) (layouts : Layouts) → AreLayouts t layouts → AreLayouts (closed t) layouts
layouts_to t layouts are = record {
  groups = are.groups ∙ sym (groups_closed t.groups);
  lists = λ group inside. are.lists group (subst (λ n. group < n) (groups_closed t.groups) inside);
  pages = λ group inside. are.pages group (subst (λ n. group < n) (groups_closed t.groups) inside);
  buckets = λ group bucket agino inside few.
      are.buckets group bucket agino (subst (λ n. group < n) (groups_closed t.groups) inside) few
      ∙ ap (λ b. if (agino % BUCKETS == bucket) && b then 1 else 0) (sym (unlinked_at t group agino));
}

layouts_from : (t : Table) (layouts : Layouts) → AreLayouts (closed t) layouts → AreLayouts t layouts
layouts_from t layouts are = record {
  groups = are.groups ∙ groups_closed t.groups;
  lists = λ group inside. are.lists group (subst (λ n. group < n) (sym (groups_closed t.groups)) inside);
  pages = λ group inside. are.pages group (subst (λ n. group < n) (sym (groups_closed t.groups)) inside);
  buckets = λ group bucket agino inside few.
      are.buckets group bucket agino (subst (λ n. group < n) (sym (groups_closed t.groups)) inside) few
      ∙ ap (λ b. if (agino % BUCKETS == bucket) && b then 1 else 0) (unlinked_at t group agino);
}

pub layouts_closed : (t : Table) (layouts : Layouts) → AreLayouts t layouts ↔ AreLayouts (closed t) layouts
layouts_closed t layouts = (layouts_to t layouts, layouts_from t layouts)

-- the sectors
bytes_closed : (g : Geometry) (t : Table) (layouts : Layouts) (image : List Sector) (s : ℕ) → encoded_bytes g (closed t) layouts image s ≡ encoded_bytes g t layouts image s
unfolding encoded_bytes
bytes_closed g t layouts image s =
    ap (λ said. if nat_lt s (g.groups * group_sectors g) then unwrap_or said (bytes_at image s) else bytes_at image s)
    (ap (λ chunks. metadata g layouts (s / group_sectors g) chunks (s % group_sectors g)) (group_closed t (s / group_sectors g))
    ∙ metadata_closed g layouts (s / group_sectors g) (group_at t (s / group_sectors g)) (s % group_sectors g))

mapped_same : {X Y : Type 0} (f h : X → Y) (xs : List X) → ((x : X) → f x ≡ h x) → map f xs ≡ map h xs
mapped_same f h [] same = refl
mapped_same f h (x ∷ xs) same = λ i. same x i ∷ mapped_same f h xs same i

pub encoded_closed : (g : Geometry) (t : Table) (layouts : Layouts) (image : List Sector) → encoded g (closed t) layouts image ≡ encoded g t layouts image
unfolding encoded
encoded_closed g t layouts image =
    let sector : List ℕ → Sector = λ bytes. record { bytes = bytes } in
    mapped_same (λ s. sector (encoded_bytes g (closed t) layouts image s)) (λ s. sector (encoded_bytes g t layouts image s)) (range_with_len 0 (length image))
    (λ s. ap sector (bytes_closed g t layouts image s))

pub encodes_closed : ((t : Table) → IsTable t → IsTable (closed t)) → (g : Geometry) (t : Table) (layouts : Layouts) (image : List Sector)
    → CanEncode g t layouts image → CanEncode g (closed t) layouts image
encodes_closed law g t layouts image can = record {
  shape = can.shape;
  table = law t can.table;
  groups = groups_closed t.groups ∙ can.groups;
  blocks = can.blocks;
  layouts_of = layouts_to t layouts can.layouts_of;
  size = can.size;
}
