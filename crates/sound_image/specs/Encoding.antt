-- The sectors that encode a table.
use Rattle.std.specs.Prelude.{◌≡◌, ◌==◌, ◌+◌, ◌-◌, ◌*◌, ◌/◌, ◌%◌, ◌<◌, ◌≤◌, ◌&&◌, ℕ, Bool, true, false, List, [], ◌∷◌, Option, None, Some, is_none, nat_le, nat_lt, if◌then◌else◌, length, map, count_by, slice_index_or, sum_by, unwrap_or}
use Rattle.std.specs.List.{range_with_len}
use Rattle.std.specs.Option.{option_map}
use Rattle.life_limits.specs.declared.TheConstants.{BLOCK_BYTES, BLOCK_SECTORS, BUCKETS, CHUNK_INODES, FIRST_PAGE_BLOCK, LAST_PAGE_BLOCK, NO_INODE}
use Rattle.life_bytes.specs.declared.sector.Sector.{Sector}
use Rattle.geometry.specs.declared.shape.Geometry.{Geometry}
use Rattle.geometry.specs.Places.{group_sectors, number_in}
use Rattle.geometry.specs.Shape.{IsGeometry}
use Rattle.inode_core.specs.declared.shape.Core.{Core}
use Rattle.extent_fork.specs.Inodes.{inode_encoding}
use Rattle.extent_fork.specs.Runs.{runs}
use Rattle.ag_header.specs.declared.agi.Agi.{Agi}
use Rattle.ag_header.specs.Headers.{header_encoding}
use Rattle.inobt_leaf.specs.declared.chunk.ChunkRec.{ChunkRec}
use Rattle.inobt_leaf.specs.Pages.{page_encoding}
use Rattle.free_map.specs.Bitmap.{number_of_bits, bitmap}
use Rattle.life_table.specs.declared.types.Row.{Row}
use Rattle.life_table.specs.declared.table.Inode.{Inode}
use Rattle.life_table.specs.declared.table.Chunk.{Chunk}
use Rattle.life_table.specs.declared.table.Table.{Table}
use Rattle.life_table.specs.Table.{Group, inode_in, group_at}
use Rattle.life_table.specs.Space.{times, row_blocks}
use Rattle.life_table.specs.WellFormed.{IsTable}
use Rattle.sound_image.specs.Places.{bytes_at, part, sector_in, header_place, bitmap_place, bitmap_sectors}
use Rattle.sound_image.specs.Rules.{free_set}

-- What the sectors of a group tell beside its inodes: the block of its page, and its 64 unlinked buckets, each a list of numbers of the group with its
-- head first.
pub record Layout : Type 0 where
  pub page : ℕ
  pub buckets : List (List ℕ)

-- the layouts of the groups
abbrev pub Layouts : Type 0
Layouts = List Layout

-- the layout of a group; one that has none has the first block of pages and no inode in a bucket
unfoldable pub layout_of : Layouts → ℕ → Layout
layout_of layouts group = slice_index_or layouts group (record { page = FIRST_PAGE_BLOCK; buckets = [] })

unfoldable pub page_of : Layouts → ℕ → ℕ
page_of layouts group = (layout_of layouts group).page

unfoldable pub bucket_list : Layouts → ℕ → ℕ → List ℕ
bucket_list layouts group bucket = slice_index_or (layout_of layouts group).buckets bucket []

-- layouts that give each group of an image the same page and the same lists
pub record HasSameLayouts (g : Geometry) (layouts others : Layouts) : Type 0 where
  pub page : (group : ℕ) → group < g.groups → page_of others group ≡ page_of layouts group
  pub lists : (group bucket : ℕ) → group < g.groups → bucket < BUCKETS → bucket_list others group bucket ≡ bucket_list layouts group bucket

-- the head of a list, and what follows a member of it: the end where nothing does, and for one that is no member
unfoldable pub head_of : List ℕ → ℕ
head_of [] = NO_INODE
head_of (member ∷ members) = member

unfoldable pub next_in : List ℕ → ℕ → ℕ
next_in [] agino = NO_INODE
next_in (member ∷ members) agino = if member == agino then head_of members else next_in members agino

-- whether an inode is in use and has no links
abbrev pub is_unlinked_row : Option Row → Bool
is_unlinked_row None = false
is_unlinked_row (Some row) = row.links == 0

abbrev pub is_unlinked : Option Inode → Bool
is_unlinked None = false
is_unlinked (Some inode) = is_unlinked_row inode.row

-- Layouts of a table: each group has one, with a list for each bucket, and its page is in a block of pages. A number stands once in the list of its bucket,
-- which is the number modulo 64, where its inode is in use and has no links, and in no other list.
pub record AreLayouts (t : Table) (layouts : Layouts) : Type 0 where
  pub groups : length layouts ≡ length t.groups
  pub lists : (group : ℕ) → group < length t.groups → length (layout_of layouts group).buckets ≡ BUCKETS
  pub pages : (group : ℕ) → group < length t.groups → (FIRST_PAGE_BLOCK ≤ page_of layouts group) × (page_of layouts group ≤ LAST_PAGE_BLOCK)
  pub buckets : (group bucket agino : ℕ) → group < length t.groups → bucket < BUCKETS
      → times agino (bucket_list layouts group bucket) ≡ (if (agino % BUCKETS == bucket) && is_unlinked (inode_in (group_at t group) agino) then 1 else 0)

-- the mask of a chunk: bit i is set where inode i is not in use
unfoldable pub mask_of : List Inode → ℕ
mask_of inodes = number_of_bits (map (λ (inode : Inode). is_none inode.row) inodes)

-- how many of its inodes are not in use
unfoldable pub free_count : List Inode → ℕ
free_count inodes = count_by (λ (inode : Inode). is_none inode.row) inodes

-- the record of a chunk
unfoldable pub chunk_record : Chunk → ChunkRec
chunk_record chunk = record { start = chunk.start; free = free_count chunk.inodes; mask = mask_of chunk.inodes }

-- the header of a group with these chunks and layouts
unfoldable pub header_for : Geometry → ℕ → Group → Layouts → Agi
header_for g group chunks layouts =
    record {
      group = group;
      blocks = g.blocks;
      count = CHUNK_INODES * length chunks;
      root = page_of layouts group;
      level = 1;
      free = sum_by (λ (chunk : Chunk). free_count chunk.inodes) chunks;
      heads = map (λ bucket. head_of (bucket_list layouts group bucket)) (range_with_len 0 BUCKETS);
      uuid = g.uuid;
    }

-- the core of an inode with this row, which is followed by another in its bucket
unfoldable pub core_for : ℕ → Option Row → ℕ → Core
core_for generation None next = record { live = false; links = 0; size = 0; blocks = 0; extents = 0; generation = generation; next = NO_INODE }
core_for generation (Some row) next =
    record {
      live = true;
      links = row.links;
      size = length row.blocks * BLOCK_BYTES;
      blocks = length row.blocks;
      extents = length (runs row.blocks);
      generation = generation;
      next = next;
    }

-- its sector
unfoldable pub inode_sector : Geometry → Layouts → ℕ → ℕ → Inode → List ℕ
inode_sector g layouts group agino inode =
    inode_encoding (core_for inode.generation inode.row (next_in (bucket_list layouts group (agino % BUCKETS)) agino)) (number_in group agino) g.uuid group (row_blocks inode.row)

-- where the page of a group stands in it
unfoldable pub page_place : Layouts → ℕ → ℕ
page_place layouts group = BLOCK_SECTORS * page_of layouts group

-- its page
unfoldable pub page_bytes : Geometry → Layouts → ℕ → Group → List ℕ
page_bytes g layouts group chunks = page_encoding (map chunk_record chunks) group (sector_in g group (page_place layouts group)) g.uuid

-- The bytes that stand at a place of a group with these chunks and layouts, where the format says what stands there.
unfoldable pub metadata : Geometry → Layouts → ℕ → Group → ℕ → Option (List ℕ)
metadata g layouts group chunks place =
    if place == header_place then Some (header_encoding (header_for g group chunks layouts))
    else if nat_le bitmap_place place && nat_lt place (bitmap_place + bitmap_sectors) then Some (part (place - bitmap_place) (bitmap (free_set g.blocks chunks)))
    else if nat_le (page_place layouts group) place && nat_lt place (page_place layouts group + BLOCK_SECTORS)
    then Some (part (place - page_place layouts group) (page_bytes g layouts group chunks))
    else option_map (inode_sector g layouts group place) (inode_in chunks place)

-- the bytes of a sector of the image: what the format says of its place in its group, else what stood there before
unfoldable pub encoded_bytes : Geometry → Table → Layouts → List Sector → ℕ → List ℕ
encoded_bytes g t layouts image s =
    if nat_lt s (g.groups * group_sectors g)
    then unwrap_or (metadata g layouts (s / group_sectors g) (group_at t (s / group_sectors g)) (s % group_sectors g)) (bytes_at image s)
    else bytes_at image s

-- the sectors with each metadata sector of the groups as it is encoded for a table and layouts; all others stay
unfoldable pub encoded : Geometry → Table → Layouts → List Sector → List Sector
encoded g t layouts image = map (λ s. record { bytes = encoded_bytes g t layouts image s }) (range_with_len 0 (length image))

-- the table is that of such an image: it is well formed and of the image's shape, the layouts are layouts of it, and the image holds the groups
pub record CanEncode (g : Geometry) (t : Table) (layouts : Layouts) (image : List Sector) : Type 0 where
  pub shape : IsGeometry g
  pub table : IsTable t
  pub groups : length t.groups ≡ g.groups
  pub blocks : t.blocks ≡ g.blocks
  pub layouts_of : AreLayouts t layouts
  pub size : g.groups * group_sectors g ≤ length image
