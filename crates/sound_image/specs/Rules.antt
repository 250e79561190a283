-- The rules of a sound image from the headers of its groups on, each at one place. A rule is checked where all rules before
-- it hold, so each may take what the rules before it say for granted.
use Rattle.std.specs.Prelude.{◌≡◌, ◌≢◌, ◌+◌, ◌*◌, ◌/◌, ◌%◌, ◌<◌, ◌≤◌, ℕ, suc, zero, Bool, List, IsSomeAnd, is_some, length, map, sum_by, All, slice_index}
use Rattle.std.specs.List.{range_with_len}
use Rattle.life_limits.specs.declared.TheConstants.{BLOCK_SECTORS, BUCKETS, CHUNK_INODES, FIRST_DATA_BLOCK, NO_INODE}
use Rattle.life_bytes.specs.declared.sector.Sector.{Sector}
use Rattle.geometry.specs.declared.shape.Geometry.{Geometry}
use Rattle.geometry.specs.Places.{number_in}
use Rattle.inode_core.specs.Cores.{EncodesCore}
use Rattle.extent_fork.specs.Forks.{HasFork}
use Rattle.extent_fork.specs.Reading.{runs_in}
use Rattle.ag_header.specs.Headers.{EncodesHeader}
use Rattle.inobt_leaf.specs.declared.chunk.ChunkRec.{ChunkRec}
use Rattle.inobt_leaf.specs.Chunks.{IsLeaf}
use Rattle.inobt_leaf.specs.Pages.{page_encoding}
use Rattle.free_map.specs.Bitmap.{bitmap}
use Rattle.life_table.specs.declared.types.Row.{Row}
use Rattle.life_table.specs.declared.table.Inode.{Inode}
use Rattle.life_table.specs.Table.{Group}
use Rattle.life_table.specs.Space.{times, chunk_blocks, chunk_length, row_blocks, is_free_block}
use Rattle.sound_image.specs.Places.{bytes_at, part, sector_in, header_place, bitmap_place}
use Rattle.sound_image.specs.Reading.{header_of, page_sector, records_of, inode_bytes, core_of, blocks_in, group_read, row_at}

-- The header of a group has its form and checksum, and its group, length and uuid. Its root is a block of pages and its level
-- one that trees have, by its form.
pub record IsHeaderRight (g : Geometry) (image : List Sector) (group : ℕ) : Type 0 where
  pub encoded : EncodesHeader (bytes_at image (sector_in g group header_place)) (header_of g image group)
  pub own_group : (header_of g image group).group ≡ group
  pub blocks : (header_of g image group).blocks ≡ g.blocks
  pub uuid : (header_of g image group).uuid ≡ g.uuid

-- the blocks of a chunk are data blocks
abbrev pub IsInData : ℕ → ChunkRec → Type 0
IsInData blocks chunk = (FIRST_DATA_BLOCK ≤ chunk.start / BLOCK_SECTORS) × (chunk.start / BLOCK_SECTORS + chunk_length ≤ blocks)

-- Each sector of the leaf's page is that of the page that encodes its records, with its form, checksum, place, group and uuid, and
-- the records are those of a leaf: they ascend, they start at multiples of 64, and each free count is the number of bits of its mask.
-- The blocks of each chunk are data blocks.
pub record IsPageRight (g : Geometry) (image : List Sector) (group : ℕ) : Type 0 where
  pub leaf : IsLeaf (records_of g image group)
  pub encoded : (k : ℕ) → k < BLOCK_SECTORS
      → bytes_at image (page_sector g image group + k) ≡ part k (page_encoding (records_of g image group) group (page_sector g image group) g.uuid)
  pub in_data : All (IsInData g.blocks) (records_of g image group)

-- the header counts the inodes of the chunks, and the free ones among them
pub record AreCountsRight (g : Geometry) (image : List Sector) (group : ℕ) : Type 0 where
  pub count : (header_of g image group).count ≡ CHUNK_INODES * length (records_of g image group)
  pub free : (header_of g image group).free ≡ sum_by (λ (chunk : ChunkRec). chunk.free) (records_of g image group)

-- the sector of an inode of a chunk encodes a core with its number and the uuid, which is in use where the mask says so
pub record IsCoreRight (g : Geometry) (image : List Sector) (group agino : ℕ) (inode : Inode) : Type 0 where
  pub encoded : EncodesCore (inode_bytes g image group agino) (number_in group agino) g.uuid (core_of g image group agino)
  pub live : (core_of g image group agino).live ≡ is_some inode.row

-- The fork of an inode in use is that of its runs, all of which lie in its group, and the core counts their blocks. That the size fits
-- is part of a core's form.
pub record IsForkRight (g : Geometry) (image : List Sector) (group agino : ℕ) : Type 0 where
  pub runs : HasFork (inode_bytes g image group agino) (core_of g image group agino).extents group (runs_in (core_of g image group agino).extents (inode_bytes g image group agino))
  pub in_group : All (λ block. block < g.blocks) (blocks_in g image group agino)
  pub count : (core_of g image group agino).blocks ≡ length (blocks_in g image group agino)

-- a block stands in a list
abbrev pub IsIn : ℕ → List ℕ → Type 0
IsIn block blocks = 1 ≤ times block blocks

-- the blocks of an inode in use are its own: no chunk has one of them, nor an inode below it, and none stands there twice
pub record AreBlocksAlone (g : Geometry) (image : List Sector) (group agino : ℕ) (row : Row) : Type 0 where
  pub in_no_chunk : (block : ℕ) → IsIn block row.blocks → All (λ chunk. ¬ IsIn block (chunk_blocks chunk)) (group_read g image group)
  pub in_none_below : (block other : ℕ) → IsIn block row.blocks → other < agino → ¬ IsIn block (row_blocks (row_at g image group other))
  pub once : (block : ℕ) → times block row.blocks ≤ 1

-- which blocks of a group are free: the data blocks in no chunk and no inode
unfoldable pub free_set : ℕ → Group → List Bool
free_set blocks group = map (is_free_block blocks group) (range_with_len 0 blocks)

-- a sector of the bitmap has exactly the free blocks of its part
abbrev pub IsBitmapRight : Geometry → List Sector → ℕ → ℕ → Type 0
IsBitmapRight g image group k = bytes_at image (sector_in g group (bitmap_place + k)) ≡ part k (bitmap (free_set g.blocks (group_read g image group)))

-- The pointers of an unlinked bucket: the first is its head, and each other is the next of the inode that the one before it
-- points at.
unfoldable pub pointer : Geometry → List Sector → ℕ → ℕ → ℕ → ℕ
pointer g image group bucket zero = slice_index (header_of g image group).heads bucket
pointer g image group bucket (suc n) = (core_of g image group (pointer g image group bucket n)).next

-- the sector that holds such a pointer: the header's, or that inode's
unfoldable pub holder : Geometry → List Sector → ℕ → ℕ → ℕ → ℕ
holder g image group bucket zero = sector_in g group header_place
holder g image group bucket (suc n) = sector_in g group (pointer g image group bucket n)

-- an inode of this bucket: it is in use and has no links
pub record IsMember (g : Geometry) (image : List Sector) (group bucket agino : ℕ) : Type 0 where
  pub some : agino ≢ NO_INODE
  pub no_links : IsSomeAnd (row_at g image group agino) (λ row. row.links ≡ 0)
  pub own_bucket : agino % BUCKETS ≡ bucket

-- pointer n of a bucket is right and not the end: it points at a member that no pointer before it points at
pub record IsNewMember (g : Geometry) (image : List Sector) (group bucket n : ℕ) : Type 0 where
  pub member : IsMember g image group bucket (pointer g image group bucket n)
  pub new : (k : ℕ) → k < n → pointer g image group bucket k ≢ pointer g image group bucket n

-- the first n pointers of a bucket are right
abbrev pub AreMembers : Geometry → List Sector → ℕ → ℕ → ℕ → Type 0
AreMembers g image group bucket n = (k : ℕ) → k < n → IsNewMember g image group bucket k

-- the list of a bucket ends behind its members
pub record Ends (g : Geometry) (image : List Sector) (group bucket : ℕ) : Type 0 where
  pub count : ℕ
  pub members : AreMembers g image group bucket count
  pub end : pointer g image group bucket count ≡ NO_INODE

-- pointer n of a bucket is the first wrong one: it is not the end, and points at no member or at one that was met before
pub record IsWrongPointer (g : Geometry) (image : List Sector) (group bucket n : ℕ) : Type 0 where
  pub before : AreMembers g image group bucket n
  pub no_end : pointer g image group bucket n ≢ NO_INODE
  pub wrong : ¬ IsNewMember g image group bucket n

-- a member of a bucket is met in its list
pub record IsMet (g : Geometry) (image : List Sector) (group agino : ℕ) : Type 0 where
  pub place : ℕ
  pub members : AreMembers g image group (agino % BUCKETS) place
  pub met : pointer g image group (agino % BUCKETS) place ≡ agino

-- an inode in use is in its bucket where it has no links, and points at no next one where it has some
pub record IsListed (g : Geometry) (image : List Sector) (group agino : ℕ) (row : Row) : Type 0 where
  pub unlinked : row.links ≡ 0 → IsMet g image group agino
  pub linked : row.links ≢ 0 → (core_of g image group agino).next ≡ NO_INODE
