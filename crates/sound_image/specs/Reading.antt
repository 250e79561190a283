-- What the groups of an image give, whatever else they hold: headers, chunks, inodes and the table of them. Each is a
-- function of the sectors; whether the sectors have the right form is for the rules to say.
use Rattle.std.specs.Prelude.{◌≡◌, ◌<◌, ◌+◌, ◌*◌, ℕ, List, Option, None, Some, if◌then◌else◌, map, slice_get}
use Rattle.std.specs.List.{flat_map, range_with_len}
use Rattle.std.specs.Option.{option_and_then}
use Rattle.life_limits.specs.declared.TheConstants.{BLOCK_SECTORS, CHUNK_INODES}
use Rattle.life_bytes.specs.declared.sector.Sector.{Sector}
use Rattle.life_bytes.specs.Bits.{is_set}
use Rattle.geometry.specs.declared.shape.Geometry.{Geometry}
use Rattle.inode_core.specs.declared.shape.Core.{Core}
use Rattle.inode_core.specs.Reading.{core_in}
use Rattle.extent_fork.specs.Reading.{runs_in}
use Rattle.extent_fork.specs.Runs.{blocks_of}
use Rattle.ag_header.specs.declared.agi.Agi.{Agi}
use Rattle.ag_header.specs.Reading.{agi_in}
use Rattle.inobt_leaf.specs.declared.chunk.ChunkRec.{ChunkRec}
use Rattle.inobt_leaf.specs.Pages.{chunks_in}
use Rattle.life_table.specs.declared.types.Row.{Row}
use Rattle.life_table.specs.declared.table.Inode.{Inode}
use Rattle.life_table.specs.declared.table.Chunk.{Chunk}
use Rattle.life_table.specs.declared.table.Table.{Table}
use Rattle.life_table.specs.Table.{Group, inode_in}
use Rattle.sound_image.specs.Places.{bytes_at, bytes_from, sector_in, header_place}

-- the header of a group
unfoldable pub header_of : Geometry → List Sector → ℕ → Agi
header_of g image group = agi_in (bytes_at image (sector_in g group header_place))

-- the first sector of the root page of its inode btree, which is the one leaf
unfoldable pub page_sector : Geometry → List Sector → ℕ → ℕ
page_sector g image group = sector_in g group (BLOCK_SECTORS * (header_of g image group).root)

-- the records of the leaf
unfoldable pub records_of : Geometry → List Sector → ℕ → List ChunkRec
records_of g image group = chunks_in (bytes_from image (page_sector g image group) BLOCK_SECTORS)

-- the bytes, the core and the blocks of an inode of a group
abbrev pub inode_bytes : Geometry → List Sector → ℕ → ℕ → List ℕ
inode_bytes g image group agino = bytes_at image (sector_in g group agino)

unfoldable pub core_of : Geometry → List Sector → ℕ → ℕ → Core
core_of g image group agino = core_in (inode_bytes g image group agino)

unfoldable pub blocks_in : Geometry → List Sector → ℕ → ℕ → List ℕ
blocks_in g image group agino = flat_map blocks_of (runs_in (core_of g image group agino).extents (inode_bytes g image group agino))

-- Inode i of a chunk: its generation, and its row where the bit of the mask is clear. An image holds no opens.
unfoldable pub inode_read : Geometry → List Sector → ℕ → ChunkRec → ℕ → Inode
inode_read g image group chunk i =
    record {
      generation = (core_of g image group (chunk.start + i)).generation;
      row = if is_set chunk.mask i
          then None
          else Some (record { links = (core_of g image group (chunk.start + i)).links; blocks = blocks_in g image group (chunk.start + i); opens = 0 });
    }

-- a chunk and its 64 inodes
unfoldable pub chunk_read : Geometry → List Sector → ℕ → ChunkRec → Chunk
chunk_read g image group chunk = record { start = chunk.start; inodes = map (inode_read g image group chunk) (range_with_len 0 CHUNK_INODES) }

-- the chunks of a group
unfoldable pub group_read : Geometry → List Sector → ℕ → Group
group_read g image group = map (chunk_read g image group) (records_of g image group)

-- the table of the rows, chunks and generations that the image has
unfoldable pub rows_of : Geometry → List Sector → Table
rows_of g image = record { version = g.version; blocks = g.blocks; groups = map (group_read g image) (range_with_len 0 g.groups) }

-- the inode of a group at a number, where a chunk has one
unfoldable pub inode_at : Geometry → List Sector → ℕ → ℕ → Option Inode
inode_at g image group agino = inode_in (group_read g image group) agino

-- the row of such an inode, where it is in use
unfoldable pub row_at : Geometry → List Sector → ℕ → ℕ → Option Row
row_at g image group agino = option_and_then (λ inode. inode.row) (inode_at g image group agino)

-- an inode of a group is the one at an index of the chunk of one of the records
pub record IsOfChunk (g : Geometry) (image : List Sector) (group agino : ℕ) (inode : Inode) : Type 0 where
  pub place : ℕ
  pub chunk : ChunkRec
  pub index : ℕ
  pub held : slice_get (records_of g image group) place ≡ Some chunk
  pub low : index < CHUNK_INODES
  pub number : agino ≡ chunk.start + index
  pub read : inode ≡ inode_read g image group chunk index
