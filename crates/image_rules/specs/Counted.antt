-- How many chunks, inodes in use, and inodes in use without links there are.
use Rattle.std.specs.Prelude.{◌≡◌, ℕ, List, Option, if◌then◌else◌, length, map, count_by, sum_by}
use Rattle.std.specs.List.{range_with_len}
use Rattle.life_bytes.specs.declared.sector.Sector.{Sector}
use Rattle.geometry.specs.declared.shape.Geometry.{Geometry}
use Rattle.inobt_leaf.specs.declared.chunk.ChunkRec.{ChunkRec}
use Rattle.life_table.specs.declared.types.Row.{Row}
use Rattle.life_table.specs.declared.table.Inode.{Inode}
use Rattle.life_table.specs.Table.{Group}
use Rattle.sound_image.specs.Counts.{inodes_in, orphans_in_group, chunk_count, inode_count, orphan_count}
use Rattle.sound_image.specs.Reading.{chunk_read, group_read, rows_of}
use Rattle.sound_image.specs.Encoding.{is_unlinked_row}
use Rattle.image_rules.specs.declared.tables.Tables.{Tables}

-- one where an inode is in use without links, else none
abbrev pub one_if_orphan : Option Row → ℕ
one_if_orphan row = if is_unlinked_row row then 1 else 0

-- how many of a chunk's inodes are
abbrev pub chunk_orphans : Geometry → List Sector → ℕ → ChunkRec → ℕ
chunk_orphans g image group chunk = count_by (λ (inode : Inode). is_unlinked_row inode.row) (chunk_read g image group chunk).inodes

-- the numbers are those of a group
pub record IsCounted (g : Geometry) (image : List Sector) (group : ℕ) (t : Tables) : Type 0 where
  pub chunks : t.chunks ≡ length (group_read g image group)
  pub inodes : t.inodes ≡ inodes_in (group_read g image group)
  pub orphans : t.orphans ≡ orphans_in_group (group_read g image group)

-- the numbers are those of the first groups
pub record AreCounted (g : Geometry) (image : List Sector) (bound : ℕ) (t : Tables) : Type 0 where
  pub chunks : t.chunks ≡ sum_by (λ (group : Group). length group) (map (group_read g image) (range_with_len 0 bound))
  pub inodes : t.inodes ≡ sum_by inodes_in (map (group_read g image) (range_with_len 0 bound))
  pub orphans : t.orphans ≡ sum_by orphans_in_group (map (group_read g image) (range_with_len 0 bound))

-- the numbers are those of the table that the image has
pub record HasTables (g : Geometry) (image : List Sector) (t : Tables) : Type 0 where
  pub chunks : t.chunks ≡ chunk_count (rows_of g image)
  pub inodes : t.inodes ≡ inode_count (rows_of g image)
  pub orphans : t.orphans ≡ orphan_count (rows_of g image)
