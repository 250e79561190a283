-- What an inspection says of a sound image.
use Rattle.std.specs.Prelude.{◌≡◌, ℕ, List}
use Rattle.life_bytes.specs.declared.sector.Sector.{Sector}
use Rattle.geometry.specs.declared.shape.Geometry.{Geometry}
use Rattle.life_table.specs.declared.table.Table.{Table}
use Rattle.sound_image.specs.Counts.{chunk_count, inode_count, orphan_count}
use Rattle.sound_image.specs.Superblocks.{HasSuperblock}
use Rattle.image_rules.specs.declared.tables.Tables.{Tables}
use Rattle.whole_image.specs.Represents.{Represents}

-- The image is sound, and represents a table with this next commit number. Its superblock has this geometry, and these are how many chunks, inodes
-- in use, and inodes in use without links the table has.
pub record IsSoundWith (image : List Sector) (g : Geometry) (tables : Tables) (next : ℕ) : Type 0 where
  pub superblock : HasSuperblock g image
  pub table : Table
  pub represents : Represents image table next
  pub chunks : tables.chunks ≡ chunk_count table
  pub inodes : tables.inodes ≡ inode_count table
  pub orphans : tables.orphans ≡ orphan_count table
