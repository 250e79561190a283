-- When an image represents a table.
use Rattle.std.specs.Prelude.{◌≡◌, ℕ, List}
use Rattle.life_bytes.specs.declared.sector.Sector.{Sector}
use Rattle.geometry.specs.declared.shape.Geometry.{Geometry}
use Rattle.life_table.specs.declared.table.Table.{Table}
use Rattle.sound_image.specs.Reading.{rows_of}
use Rattle.log_image.specs.Log.{Log}
use Rattle.whole_image.specs.Damage.{IsSound, HasFrontAndLog, groups_of}

-- The image is sound. Its replayed groups have the table's rows, chunks and generations, and its superblock the table's version, groups and blocks; its
-- next commit number is c.
pub record Represents (image : List Sector) (t : Table) (c : ℕ) : Type 0 where
  pub sound : IsSound image
  pub geometry : Geometry
  pub said : Log
  pub tells : HasFrontAndLog geometry image said
  pub rows : rows_of geometry (groups_of geometry image said) ≡ t
  pub next : said.next ≡ c
