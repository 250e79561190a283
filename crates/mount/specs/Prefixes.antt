-- What images left of a store represent.
use Rattle.std.specs.Prelude.{◌≤◌, ◌+◌, ℕ, List, length, take}
use Rattle.life_bytes.specs.declared.sector.Sector.{Sector}
use Rattle.geometry.specs.declared.shape.Geometry.{Geometry}
use Rattle.life_table.specs.declared.table.Table.{Table}
use Rattle.life_table.specs.History.{closed}
use Rattle.log_record.specs.declared.image.Commit.{Commit}
use Rattle.sound_image.specs.Encoding.{Layouts}
use Rattle.whole_image.specs.Represents.{Represents}
use Rattle.commit_history.specs.Carried.{CommitsCarry}

-- An image represents the table to which the first so many commits of a list carry a table, held by nobody. Its next commit number tells how many.
pub record IsPrefixLeft (g : Geometry) (t : Table) (layouts : Layouts) (list : List Commit) (next : ℕ) (image : List Sector) : Type 0 where
  pub count : ℕ
  pub within : count ≤ length list
  pub represents : (u : Table) (others : Layouts) → CommitsCarry g t layouts (take count list) u others → Represents image (closed u) (next + count)
