-- Sectors of a ring from beyond a position.
use Rattle.std.specs.Prelude.{ℕ, ◌≤◌, ◌<◌, List, length, slice_index_or}
use Rattle.life_bytes.specs.declared.sector.Sector.{Sector}
use Rattle.life_bytes.specs.Fields.{field}

-- the sector at this place of a ring begins with this position or one above it, and none before it does
pub record IsFirstReaching (ring : List Sector) (position place : ℕ) : Type 0 where
  pub within : place < length ring
  pub reaches : (d : Sector) → position ≤ field 8 0 (slice_index_or ring place d).bytes
  pub first : (other : ℕ) (d : Sector) → other < place → field 8 0 (slice_index_or ring other d).bytes < position
