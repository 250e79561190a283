-- One sector of a disk in memory.
use Rattle.std.specs.Prelude.{◌≡◌, ◌<◌, ◌-◌, ℕ, length, Option, None, Some, List, [], ◌∷◌, nat_lt, slice_get, if◌then◌else◌}
use Rattle.life_bytes.specs.declared.sector.Sector.{Sector}
use Rattle.disk_model.specs.Disk.{Cell, settled, overwritten}
use Rattle.disk_model.specs.MemoryDisk.{Change}
use Rattle.disk_model.specs.Outcome.{candidates, candidate_at}
use Rattle.disk_model.specs.MemoryDisk.Change.{Write, Flush}

-- the piece that comes to the sector `at`, where the first piece comes to the sector `start`
abbrev pub piece_for : ℕ → List Sector → ℕ → Option Sector
piece_for start pieces at = if nat_lt at start then None else slice_get pieces (at - start)

-- a sector to which a piece came, or none
abbrev pub written_if : Option Sector → Cell → Cell
written_if None cell = cell
written_if (Some piece) cell = overwritten piece cell

-- the sector `at` after one change
abbrev pub cell_after : ℕ → Cell → Change → Cell
cell_after at cell (Write start pieces) = written_if (piece_for start pieces at) cell
cell_after at cell Flush = settled cell.reads

-- and after these changes
abbrev pub cell_replayed : ℕ → Cell → List Change → Cell
cell_replayed at cell [] = cell
cell_replayed at cell (change ∷ changes) = cell_replayed at (cell_after at cell change) changes

-- Of a sector's candidates: how many they are, the latest, and the one that is chosen, once it is among them.
pub record Walked (index : ℕ) (cell : Cell) (count : ℕ) (latest chosen : Sector) : Type 0 where
  pub some : 0 < count
  pub counted : count ≡ length (candidates cell)
  pub last : latest ≡ cell.reads
  pub choice : index < length (candidates cell) → chosen ≡ candidate_at cell index
