-- One outcome of a stop, chosen by a number.
use Rattle.std.specs.Prelude.{◌/◌, ◌%◌, ℕ, List, [], ◌∷◌, length, reverse, slice_index_or}
use Rattle.life_bytes.specs.declared.sector.Sector.{Sector}
use Rattle.disk_model.specs.Disk.{Cell}

-- What a stop may leave in a sector, the oldest first: the value at the last flush, and those written since.
abbrev pub candidates : Cell → List Sector
candidates cell = reverse (cell.reads ∷ cell.others)

-- one of them
abbrev pub candidate_at : Cell → ℕ → Sector
candidate_at cell k = slice_index_or (candidates cell) k cell.reads

-- For each sector in turn one of its candidates: of c of them the one at choice mod c, and the others go on with choice / c.
abbrev pub picked : ℕ → List Cell → List Sector
picked choice [] = []
picked choice (cell ∷ cells) =
    candidate_at cell (choice % length (candidates cell)) ∷ picked (choice / length (candidates cell)) cells
