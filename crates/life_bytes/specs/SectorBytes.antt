-- Sectors that follow each other, as one list of bytes.
use Rattle.std.specs.Prelude.{ℕ, List}
use Rattle.std.specs.List.{flat_map}
use Rattle.life_bytes.specs.declared.sector.Sector.{Sector}

abbrev pub bytes_of : List Sector → List ℕ
bytes_of sectors = flat_map (λ s. s.bytes) sectors
