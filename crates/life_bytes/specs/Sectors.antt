-- Sectors as lists of bytes.
use Rattle.std.specs.Prelude.{◌≡◌, List, All, length, replicate}
use Rattle.life_bytes.specs.declared.sector.Sector.{Sector}

-- a sector of zero bytes
abbrev pub zero_sector : Sector
zero_sector = record { bytes = replicate 512 0 }

-- each has the bytes of a sector, as every value of that type has
abbrev pub AreSectors : List Sector → Type 0
AreSectors sectors = All (λ sector. length sector.bytes ≡ 512) sectors
