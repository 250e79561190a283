-- Images that represent the same.
use Rattle.std.specs.Prelude.{◌⊎◌, ℕ, List}
use Rattle.life_bytes.specs.declared.sector.Sector.{Sector}
use Rattle.disk_model.specs.Disk.{Cell, IsImage, as_read}
use Rattle.life_table.specs.declared.table.Table.{Table}
use Rattle.whole_image.specs.Represents.{Represents}

-- two images represent one table, with one next commit number
abbrev pub RepresentSame : List Sector → List Sector → Type 0
RepresentSame old new = (t : Table) × (c : ℕ) × Represents old t c × Represents new t c

-- what a stop in the recovery of a disk leaves: an image that it might have left before, or one that represents what the disk read as
abbrev pub IsLeftBy : List Cell → List Sector → Type 0
IsLeftBy cells image = IsImage cells image ⊎ RepresentSame (as_read cells) image

-- each image that the disk may leave then represents what it read as before
abbrev pub AllSame : List Cell → List Cell → Type 0
AllSame old new = (image : List Sector) → IsImage new image → RepresentSame (as_read old) image
