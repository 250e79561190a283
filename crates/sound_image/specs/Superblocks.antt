-- The superblock of an image, and whether it has all its sectors.
use Rattle.std.specs.Prelude.{◌≡◌, ◌+◌, ◌*◌, ◌≤◌, List, length}
use Rattle.life_bytes.specs.declared.sector.Sector.{Sector}
use Rattle.geometry.specs.declared.shape.Geometry.{Geometry}
use Rattle.geometry.specs.Places.{group_sectors}
use Rattle.geometry.specs.Shape.{IsGeometry}
use Rattle.geometry.specs.Superblock.{superblock_encoding}
use Rattle.sound_image.specs.Places.{bytes_at}

-- sector 0 is the superblock of a geometry within the limits
pub record HasSuperblock (g : Geometry) (image : List Sector) : Type 0 where
  pub shape : IsGeometry g
  pub encoded : bytes_at image 0 ≡ superblock_encoding g

-- no sector of the groups, the anchor and the ring is missing
abbrev pub IsLongEnough : Geometry → List Sector → Type 0
IsLongEnough g image = g.groups * group_sectors g + 1 + g.ring ≤ length image
