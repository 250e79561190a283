-- The rules in front of those of the groups, which are of an image as it reads: its superblock, its number of sectors, its
-- anchor and its log. An image is the list of its sectors from 0 on; what is behind the ring counts for nothing.
use Rattle.std.specs.Prelude.{◌*◌, ℕ, List}
use Rattle.life_bytes.specs.declared.sector.Sector.{Sector}
use Rattle.geometry.specs.declared.shape.Geometry.{Geometry}
use Rattle.geometry.specs.Places.{group_sectors, anchor_of}
use Rattle.sound_image.specs.Superblocks.{HasSuperblock}
use Rattle.log_image.specs.Anchor.{HasAnchor}
use Rattle.log_image.specs.Log.{Log, HasLog, ring_part}

-- the ring of an image
abbrev pub ring_of : Geometry → List Sector → List Sector
ring_of g image = ring_part (anchor_of g) g.ring image

-- Sector 0 is the superblock of a geometry within the limits.
abbrev pub IsSuperblockRight : List Sector → Type 0
IsSuperblockRight image = (g : Geometry) × HasSuperblock g image

-- The sector between the groups and the ring encodes an anchor with some numbers that fit the ring.
abbrev pub IsAnchorRight : Geometry → List Sector → Type 0
IsAnchorRight g image = (position : ℕ) × (next : ℕ) × HasAnchor image (anchor_of g) g.ring position next

-- Behind an anchor with this position and this commit number the ring has a right log.
abbrev pub IsLogRight : Geometry → List Sector → ℕ → ℕ → Type 0
IsLogRight g image position next = (log : Log) × HasLog (ring_of g image) (anchor_of g) position next log
