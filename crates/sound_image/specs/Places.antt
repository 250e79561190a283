-- Where things stand in an image, which is the list of its sectors from 0 on, and their bytes.
use Rattle.std.specs.Prelude.{◌≡◌, ◌<◌, ◌≤◌, ◌+◌, ◌*◌, ℕ, List, length, slice_index_or, take, drop}
use Rattle.std.specs.List.{flat_map, range_with_len}
use Rattle.life_limits.specs.declared.TheConstants.{BLOCK_SECTORS, SECTOR_BYTES}
use Rattle.life_bytes.specs.declared.sector.Sector.{Sector}
use Rattle.life_bytes.specs.Sectors.{zero_sector}
use Rattle.geometry.specs.declared.shape.Geometry.{Geometry}
use Rattle.geometry.specs.Places.{group_sectors}

-- the bytes of a sector
unfoldable pub bytes_at : List Sector → ℕ → List ℕ
bytes_at image s = (slice_index_or image s zero_sector).bytes

-- the bytes of n sectors from one on, one behind the other
unfoldable pub bytes_from : List Sector → ℕ → ℕ → List ℕ
bytes_from image s n = flat_map (bytes_at image) (range_with_len s n)

-- the part of bytes that stands in the k-th of the sectors that hold them
unfoldable pub part : ℕ → List ℕ → List ℕ
part k bytes = take SECTOR_BYTES (drop (SECTOR_BYTES * k) bytes)

-- the sector of the image at a place of a group: the groups follow each other
unfoldable pub sector_in : Geometry → ℕ → ℕ → ℕ
sector_in g group place = group * group_sectors g + place

-- two images hold the groups, with the same sectors in them
pub record HasSameGroups (g : Geometry) (image other : List Sector) : Type 0 where
  pub size : g.groups * group_sectors g ≤ length image
  pub other_size : g.groups * group_sectors g ≤ length other
  pub each : (s : ℕ) → s < g.groups * group_sectors g → bytes_at image s ≡ bytes_at other s

-- where the header and the bitmap of a group stand in it: sector 2, and the first sectors of block 1
abbrev pub header_place : ℕ
header_place = 2

abbrev pub bitmap_place : ℕ
bitmap_place = BLOCK_SECTORS

-- how many sectors a bitmap has
abbrev pub bitmap_sectors : ℕ
bitmap_sectors = 4
