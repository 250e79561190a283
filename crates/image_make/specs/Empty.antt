-- The sectors of an image without a file.
use Rattle.std.specs.Prelude.{◌≡◌, ◌<◌, ◌≤◌, ◌+◌, ◌*◌, ℕ, List, [], length, slice_index_or, unwrap_or}
use Rattle.life_bytes.specs.declared.sector.Sector.{Sector}
use Rattle.life_bytes.specs.Sectors.{zero_sector}
use Rattle.geometry.specs.declared.shape.Geometry.{Geometry}
use Rattle.geometry.specs.Places.{group_sectors, anchor_of}
use Rattle.geometry.specs.Superblock.{superblock_encoding}
use Rattle.sound_image.specs.Places.{sector_in}
use Rattle.sound_image.specs.Encoding.{metadata}
use Rattle.log_image.specs.Anchor.{anchor_sector}

-- a sector of a list; zero where it has none
abbrev pub sector_or_zero : List Sector → ℕ → Sector
sector_or_zero sectors s = slice_index_or sectors s zero_sector

-- what stands at a place of a group without a chunk, whose page is in the first block of pages: zero where the format says nothing
abbrev pub empty_sector : Geometry → ℕ → ℕ → Sector
empty_sector g group place = record { bytes = unwrap_or (metadata g [] group [] place) zero_sector.bytes }

-- The first n groups are made, and each sector behind them is zero.
pub record AreMade (g : Geometry) (n : ℕ) (image : List Sector) : Type 0 where
  pub size : anchor_of g + 1 + g.ring ≤ length image
  pub groups : (group place : ℕ) → group < n → place < group_sectors g → sector_or_zero image (sector_in g group place) ≡ empty_sector g group place
  pub behind : (s : ℕ) → n * group_sectors g ≤ s → sector_or_zero image s ≡ zero_sector

-- All groups and the anchor are made, and each sector behind them is zero. No superblock tells so yet.
pub record AwaitsSuperblock (g : Geometry) (image : List Sector) : Type 0 where
  pub size : anchor_of g + 1 + g.ring ≤ length image
  pub groups : (group place : ℕ) → group < g.groups → place < group_sectors g → sector_or_zero image (sector_in g group place) ≡ empty_sector g group place
  pub anchor : sector_or_zero image (anchor_of g) ≡ anchor_sector g.ring 1
  pub ring : (s : ℕ) → anchor_of g < s → sector_or_zero image s ≡ zero_sector

-- The whole image, sector by sector: the superblock; in each group its header, bitmap and page, and zero bytes where the format names nothing; the
-- anchor of a log that goes on one turn of the ring behind its beginning; and zero bytes from there to the end of the disk.
pub record IsFinished (g : Geometry) (image : List Sector) : Type 0 where
  pub size : anchor_of g + 1 + g.ring ≤ length image
  pub first : (sector_or_zero image 0).bytes ≡ superblock_encoding g
  pub groups : (group place : ℕ) → group < g.groups → place < group_sectors g → 0 < sector_in g group place
      → sector_or_zero image (sector_in g group place) ≡ empty_sector g group place
  pub anchor : sector_or_zero image (anchor_of g) ≡ anchor_sector g.ring 1
  pub ring : (s : ℕ) → anchor_of g < s → sector_or_zero image s ≡ zero_sector
