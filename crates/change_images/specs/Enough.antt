-- Which places of a group are enough for a change of it.
use Rattle.std.specs.Prelude.{◌≡◌, ◌⊎◌, ◌+◌, ◌*◌, ◌/◌, ◌<◌, ◌≤◌, ℕ, List, [], ◌∷◌, Some, if◌then◌else◌, length, map, nat_lt, Contains}
use Rattle.std.specs.List.{All, range_with_len}
use Rattle.std.specs.List.Sorted.{IsStrictlyIncreasing}
use Rattle.life_limits.specs.declared.TheConstants.{BLOCK_SECTORS, CHUNK_INODES, MAX_IMAGES, SECTOR_BYTES}
use Rattle.life_bytes.specs.declared.sector.Sector.{Sector}
use Rattle.geometry.specs.declared.shape.Geometry.{Geometry}
use Rattle.geometry.specs.Places.{group_sectors}
use Rattle.life_table.specs.declared.table.Inode.{Inode}
use Rattle.life_table.specs.declared.table.Table.{Table}
use Rattle.life_table.specs.Table.{Group, group_at, inode_in, set_inode}
use Rattle.life_table.specs.Space.{times, row_blocks}
use Rattle.sound_image.specs.Places.{bitmap_place, bitmap_sectors}
use Rattle.sound_image.specs.Encoding.{Layouts, CanEncode, page_place}
use Rattle.encoded_changes.specs.Carry.{Stays}

-- These places of a group are enough for a change: they ascend, are places of the group, no more than a commit may have images, and of each other place the
-- format says the same before and after.
pub record AreEnough (g : Geometry) (group : ℕ) (layouts : Layouts) (chunks : Group) (others : Layouts) (next : Group) (places : List ℕ) : Type 0 where
  pub ascend : IsStrictlyIncreasing places
  pub within : All (λ place. place < group_sectors g) places
  pub few : length places ≤ MAX_IMAGES
  pub whole : (place : ℕ) → place < group_sectors g → Stays g group layouts chunks others next place ⊎ Contains places place

-- the places of some sectors of the bitmap, of the page, and of a chunk
abbrev pub bitmap_places : List ℕ → List ℕ
bitmap_places parts = map (λ k. bitmap_place + k) parts

abbrev pub page_places : Layouts → ℕ → List ℕ
page_places layouts group = range_with_len (page_place layouts group) BLOCK_SECTORS

abbrev pub chunk_places : ℕ → List ℕ
chunk_places start = range_with_len start CHUNK_INODES

-- two places, ascending
abbrev pub in_order : ℕ → ℕ → List ℕ
in_order a b = if nat_lt a b then a ∷ b ∷ [] else b ∷ a ∷ []

-- the sector of the bitmap that has the bit of a block
abbrev pub bitmap_part : ℕ → ℕ
bitmap_part block = block / (8 * SECTOR_BYTES)

-- Sectors of the bitmap, ascending, that have the bits of all blocks which one of two inodes has and the other has not.
pub record AreParts (old new : Inode) (parts : List ℕ) : Type 0 where
  pub ascend : IsStrictlyIncreasing parts
  pub within : All (λ k. k < bitmap_sectors) parts
  pub whole : (block : ℕ) → (times block (row_blocks new.row) ≡ times block (row_blocks old.row)) ⊎ Contains parts (bitmap_part block)

-- An inode of a group of a table that an image can encode.
pub record IsInodeOf (g : Geometry) (t : Table) (layouts : Layouts) (image : List Sector) (group agino : ℕ) (inode : Inode) : Type 0 where
  pub encodes : CanEncode g t layouts image
  pub within : group < g.groups
  pub found : inode_in (group_at t group) agino ≡ Some inode

-- These places are enough where this inode comes to be another one, and the layouts become others.
abbrev pub AreEnoughFor : Geometry → Table → Layouts → Layouts → ℕ → ℕ → Inode → List ℕ → Type 0
AreEnoughFor g t layouts others group agino new places =
    AreEnough g group layouts (group_at t group) others (set_inode (group_at t group) agino new) places
