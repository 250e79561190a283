-- What the inodes of a group tell that were gone through, in ascending order: all those below a number.
use Rattle.std.specs.Prelude.{◌≡◌, ◌≤◌, ◌<◌, ◌+◌, ℕ, Bool, true, List, Option, None, Some, All, length, if◌then◌else◌, ⊤}
use Rattle.life_limits.specs.declared.TheConstants.{CHUNK_INODES, FIRST_DATA_BLOCK}
use Rattle.life_bytes.specs.declared.sector.Sector.{Sector}
use Rattle.geometry.specs.declared.shape.Geometry.{Geometry}
use Rattle.free_map.specs.Blocks.{is_block_free}
use Rattle.inobt_leaf.specs.declared.chunk.ChunkRec.{ChunkRec}
use Rattle.life_table.specs.declared.types.Row.{Row}
use Rattle.life_table.specs.declared.table.Inode.{Inode}
use Rattle.life_table.specs.Space.{chunk_blocks, row_blocks}
use Rattle.sound_image.specs.Places.{bitmap_place, bitmap_sectors, bytes_at, sector_in}
use Rattle.sound_image.specs.Reading.{core_of, blocks_in, group_read, inode_read, inode_at, row_at}
use Rattle.sound_image.specs.Rules.{IsCoreRight, IsForkRight, AreBlocksAlone, IsBitmapRight, IsIn}
use Rattle.image_rules.specs.declared.fault.CheckFault.{CheckFault}
use Rattle.image_rules.specs.declared.fault.CheckFault.TheVariants.{Damaged, ReadFault, NoMemory}

-- a block is in no chunk of the group, and in no inode below a number
abbrev pub InNoChunk : Geometry → List Sector → ℕ → ℕ → Type 0
InNoChunk g image group b = All (λ chunk. ¬ IsIn b (chunk_blocks chunk)) (group_read g image group)

abbrev pub InNoneBelow : Geometry → List Sector → ℕ → ℕ → ℕ → Type 0
InNoneBelow g image group bound b = (agino : ℕ) → agino < bound → ¬ IsIn b (row_blocks (row_at g image group agino))

-- the map has the data blocks that are in no chunk and in no inode below a number
pub record IsLeft (g : Geometry) (image : List Sector) (group bound : ℕ) (map : List Bool) : Type 0 where
  pub long : length map ≡ g.blocks
  pub free : (b : ℕ) → is_block_free map b ≡ true → (FIRST_DATA_BLOCK ≤ b) × (b < g.blocks) × InNoChunk g image group b × InNoneBelow g image group bound b
  pub kept : (b : ℕ) → FIRST_DATA_BLOCK ≤ b → b < g.blocks → InNoChunk g image group b → InNoneBelow g image group bound b → is_block_free map b ≡ true

-- the core of an inode, the fork of one in use, and its blocks are right
abbrev pub CoreHolds : Geometry → List Sector → ℕ → ℕ → Type 0
CoreHolds g image group agino = (inode : Inode) → inode_at g image group agino ≡ Some inode → IsCoreRight g image group agino inode

abbrev pub ForkHolds : Geometry → List Sector → ℕ → ℕ → Type 0
ForkHolds g image group agino = (row : Row) → row_at g image group agino ≡ Some row → IsForkRight g image group agino

abbrev pub BlocksHold : Geometry → List Sector → ℕ → ℕ → Type 0
BlocksHold g image group agino = (row : Row) → row_at g image group agino ≡ Some row → AreBlocksAlone g image group agino row

-- a sector is that of the first inode whose core is wrong, whose fork is wrong, or that has a block which is not its own
pub record FirstCore (g : Geometry) (image : List Sector) (group s : ℕ) : Type 0 where
  pub agino : ℕ
  pub place : s ≡ sector_in g group agino
  pub inode : Inode
  pub found : inode_at g image group agino ≡ Some inode
  pub wrong : ¬ IsCoreRight g image group agino inode
  pub before : (other : ℕ) → other < agino → CoreHolds g image group other

pub record FirstFork (g : Geometry) (image : List Sector) (group s : ℕ) : Type 0 where
  pub agino : ℕ
  pub place : s ≡ sector_in g group agino
  pub row : Row
  pub found : row_at g image group agino ≡ Some row
  pub wrong : ¬ IsForkRight g image group agino
  pub before : (other : ℕ) → other < agino → ForkHolds g image group other

pub record FirstShared (g : Geometry) (image : List Sector) (group s : ℕ) : Type 0 where
  pub agino : ℕ
  pub place : s ≡ sector_in g group agino
  pub row : Row
  pub found : row_at g image group agino ≡ Some row
  pub wrong : ¬ AreBlocksAlone g image group agino row
  pub before : (other : ℕ) → other < agino → BlocksHold g image group other

-- of the inodes below a number, whether the fork of one is wrong, and whether one has a block which is not its own: the sector of the first
abbrev pub ForksBelow : Geometry → List Sector → ℕ → ℕ → Option ℕ → Type 0
ForksBelow g image group bound None = (agino : ℕ) → agino < bound → ForkHolds g image group agino
ForksBelow g image group bound (Some s) = FirstFork g image group s

abbrev pub BlocksBelow : Geometry → List Sector → ℕ → ℕ → Option ℕ → Type 0
BlocksBelow g image group bound None = (agino : ℕ) → agino < bound → BlocksHold g image group agino
BlocksBelow g image group bound (Some s) = FirstShared g image group s

-- all that was gathered of the inodes below a number: blocks tell nothing once a fork is wrong
pub record Gathered (g : Geometry) (image : List Sector) (group bound : ℕ) (map : List Bool) (fork shared : Option ℕ) : Type 0 where
  pub cores : (agino : ℕ) → agino < bound → CoreHolds g image group agino
  pub forks : ForksBelow g image group bound fork
  pub blocks : fork ≡ None → BlocksBelow g image group bound shared
  pub left : fork ≡ None → shared ≡ None → IsLeft g image group bound map

-- the row that a sector gives an inode, unless the inode is free
abbrev pub row_unless : Geometry → List Sector → ℕ → ℕ → Bool → Option Row
row_unless g image group agino free = if free then None else Some (record { links = (core_of g image group agino).links; blocks = blocks_in g image group agino; opens = 0 })

-- the next inode that the group has from a number on, and what its sector holds
pub record IsNextInode (g : Geometry) (image : List Sector) (group bound agino : ℕ) (bytes : List ℕ) (free : Bool) : Type 0 where
  pub shown : bytes_at image (sector_in g group agino) ≡ bytes
  pub inode : Inode
  pub found : inode_at g image group agino ≡ Some inode
  pub row : inode.row ≡ row_unless g image group agino free
  pub from : bound ≤ agino
  pub none : (other : ℕ) → bound ≤ other → other < agino → inode_at g image group other ≡ None

-- a fault at an inode: damage is the first wrong core
abbrev pub CoreFault : Geometry → List Sector → ℕ → CheckFault → Type 0
CoreFault g image group (Damaged number s) = (number ≡ 7) × FirstCore g image group s
CoreFault g image group ReadFault = ⊤
CoreFault g image group NoMemory = ⊤

-- the next chunk that the group has from a number on
pub record IsNextChunk (g : Geometry) (image : List Sector) (group bound : ℕ) (chunk : ChunkRec) : Type 0 where
  pub from : bound ≤ chunk.start
  pub none : (other : ℕ) → bound ≤ other → other < chunk.start → inode_at g image group other ≡ None
  pub found : (i : ℕ) → i < CHUNK_INODES → inode_at g image group (chunk.start + i) ≡ Some (inode_read g image group chunk i)

-- all that was gathered once no inode is left
pub record AllGathered (g : Geometry) (image : List Sector) (group : ℕ) (map : List Bool) (fork shared : Option ℕ) : Type 0 where
  pub bound : ℕ
  pub none : (agino : ℕ) → bound ≤ agino → inode_at g image group agino ≡ None
  pub gathered : Gathered g image group bound map fork shared

-- a sector is the first of the bitmap that is wrong
pub record FirstBitmap (g : Geometry) (image : List Sector) (group s : ℕ) : Type 0 where
  pub place : ℕ
  pub low : place < bitmap_sectors
  pub at : s ≡ sector_in g group (bitmap_place + place)
  pub before : (other : ℕ) → other < place → IsBitmapRight g image group other
  pub wrong : ¬ IsBitmapRight g image group place

abbrev pub BitmapFault : Geometry → List Sector → ℕ → CheckFault → Type 0
BitmapFault g image group (Damaged number s) = (number ≡ 10) × FirstBitmap g image group s
BitmapFault g image group ReadFault = ⊤
BitmapFault g image group NoMemory = ⊤
