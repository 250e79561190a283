-- What a change of a space asks for: that the space is one of chunks of which the change can be made. Each says that
-- there are such chunks; what comes of a change is said of all of them.
use Rattle.std.specs.Prelude.{◌≡◌, ◌≤◌, ℕ, List, ◌++◌, Some, is_some, true}
use Rattle.life_limits.specs.declared.TheConstants.{MAX_BLOCKS}
use Rattle.life_table.specs.declared.table.Inode.{Inode}
use Rattle.life_table.specs.Table.{Group, inode_in}
use Rattle.life_table.specs.Space.{times, row_blocks, chunk_place, free_blocks}
use Rattle.life_table.specs.WellFormed.{IsGroup}
use Rattle.group_space.specs.Space.{Space, IsSpaceOf, IsUnused}

-- the number is one of a chunk, and no row has it
pub record HasUnused (space : Space) (agino : ℕ) : Type 0 where
  pub blocks : ℕ
  pub chunks : Group
  pub space_of : IsSpaceOf blocks chunks space
  pub unused : IsUnused chunks agino

-- a chunk can be added, and this block is where the next one begins
pub record HasPlace (space : Space) (block : ℕ) : Type 0 where
  pub blocks : ℕ
  pub chunks : Group
  pub space_of : IsSpaceOf blocks chunks space
  pub few : blocks ≤ MAX_BLOCKS
  pub place : chunk_place blocks chunks ≡ Some block

-- the blocks are free ones, and none stands there twice
abbrev pub AreFreeBlocks : ℕ → Group → List ℕ → Type 0
AreFreeBlocks blocks chunks some = (block : ℕ) → times block some ≤ times block (free_blocks blocks chunks)

pub record HasFree (space : Space) (some : List ℕ) : Type 0 where
  pub blocks : ℕ
  pub chunks : Group
  pub space_of : IsSpaceOf blocks chunks space
  pub free : AreFreeBlocks blocks chunks some

-- the blocks are the last ones of a row
pub record HasLast (space : Space) (some : List ℕ) : Type 0 where
  pub blocks : ℕ
  pub chunks : Group
  pub agino : ℕ
  pub inode : Inode
  pub first : List ℕ
  pub space_of : IsSpaceOf blocks chunks space
  pub well_formed : IsGroup blocks chunks
  pub held : inode_in chunks agino ≡ Some inode
  pub last : row_blocks inode.row ≡ first ++ some

-- the number is in use, and its row has exactly these blocks
pub record HasInUse (space : Space) (agino : ℕ) (some : List ℕ) : Type 0 where
  pub blocks : ℕ
  pub chunks : Group
  pub inode : Inode
  pub space_of : IsSpaceOf blocks chunks space
  pub well_formed : IsGroup blocks chunks
  pub held : inode_in chunks agino ≡ Some inode
  pub used : is_some inode.row ≡ true
  pub own : row_blocks inode.row ≡ some
