-- Inodes in core, and the sectors that encode them.
use Rattle.std.specs.Prelude.{◌≡◌, ℕ, List, All, length}
use Rattle.geometry.specs.Places.{number_in}
use Rattle.inode_core.specs.Cores.{IsCore}
use Rattle.extent_fork.specs.Inodes.{inode_encoding}
use Rattle.extent_fork.specs.Reading.{CanBeDataBlock}
use Rattle.extent_fork.specs.Runs.{runs}
use Rattle.inode_cache.specs.declared.inode.Incore.{Incore}

-- an inode that a sector can encode: its core is allowed, and counts its data blocks and their runs
pub record IsIncore (inode : Incore) : Type 0 where
  pub allowed : IsCore inode.core
  pub data_blocks : All CanBeDataBlock inode.blocks
  pub count : inode.core.blocks ≡ length inode.blocks
  pub extents : inode.core.extents ≡ length (runs inode.blocks)

-- the sector that encodes the inode of this number in the group
abbrev pub incore_encoding : ℕ → List ℕ → ℕ → Incore → List ℕ
incore_encoding group uuid agino inode = inode_encoding inode.core (number_in group agino) uuid group inode.blocks
