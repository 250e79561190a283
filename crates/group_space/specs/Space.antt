-- What of a group its allocation is, as a value: the records of its chunks, and for each of its blocks whether it is
-- free.
use Rattle.std.specs.Prelude.{◌≡◌, ◌+◌, ◌*◌, ℕ, Bool, List, Option, IsSomeAnd, IsTrue, None, map, unwrap_or}
use Rattle.life_limits.specs.declared.TheConstants.{BLOCK_SECTORS}
use Rattle.geometry.specs.declared.shape.Geometry.{Geometry}
use Rattle.geometry.specs.Places.{group_sectors}
use Rattle.inobt_leaf.specs.declared.chunk.ChunkRec.{ChunkRec}
use Rattle.life_table.specs.Table.{Group, inode_in}
use Rattle.life_table.specs.Space.{is_free}
use Rattle.sound_image.specs.Encoding.{chunk_record}
use Rattle.sound_image.specs.Rules.{free_set}

-- the records, by ascending start, and the blocks, by their number
pub record Space : Type 0 where
  pub records : List ChunkRec
  pub free : List Bool

-- It is the space of a group of so many blocks with these chunks: the records are those of the chunks, and the free
-- blocks are the data blocks that no chunk and no row has.
pub record IsSpaceOf (blocks : ℕ) (chunks : Group) (space : Space) : Type 0 where
  pub records : space.records ≡ map chunk_record chunks
  pub free : space.free ≡ free_set blocks chunks

-- what a change makes anew of a space; the rest stays
pub record Changed : Type 0 where
  pub records : Option (List ChunkRec)
  pub free : Option (List Bool)

-- the space after the change
abbrev pub changed_space : Space → Changed → Space
changed_space space change =
    record { records = unwrap_or change.records space.records; free = unwrap_or change.free space.free }

-- a chunk has the number, and no row does
abbrev pub IsUnused : Group → ℕ → Type 0
IsUnused chunks agino = IsSomeAnd (inode_in chunks agino) (λ inode. inode.row ≡ None)

-- a chunk has the number, no row does, and it has a life left
abbrev pub IsFreeIn : Group → ℕ → Type 0
IsFreeIn chunks agino = IsSomeAnd (inode_in chunks agino) (λ inode. IsTrue (is_free inode))

-- the first sector in the image of a block of a group
abbrev pub block_place : Geometry → ℕ → ℕ → ℕ
block_place g group block = group * group_sectors g + BLOCK_SECTORS * block
