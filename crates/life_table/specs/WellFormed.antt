-- What makes a table well formed.
use Rattle.std.specs.Prelude.{◌≡◌, ◌%◌, ◌<◌, ◌≤◌, ⊤, ℕ, [], ◌∷◌, IfSome, length}
use Rattle.std.specs.List.{AllByRecursion}
use Rattle.life_limits.specs.declared.TheConstants.{CHUNK_INODES, FIRST_DATA_BLOCK, MAX_BLOCKS, MAX_CHUNKS, MAX_EXTENTS, MAX_GENERATION, MAX_GROUPS, MAX_LINKS, MAX_PINS, MIN_BLOCKS, VERSION}
use Rattle.extent_fork.specs.Runs.{runs}
use Rattle.life_table.specs.declared.types.Row.{Row}
use Rattle.life_table.specs.declared.table.Inode.{Inode}
use Rattle.life_table.specs.declared.table.Chunk.{Chunk}
use Rattle.life_table.specs.declared.table.Table.{Table}
use Rattle.life_table.specs.Table.{Group}
use Rattle.life_table.specs.Space.{times, used}

-- a row in the life of this generation, within the limits; the last generation has no life
pub record IsRow (generation : ℕ) (row : Row) : Type 0 where
  pub life : generation < MAX_GENERATION
  pub links : row.links ≤ MAX_LINKS
  pub opens : row.opens ≤ MAX_PINS
  pub runs : length (runs row.blocks) ≤ MAX_EXTENTS

-- an inode whose generation is within the limits, and its row too
pub record IsInode (inode : Inode) : Type 0 where
  pub first : 1 ≤ inode.generation
  pub last : inode.generation ≤ MAX_GENERATION
  pub row : IfSome inode.row (IsRow inode.generation)

-- 64 inodes from a multiple of 64 on
pub record IsChunk (chunk : Chunk) : Type 0 where
  pub start : chunk.start % CHUNK_INODES ≡ 0
  pub whole : length chunk.inodes ≡ CHUNK_INODES
  pub inodes : AllByRecursion IsInode chunk.inodes

-- each chunk starts below all later ones
abbrev pub ChunksAscend : Group → Type 0
ChunksAscend [] = ⊤
ChunksAscend (chunk ∷ chunks) = AllByRecursion (λ (later : Chunk). chunk.start < later.start) chunks × ChunksAscend chunks

-- a block that chunks and rows may have
abbrev pub IsDataBlock : ℕ → ℕ → Type 0
IsDataBlock blocks block = (FIRST_DATA_BLOCK ≤ block) × (block < blocks)

-- a group of so many blocks: no block is in two rows, in a row and a chunk, or twice in one
pub record IsGroup (blocks : ℕ) (group : Group) : Type 0 where
  pub few : length group ≤ MAX_CHUNKS
  pub ascends : ChunksAscend group
  pub chunks : AllByRecursion IsChunk group
  pub data_blocks : (block : ℕ) → 1 ≤ times block (used group) → IsDataBlock blocks block
  pub once : (block : ℕ) → times block (used group) ≤ 1

-- a table within the limits, each group of which is well formed
pub record IsTable (t : Table) : Type 0 where
  pub version : t.version ≡ VERSION
  pub least : MIN_BLOCKS ≤ t.blocks
  pub most : t.blocks ≤ MAX_BLOCKS
  pub some : 1 ≤ length t.groups
  pub many : length t.groups ≤ MAX_GROUPS
  pub groups : AllByRecursion (IsGroup t.blocks) t.groups
