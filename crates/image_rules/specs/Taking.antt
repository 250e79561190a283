-- How blocks are taken from the free ones of a group.
use Rattle.std.specs.Prelude.{◌≡◌, ◌≤◌, ◌<◌, ◌+◌, ◌/◌, ◌⊎◌, ℕ, Bool, true, false, List, Option, Some, length, unwrap_or}
use Rattle.life_limits.specs.declared.TheConstants.{BLOCK_SECTORS}
use Rattle.inobt_leaf.specs.declared.chunk.ChunkRec.{ChunkRec}
use Rattle.life_table.specs.Space.{times, chunk_length}
use Rattle.free_map.specs.Blocks.{is_block_free}

-- a block is none of so many from one on
abbrev pub MissesRun : ℕ → ℕ → ℕ → Type 0
MissesRun b first count = (b < first) ⊎ (first + count ≤ b)

-- a block is none of a chunk's
abbrev pub Misses : ℕ → ChunkRec → Type 0
Misses b chunk = MissesRun b (chunk.start / BLOCK_SECTORS) chunk_length

-- each of the blocks stands there once and was free, and is taken; the others stay
pub record TakesAll (old : List Bool) (blocks : List ℕ) (new : List Bool) : Type 0 where
  pub free : (b : ℕ) → 1 ≤ times b blocks → is_block_free old b ≡ true
  pub once : (b : ℕ) → times b blocks ≤ 1
  pub taken : (b : ℕ) → 1 ≤ times b blocks → is_block_free new b ≡ false
  pub others : (b : ℕ) → times b blocks ≡ 0 → is_block_free new b ≡ is_block_free old b

-- one of the blocks was not free, or stands there twice
pub record SharesBlock (old : List Bool) (blocks : List ℕ) : Type 0 where
  pub block : ℕ
  pub has : 1 ≤ times block blocks
  pub why : (is_block_free old block ≡ false) ⊎ (2 ≤ times block blocks)

-- what becomes of the free blocks, and of the first sector whose blocks are not its own, as those of a sector are taken: either all
-- were free, or the sector is noted where none was before
pub data Adds (old : List Bool) (first : Option ℕ) (at : ℕ) (blocks : List ℕ) : List Bool → Option ℕ → Type 0 where
  all : (new : List Bool) → TakesAll old blocks new → length new ≡ length old → Adds old first at blocks new first
  crowded : (new : List Bool) → SharesBlock old blocks → Adds old first at blocks new (Some (unwrap_or first at))
