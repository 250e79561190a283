-- Parts of a table, as the functions that look at them say it.
use Rattle.std.specs.Prelude.{◌≡◌, ◌≢◌, ◌==◌, ◌-◌, ◌/◌, ◌&&◌, ◌||◌, ℕ, Bool, List, Some, nat_le, nat_lt, slice_get, take}
use Rattle.std.specs.List.{AllByRecursion, list_any}
use Rattle.life_limits.specs.declared.TheConstants.{BLOCK_SECTORS}
use Rattle.life_table.specs.declared.table.Inode.{Inode}
use Rattle.life_table.specs.declared.table.Chunk.{Chunk}
use Rattle.life_table.specs.Table.{Group}
use Rattle.life_table.specs.Space.{chunk_length, row_blocks}

-- no chunk of the group starts here
abbrev pub IsAbsent : ℕ → Group → Type 0
IsAbsent start group = AllByRecursion (λ (chunk : Chunk). chunk.start ≢ start) group

-- the first chunk of the group that starts here is at this place
pub record IsFirstAt (start : ℕ) (group : Group) (place : ℕ) : Type 0 where
  pub chunk : Chunk
  pub at : slice_get group place ≡ Some chunk
  pub starts : chunk.start ≡ start
  pub earlier : IsAbsent start (take place group)

-- whether a block is in a list
abbrev pub has_block : ℕ → List ℕ → Bool
has_block block blocks = list_any (λ other. other == block) blocks

-- whether a block is one of a chunk's own
abbrev pub is_own_block : ℕ → Chunk → Bool
is_own_block block chunk = nat_le (chunk.start / BLOCK_SECTORS) block && nat_lt (block - chunk.start / BLOCK_SECTORS) chunk_length

-- whether a chunk or one of its rows has a block
abbrev pub uses_block : ℕ → Chunk → Bool
uses_block block chunk = is_own_block block chunk || list_any (λ (inode : Inode). has_block block (row_blocks inode.row)) chunk.inodes
