-- The buffers of a group's inodes: a sector for each inode of each of its chunks.
use Rattle.std.specs.Prelude.{◌≡◌, ◌==◌, ◌%◌, ◌+◌, ◌<◌, ◌≤◌, ℕ, List, [], ◌∷◌, Option, None, if◌then◌else◌, length, slice_get}
use Rattle.std.specs.List.{AllPairs}
use Rattle.life_limits.specs.declared.TheConstants.{CHUNK_INODES, GROUP_NUMBERS}
use Rattle.life_bytes.specs.declared.sector.Sector.{Sector}
use Rattle.life_table.specs.Table.{start_of}

-- those of a chunk: the number of its first inode, and a sector for each inode
pub record Buffers : Type 0 where
  pub start : ℕ
  pub sectors : List Sector

-- a chunk starts at a multiple of 64, has 64 inodes, and is in its group
pub record AreBuffers (start : ℕ) (sectors : List Sector) : Type 0 where
  pub aligned : start % CHUNK_INODES ≡ 0
  pub whole : length sectors ≡ CHUNK_INODES
  pub low : start + CHUNK_INODES ≤ GROUP_NUMBERS

-- the chunks ascend
abbrev pub BuffersAscend : List Buffers → Type 0
BuffersAscend chunks = AllPairs (λ (a b : Buffers). a.start < b.start) chunks

-- the buffer of a number of the group, where a chunk has it
unfoldable pub buffer_in : List Buffers → ℕ → Option Sector
buffer_in [] agino = None
buffer_in (chunk ∷ chunks) agino = if chunk.start == start_of agino then slice_get chunk.sectors (agino % CHUNK_INODES) else buffer_in chunks agino
