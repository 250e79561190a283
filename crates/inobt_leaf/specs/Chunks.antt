-- Records of chunks of 64 inodes, and the leaf as their list.
use Rattle.std.specs.Prelude.{◌≡◌, ◌+◌, ◌-◌, ◌^◌, ◌%◌, ◌<◌, ◌≤◌, ◌&&◌, ℕ, Bool, nat_le, nat_lt, if◌then◌else◌, List, ◌∷◌, ◌++◌, length, filter, All, count_ones}
use Rattle.std.specs.List.{AllPairs}
use Rattle.life_limits.specs.declared.TheConstants.{MAX_LEAF_RECORDS}
use Rattle.inobt_leaf.specs.declared.chunk.ChunkRec.{ChunkRec}
use Rattle.inobt_leaf.specs.Masks.{without_bit, with_bit}

-- whether an inode is one of the chunk's 64
abbrev pub chunk_holds : ℕ → ChunkRec → Bool
chunk_holds agino chunk = nat_le chunk.start agino && nat_lt agino (chunk.start + 64)

-- its fields fit, it starts at a multiple of 64, and free counts the set bits of its mask
pub record IsChunkRecord (chunk : ChunkRec) : Type 0 where
  pub start : chunk.start < 2 ^ 32
  pub mask : chunk.mask < 2 ^ 64
  pub aligned : chunk.start % 64 ≡ 0
  pub free : chunk.free ≡ count_ones chunk.mask

-- each chunk starts before those behind it
abbrev pub RecordsAscend : List ChunkRec → Type 0
RecordsAscend chunks = AllPairs (λ a b. a.start < b.start) chunks

-- the chunks of a leaf
pub record IsLeaf (chunks : List ChunkRec) : Type 0 where
  pub few : length chunks ≤ MAX_LEAF_RECORDS
  pub each : All IsChunkRecord chunks
  pub ascends : RecordsAscend chunks

-- the chunk after one of its inodes was taken, and after it was given back
abbrev pub after_take : ℕ → ChunkRec → ChunkRec
after_take agino chunk = record chunk { free = chunk.free - 1; mask = without_bit chunk.mask (agino - chunk.start) }

abbrev pub after_give : ℕ → ChunkRec → ChunkRec
after_give agino chunk = record chunk { free = chunk.free + 1; mask = with_bit chunk.mask (agino - chunk.start) }

-- the chunk that holds the inode is changed, and the others stay
abbrev pub where_held : ℕ → (ChunkRec → ChunkRec) → ChunkRec → ChunkRec
where_held agino change chunk = if chunk_holds agino chunk then change chunk else chunk

-- a chunk whose 64 inodes are free
abbrev pub whole_chunk : ℕ → ChunkRec
whole_chunk start = record { start = start; free = 64; mask = 2 ^ 64 - 1 }

-- the chunks with one more, in order
abbrev pub with_whole_chunk : ℕ → List ChunkRec → List ChunkRec
with_whole_chunk start chunks = filter (λ c. nat_lt c.start start) chunks ++ whole_chunk start ∷ filter (λ c. nat_lt start c.start) chunks
