-- What is free: blocks, numbers of inodes, and places for chunks.
use Rattle.std.specs.Prelude.{◌≡◌, ◌≤◌, ◌<◌, ◌==◌, ◌+◌, ◌*◌, ◌/◌, ◌%◌, ◌&&◌, ℕ, Bool, true, List, [], ◌∷◌, ◌++◌, Option, None, Some, IsSome, IsSomeAnd, IsTrue, is_some, is_none, if◌then◌else◌, nat_le, nat_lt, length, replicate, slice_get}
use Rattle.std.specs.List.{filter, find, flat_map, list_all, range_with_len}
use Rattle.life_limits.specs.declared.TheConstants.{BLOCK_SECTORS, CHUNK_INODES, FIRST_DATA_BLOCK, GROUP_NUMBERS, MAX_CHUNKS, MAX_GENERATION}
use Rattle.life_table.specs.declared.key.Key.{Key}
use Rattle.life_table.specs.declared.types.Row.{Row}
use Rattle.life_table.specs.declared.table.Inode.{Inode}
use Rattle.life_table.specs.declared.table.Chunk.{Chunk}
use Rattle.life_table.specs.declared.table.Table.{Table}
use Rattle.life_table.specs.Table.{Group, inode_of}

-- how often a block stands in a list
unfoldable pub times : ℕ → List ℕ → ℕ
times block [] = 0
times block (other ∷ blocks) = (if block == other then 1 else 0) + times block blocks

-- how many blocks a chunk has: 8
abbrev pub chunk_length : ℕ
chunk_length = CHUNK_INODES / BLOCK_SECTORS

-- the blocks of a chunk: an inode is a sector, and its number in the group is the number of the sector
unfoldable pub chunk_blocks : Chunk → List ℕ
chunk_blocks chunk = range_with_len (chunk.start / BLOCK_SECTORS) chunk_length

-- the blocks of an inode's row
abbrev pub row_blocks : Option Row → List ℕ
row_blocks None = []
row_blocks (Some row) = row.blocks

-- the blocks that the rows of a list of inodes have, one row after the other
unfoldable pub inode_blocks : List Inode → List ℕ
inode_blocks inodes = flat_map (λ inode. row_blocks inode.row) inodes

-- the blocks that the chunks of a group and its rows have
unfoldable pub used : Group → List ℕ
used group = flat_map (λ chunk. chunk_blocks chunk ++ inode_blocks chunk.inodes) group

-- whether a block of a group of so many blocks is free: a data block that no chunk and no row has
unfoldable pub is_free_block : ℕ → Group → ℕ → Bool
is_free_block blocks group block = nat_le FIRST_DATA_BLOCK block && (nat_lt block blocks && times block (used group) == 0)

-- the free blocks of a group, ascending
unfoldable pub free_blocks : ℕ → Group → List ℕ
free_blocks blocks group = filter (is_free_block blocks group) (range_with_len 0 blocks)

-- whether a block is a multiple of 8 and begins 8 free blocks
unfoldable pub begins_run : ℕ → Group → ℕ → Bool
begins_run blocks group block = (block % chunk_length == 0) && list_all (is_free_block blocks group) (range_with_len block chunk_length)

-- what the test says
abbrev pub BeginsFreeRun : ℕ → Group → ℕ → Type 0
BeginsFreeRun blocks group block = (block % chunk_length ≡ 0) × ((b : ℕ) → block ≤ b → b < block + chunk_length → is_free_block blocks group b ≡ true)

-- where the next chunk would be: at the lowest such block, where the group has fewer chunks than it can
unfoldable pub chunk_place : ℕ → Group → Option ℕ
chunk_place blocks group = if nat_lt (length group) MAX_CHUNKS then find (begins_run blocks group) (range_with_len 0 blocks) else None

-- a chunk can be added
abbrev pub CanAddChunk : ℕ → Group → Type 0
CanAddChunk blocks group = IsSome (chunk_place blocks group)

-- the chunk that is added at a block: no inode of it is in use, and each will be in its first life
unfoldable pub new_chunk : ℕ → Chunk
new_chunk block = record { start = block * BLOCK_SECTORS; inodes = replicate CHUNK_INODES (record { generation = 1; row = None }) }

-- the group with one chunk more, in its order
unfoldable pub insert_chunk : Chunk → Group → Group
insert_chunk new [] = new ∷ []
insert_chunk new (chunk ∷ chunks) = if nat_lt new.start chunk.start then new ∷ chunk ∷ chunks else chunk ∷ insert_chunk new chunks

-- whether an inode is free: it is not in use, and has a life left
abbrev pub is_free : Inode → Bool
is_free inode = is_none inode.row && nat_lt inode.generation MAX_GENERATION

-- the number is free
abbrev pub IsFreeNumber : Table → ℕ → Type 0
IsFreeNumber t number = IsSomeAnd (inode_of t number) (λ inode. IsTrue (is_free inode))

-- the keys that the free ones of these inodes would have, which are numbered from here on
unfoldable pub keys_from : ℕ → List Inode → List Key
keys_from number [] = []
keys_from number (inode ∷ inodes) =
    if is_free inode
    then record { number = number; generation = inode.generation } ∷ keys_from (number + 1) inodes
    else keys_from (number + 1) inodes

-- the keys that the free numbers of the group at this place would have, ascending
unfoldable pub free_keys : ℕ → Group → List Key
free_keys g group = flat_map (λ chunk. keys_from (g * GROUP_NUMBERS + chunk.start) chunk.inodes) group

-- the lowest of them
abbrev pub lowest_key : ℕ → Group → Option Key
lowest_key g group = slice_get (free_keys g group) 0

-- the group with a chunk at this block, if there is one
abbrev pub with_chunk : Group → Option ℕ → Group
with_chunk group None = group
with_chunk group (Some block) = insert_chunk (new_chunk block) group

-- the group as a create finds it: with a chunk more where none of its numbers is free and a chunk can be added
unfoldable pub prepared : ℕ → ℕ → Group → Group
prepared blocks g group = if is_some (lowest_key g group) then group else with_chunk group (chunk_place blocks group)
