-- The table: the inodes of an image, by number and generation, as lists. Equal tables are equal values, since the
-- chunks of a group ascend, and a change of one inode changes its place in one group alone. An inode has the generation
-- of the life that it is in or will be in next, and a row where it is in use; a chunk has the number of its first inode
-- in the group, and its inodes in order; a table has the version of the image, the number of blocks of each group, and
-- the groups (src/table.rt).
use Rattle.std.specs.Prelude.{◌==◌, ◌-◌, ◌/◌, ◌%◌, ℕ, List, [], ◌∷◌, Option, None, Some, if◌then◌else◌, map, replicate, slice_get, slice_set, slice_index_or}
use Rattle.life_limits.specs.declared.TheConstants.{CHUNK_INODES, GROUP_NUMBERS}
use Rattle.life_table.specs.declared.key.Key.{Key}
use Rattle.life_table.specs.declared.types.Row.{Row}
use Rattle.life_table.specs.declared.table.Inode.{Inode}
use Rattle.life_table.specs.declared.table.Chunk.{Chunk}
use Rattle.life_table.specs.declared.table.Table.{Table}

-- a group: its chunks, by ascending start
abbrev pub Group : Type 0
Group = List Chunk

-- a table of so many groups without a chunk
abbrev pub empty_table : ℕ → ℕ → ℕ → Table
empty_table version groups blocks = record { version = version; blocks = blocks; groups = replicate groups [] }

-- where the chunk of a number of a group starts: chunks start at multiples of 64
abbrev pub start_of : ℕ → ℕ
start_of agino = agino - agino % CHUNK_INODES

-- the inode of a number of a group, where a chunk has one
unfoldable pub inode_in : Group → ℕ → Option Inode
inode_in [] agino = None
inode_in (chunk ∷ chunks) agino = if chunk.start == start_of agino then slice_get chunk.inodes (agino % CHUNK_INODES) else inode_in chunks agino

-- the group with another inode at this number, where a chunk has one
unfoldable pub set_inode : Group → ℕ → Inode → Group
set_inode [] agino inode = []
set_inode (chunk ∷ chunks) agino inode =
    if chunk.start == start_of agino
    then record { start = chunk.start; inodes = slice_set chunk.inodes (agino % CHUNK_INODES) inode } ∷ chunks
    else chunk ∷ set_inode chunks agino inode

-- the group that a number of the image is in: the number above 17 bits
abbrev pub group_number : Key → ℕ
group_number key = key.number / GROUP_NUMBERS

-- a group of the table; one that it does not have is without a chunk
abbrev pub group_at : Table → ℕ → Group
group_at t g = slice_index_or t.groups g []

-- the table with another group at this place
abbrev pub with_group : Table → ℕ → Group → Table
with_group t g group = record { version = t.version; blocks = t.blocks; groups = slice_set t.groups g group }

-- the inode of a number of the image, where a chunk has one
unfoldable pub inode_of : Table → ℕ → Option Inode
inode_of t number = inode_in (group_at t (number / GROUP_NUMBERS)) (number % GROUP_NUMBERS)

-- the table with another inode at this number
unfoldable pub with_inode : Table → ℕ → Inode → Table
with_inode t number inode = with_group t (number / GROUP_NUMBERS) (set_inode (group_at t (number / GROUP_NUMBERS)) (number % GROUP_NUMBERS) inode)

-- the row of an inode, where it has one and is in the life of this generation
abbrev pub row_in_life : ℕ → Option Inode → Option Row
row_in_life generation None = None
row_in_life generation (Some inode) = if inode.generation == generation then inode.row else None

-- the row of a key
abbrev pub row_of : Table → Key → Option Row
row_of t key = row_in_life key.generation (inode_of t key.number)

-- the inode of this key in use
abbrev pub in_use : Key → Row → Inode
in_use key row = record { generation = key.generation; row = Some row }

-- the table with this row at a key
abbrev pub with_row : Table → Key → Row → Table
with_row t key row = with_inode t key.number (in_use key row)

-- each inode changed in this way: of a chunk, of a group, of the table
abbrev pub map_chunk : (Inode → Inode) → Chunk → Chunk
map_chunk change chunk = record { start = chunk.start; inodes = map change chunk.inodes }

abbrev pub map_group : (Inode → Inode) → Group → Group
map_group change group = map (map_chunk change) group

abbrev pub map_inodes : (Inode → Inode) → Table → Table
map_inodes change t = record { version = t.version; blocks = t.blocks; groups = map (map_group change) t.groups }
