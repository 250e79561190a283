-- How the layouts of a table change, and what a change of an inode may touch beside its sector.
use Rattle.std.specs.Prelude.{◌≡◌, ◌⊎◌, ◌+◌, ◌/◌, ◌%◌, ◌<◌, ◌≤◌, ℕ, Bool, true, false, List, None, Some, is_some, length, slice_set}
use Rattle.life_limits.specs.declared.TheConstants.{BLOCK_SECTORS, BUCKETS, CHUNK_INODES, GROUP_NUMBERS}
use Rattle.agi_buckets.specs.Buckets.{put_first, take_out}
use Rattle.life_table.specs.declared.key.Key.{Key}
use Rattle.life_table.specs.declared.table.Inode.{Inode}
use Rattle.life_table.specs.Space.{times, row_blocks, chunk_place, lowest_key, new_chunk}
use Rattle.life_table.specs.declared.table.Table.{Table}
use Rattle.life_table.specs.Table.{group_at}
use Rattle.sound_image.specs.Places.{bitmap_place, bitmap_sectors}
use Rattle.sound_image.specs.Encoding.{Layouts, layout_of, page_of, page_place, is_unlinked_row}

-- the place is of the bitmap of a group, of its page, of the chunk that starts at a number
abbrev pub IsOfBitmap : ℕ → Type 0
IsOfBitmap place = (bitmap_place ≤ place) × (place < bitmap_place + bitmap_sectors)

abbrev pub IsOfPage : Layouts → ℕ → ℕ → Type 0
IsOfPage layouts group place = (page_place layouts group ≤ place) × (place < page_place layouts group + BLOCK_SECTORS)

abbrev pub IsChunkPlace : ℕ → ℕ → Type 0
IsChunkPlace start place = (start ≤ place) × (place < start + CHUNK_INODES)

-- two inodes have the same blocks, in whichever order
abbrev pub HaveSameBlocks : Inode → Inode → Type 0
HaveSameBlocks old new = (block : ℕ) → times block (row_blocks new.row) ≡ times block (row_blocks old.row)

-- the layouts with other buckets of one group
abbrev pub with_buckets : Layouts → ℕ → List (List ℕ) → Layouts
with_buckets layouts group buckets = slice_set layouts group (record { page = page_of layouts group; buckets = buckets })

-- the layouts with an inode of a group put first in its bucket, and taken out of it
abbrev pub put_in : Layouts → ℕ → ℕ → Layouts
put_in layouts group agino = with_buckets layouts group (put_first (layout_of layouts group).buckets agino)

abbrev pub taken_from : Layouts → ℕ → ℕ → Layouts
taken_from layouts group agino = with_buckets layouts group (take_out (layout_of layouts group).buckets agino)

-- a group has a layout, with a list for each bucket, as each group of a table has
pub record HasLists (layouts : Layouts) (group : ℕ) : Type 0 where
  pub layout : group < length layouts
  pub lists : length (layout_of layouts group).buckets ≡ BUCKETS

-- an inode of such a group was put first in the list of its bucket, and nothing else has changed
pub record PutsFirst (layouts others : Layouts) (group agino : ℕ) : Type 0 where
  pub had : HasLists layouts group
  pub made : others ≡ put_in layouts group agino

-- the same for one that was taken out of the list of its bucket
pub record TakesOut (layouts others : Layouts) (group agino : ℕ) : Type 0 where
  pub had : HasLists layouts group
  pub made : others ≡ taken_from layouts group agino

-- How the lists change with an inode of a group, by whether it was in use without links and whether it is then: one that comes to be is put first in its
-- list, and one that ceases to be is taken out.
abbrev pub Relists : Layouts → ℕ → ℕ → Bool → Bool → Layouts → Type 0
Relists layouts group agino false true others = PutsFirst layouts others group agino
Relists layouts group agino true false others = TakesOut layouts others group agino
Relists layouts group agino _ _ others = others ≡ layouts

-- the same for another inode at a number of the image
abbrev pub FollowInode : Layouts → ℕ → Inode → Inode → Layouts → Type 0
FollowInode layouts number old new others = Relists layouts (number / GROUP_NUMBERS) (number % GROUP_NUMBERS) (is_unlinked_row old.row) (is_unlinked_row new.row) others

-- the inode of a number that no row has, whose next life is that of a key
abbrev pub unused_inode : Key → Inode
unused_inode key = record { generation = key.generation; row = None }

-- A create leaves this place of its group out: where a number was free it adds no chunk, and else the place is not of the bitmap and of the chunk that it adds.
abbrev pub IsOfNoNewChunk : Table → ℕ → ℕ → Type 0
IsOfNoNewChunk t group place =
    (is_some (lowest_key group (group_at t group)) ≡ true)
    ⊎ ((¬ IsOfBitmap place) × ((block : ℕ) → chunk_place t.blocks (group_at t group) ≡ Some block → ¬ IsChunkPlace (new_chunk block).start place))
