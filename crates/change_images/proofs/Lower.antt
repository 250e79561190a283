-- What the laws of lower crates say, as arguments of the lemmas here.
use Rattle.std.proofs.Common.{◌≡◌, ◌+◌, ◌*◌, ◌/◌, ◌%◌, ◌<◌, ◌≤◌, ◌⊎◌, ℕ, false, List, [], Some}
use Rattle.std.specs.Prelude.{◌≢◌, is_none, length}
use Rattle.life_limits.specs.declared.TheConstants.{BLOCK_SECTORS, BUCKETS, FIRST_DATA_BLOCK, GROUP_NUMBERS, MAX_CHUNKS, NO_INODE, SECTOR_BYTES}
use Rattle.life_bytes.specs.declared.sector.Sector.{Sector}
use Rattle.geometry.specs.declared.shape.Geometry.{Geometry}
use Rattle.geometry.specs.Places.{group_sectors}
use Rattle.life_table.specs.declared.key.Key.{Key}
use Rattle.life_table.specs.declared.table.Inode.{Inode}
use Rattle.life_table.specs.declared.table.Table.{Table}
use Rattle.life_table.specs.Legal.{IsNextKey, prepare}
use Rattle.life_table.specs.Table.{Group, group_at, inode_in, inode_of, set_inode}
use Rattle.life_table.specs.Space.{BeginsFreeRun, chunk_place, is_free_block, prepared, row_blocks, times}
use Rattle.life_table.specs.WellFormed.{IsTable}
use Rattle.sound_image.specs.Places.{bitmap_place, bitmap_sectors, header_place}
use Rattle.sound_image.specs.Encoding.{Layouts, CanEncode, bucket_list, head_of, is_unlinked_row, next_in}
use Rattle.encoded_changes.specs.Carry.{Stays}
use Rattle.encoded_changes.specs.Changes.{HaveSameBlocks, IsOfBitmap, IsOfNoNewChunk, IsOfPage, PutsFirst, Relists, TakesOut, unused_inode}

abbrev pub InodesTouch : Type 0
InodesTouch = (g : Geometry) (layouts : Layouts) (group : ℕ) (chunks : Group) (agino : ℕ) (old new : Inode) (place : ℕ)
    → inode_in chunks agino ≡ Some old → place ≢ agino → (is_none new.row ≡ is_none old.row) ⊎ ((place ≢ header_place) × ¬ IsOfPage layouts group place)
    → HaveSameBlocks old new ⊎ ¬ IsOfBitmap place → Stays g group layouts chunks layouts (set_inode chunks agino new) place

abbrev pub PutsTouch : Type 0
PutsTouch = (g : Geometry) (layouts others : Layouts) (group : ℕ) (chunks : Group) (agino : ℕ) (old new : Inode) (place : ℕ)
    → PutsFirst layouts others group agino → inode_in chunks agino ≡ Some old → place ≢ agino → place ≢ header_place
    → (is_none new.row ≡ is_none old.row) ⊎ ¬ IsOfPage layouts group place → HaveSameBlocks old new ⊎ ¬ IsOfBitmap place
    → Stays g group layouts chunks others (set_inode chunks agino new) place

abbrev pub TakesTouch : Type 0
TakesTouch = (g : Geometry) (layouts others : Layouts) (group : ℕ) (chunks : Group) (agino : ℕ) (old new : Inode) (place : ℕ)
    → TakesOut layouts others group agino → inode_in chunks agino ≡ Some old → place ≢ agino
    → (place ≢ header_place) ⊎ (head_of (bucket_list layouts group (agino % BUCKETS)) ≢ agino) → next_in (bucket_list layouts group (agino % BUCKETS)) place ≢ agino
    → (is_none new.row ≡ is_none old.row) ⊎ ((place ≢ header_place) × ¬ IsOfPage layouts group place) → HaveSameBlocks old new ⊎ ¬ IsOfBitmap place
    → Stays g group layouts chunks others (set_inode chunks agino new) place

abbrev pub BitmapsTouch : Type 0
BitmapsTouch = (g : Geometry) (layouts others : Layouts) (group : ℕ) (chunks next : Group) (k : ℕ) → k < bitmap_sectors
    → ((block : ℕ) → block / (8 * SECTOR_BYTES) ≡ k → is_free_block g.blocks next block ≡ is_free_block g.blocks chunks block)
    → Stays g group layouts chunks others next (bitmap_place + k)

abbrev pub CreatesTouch : Type 0
CreatesTouch = (g : Geometry) (t : Table) (layouts others : Layouts) (group : ℕ) (key : Key) (new : Inode) (place : ℕ) → IsTable t → IsNextKey t group key
    → Relists layouts group (key.number % GROUP_NUMBERS) false (is_unlinked_row new.row) others → row_blocks new.row ≡ []
    → place ≢ header_place → ¬ IsOfPage layouts group place → place ≢ key.number % GROUP_NUMBERS → IsOfNoNewChunk t group place
    → Stays g group layouts (group_at t group) others (set_inode (prepared t.blocks group (group_at t group)) (key.number % GROUP_NUMBERS) new) place

abbrev pub HasPlace : Type 0
HasPlace = (g : Geometry) (t : Table) (layouts : Layouts) (image : List Sector) (group agino : ℕ) (inode : Inode) → CanEncode g t layouts image → group < g.groups
    → inode_in (group_at t group) agino ≡ Some inode → (FIRST_DATA_BLOCK * BLOCK_SECTORS ≤ agino) × (agino < group_sectors g)

abbrev pub OneBefore : Type 0
OneBefore = (members : List ℕ) (agino first second : ℕ) → times agino members ≤ 1 → agino ≢ NO_INODE → next_in members first ≡ agino → next_in members second ≡ agino → first ≡ second

abbrev pub NoneBefore : Type 0
NoneBefore = (members : List ℕ) (agino other : ℕ) → times agino members ≤ 1 → agino ≢ NO_INODE → head_of members ≡ agino → next_in members other ≢ agino

abbrev pub CreatedInGroup : Type 0
CreatedInGroup = (t : Table) (group : ℕ) (key : Key) → IsTable t → IsNextKey t group key → key.number / GROUP_NUMBERS ≡ group

abbrev pub CreatedInode : Type 0
CreatedInode = (t : Table) (group : ℕ) (key : Key) → IsTable t → IsNextKey t group key → inode_of (prepare t group) key.number ≡ Some (unused_inode key)

abbrev pub ChunkPlace : Type 0
ChunkPlace = (blocks : ℕ) (group : Group) (block : ℕ) → chunk_place blocks group ≡ Some block → (length group < MAX_CHUNKS) × (block < blocks) × BeginsFreeRun blocks group block
