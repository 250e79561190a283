-- How many chunks, inodes in use, and inodes in use without links a table has.
use Rattle.std.specs.Prelude.{ℕ, is_some, length, count_by, sum_by}
use Rattle.life_table.specs.declared.table.Inode.{Inode}
use Rattle.life_table.specs.declared.table.Chunk.{Chunk}
use Rattle.life_table.specs.declared.table.Table.{Table}
use Rattle.life_table.specs.Table.{Group}
use Rattle.sound_image.specs.Encoding.{is_unlinked_row}

-- of a group
unfoldable pub inodes_in : Group → ℕ
inodes_in group = sum_by (λ (chunk : Chunk). count_by (λ (inode : Inode). is_some inode.row) chunk.inodes) group

unfoldable pub orphans_in_group : Group → ℕ
orphans_in_group group = sum_by (λ (chunk : Chunk). count_by (λ (inode : Inode). is_unlinked_row inode.row) chunk.inodes) group

-- of all groups
unfoldable pub chunk_count : Table → ℕ
chunk_count t = sum_by (λ (group : Group). length group) t.groups

unfoldable pub inode_count : Table → ℕ
inode_count t = sum_by inodes_in t.groups

unfoldable pub orphan_count : Table → ℕ
orphan_count t = sum_by orphans_in_group t.groups
