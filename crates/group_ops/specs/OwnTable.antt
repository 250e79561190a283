-- The table that a state has, read from its inodes: a row, and the generation of a free number, is that of the inode in core where there is one, and that of
-- the buffer otherwise. It has the chunks of the state's group alone, and nobody holds a row of it.
use Rattle.std.specs.Prelude.{◌≡◌, ◌+◌, ℕ, List, Bool, true, false, Option, None, Some, map}
use Rattle.std.specs.List.{flat_map, range_with_len}
use Rattle.life_limits.specs.declared.TheConstants.{CHUNK_INODES}
use Rattle.life_bytes.specs.declared.sector.Sector.{Sector}
use Rattle.life_bytes.specs.Sectors.{zero_sector}
use Rattle.inode_core.specs.Reading.{core_in}
use Rattle.extent_fork.specs.Reading.{runs_in}
use Rattle.extent_fork.specs.Runs.{blocks_of}
use Rattle.inode_cache.specs.declared.inode.Incore.{Incore}
use Rattle.inode_cache.specs.declared.inode.Kept.{Kept}
use Rattle.life_table.specs.declared.types.Row.{Row}
use Rattle.life_table.specs.declared.table.Inode.{Inode}
use Rattle.life_table.specs.declared.table.Chunk.{Chunk}
use Rattle.life_table.specs.declared.table.Table.{Table}
use Rattle.life_table.specs.History.{closed}
use Rattle.life_table.specs.Table.{Group, empty_table, with_group}
use Rattle.sound_image.specs.Encoding.{Layouts}
use Rattle.group_core.specs.InCore.{Cached, uncached, unchanged, changed}
use Rattle.group_frame.specs.Frames.{alone}
use Rattle.group_ops.specs.declared.delta.Delta.{Delta}
use Rattle.group_ops.specs.Buffers.{Buffers, buffer_in}
use Rattle.group_ops.specs.Staging.{Leads}
use Rattle.group_ops.specs.Values.{StateValue, kept_at}

-- an inode as the fields of its sector give it; a number without a buffer has the sector of zeros
abbrev pub incore_read : List ℕ → Incore
incore_read bytes = record { core = core_in bytes; blocks = flat_map blocks_of (runs_in (core_in bytes).extents bytes) }

abbrev pub incore_in_buffer : Option Sector → Incore
incore_in_buffer None = incore_read zero_sector.bytes
incore_in_buffer (Some sector) = incore_read sector.bytes

-- the inode in core where there is one, and else that of the buffer
abbrev pub incore_seen : Option Kept → Option Sector → Incore
incore_seen None buffer = incore_in_buffer buffer
incore_seen (Some kept) buffer = kept.inode

-- an inode of a table, by its core and its blocks: it has a row where it is in use
abbrev pub row_by_use : Bool → ℕ → List ℕ → Option Row
row_by_use true links blocks = Some (record { links = links; blocks = blocks; opens = 0 })
row_by_use false links blocks = None

abbrev pub inode_by : Incore → Inode
inode_by inode = record { generation = inode.core.generation; row = row_by_use inode.core.live inode.core.links inode.blocks }

-- the inode of a number as a state has it
unfoldable pub inode_seen : StateValue → ℕ → Inode
inode_seen s agino = inode_by (incore_seen (kept_at s agino) (buffer_in s.buffers agino))

-- the inodes of the chunk that starts at a number, and the chunks of the group
unfoldable pub chunk_seen : StateValue → ℕ → Chunk
chunk_seen s start = record { start = start; inodes = map (λ index. inode_seen s (start + index)) (range_with_len 0 CHUNK_INODES) }

unfoldable pub chunks_seen : StateValue → Group
chunks_seen s = map (λ (chunk : Buffers). chunk_seen s chunk.start) s.buffers

-- the table
unfoldable pub own_table : StateValue → Table
own_table s = with_group (empty_table s.geometry.version s.geometry.groups s.geometry.blocks) s.group (chunks_seen s)

-- what of a number is in core
abbrev pub by_dirt : Bool → Cached
by_dirt true = changed
by_dirt false = unchanged

abbrev pub told_cached : Option Kept → Cached
told_cached None = uncached
told_cached (Some kept) = by_dirt kept.dirty

-- A change was made on this state, and takes its table to that one.
pub record TakesTo (s : StateValue) (d : Delta) (u : Table) : Type 0 where
  pub before : Table
  pub layouts : Layouts
  pub after : Table
  pub others : Layouts
  pub leads : Leads s d before layouts after others
  pub table : u ≡ closed (alone after s.group)
