-- A group for the tests: one inode is in use.
use Rattle.std.specs.Prelude.{ℕ, Bool, true, false, List, [], ◌∷◌, None, Some, replicate, slice_index_or}
use Rattle.life_table.specs.declared.table.Inode.{Inode}
use Rattle.life_table.specs.declared.table.Table.{Table}
use Rattle.group_core.specs.InCore.{Cached, unchanged, uncached}

-- its first inode, with so many links
abbrev pub first_inode : ℕ → Inode
first_inode links = record { generation = 1; row = Some (record { links = links; blocks = []; opens = 0 }) }

-- its table
abbrev pub sample_table : ℕ → Table
sample_table links =
    record { version = 1; blocks = 64; groups = (record { start = 192; inodes = first_inode links ∷ replicate 63 (record { generation = 1; row = None }) } ∷ []) ∷ [] }

-- what of a number is in core, by whether it is there: a change is written at once
abbrev pub by_mark : Bool → Cached
by_mark true = unchanged
by_mark false = uncached

abbrev pub marked : List Bool → ℕ → Cached
marked marks agino = by_mark (slice_index_or marks agino false)
