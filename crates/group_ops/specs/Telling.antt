-- What is told of a group's rows.
use Rattle.std.specs.Prelude.{◌≡◌, ◌*◌, ℕ, List, Option, Some, IsSome, length}
use Rattle.std.specs.Option.{option_map}
use Rattle.life_limits.specs.declared.TheConstants.{BLOCK_BYTES}
use Rattle.inode_core.specs.declared.shape.Core.{Core}
use Rattle.extent_fork.specs.Runs.{runs}
use Rattle.inode_cache.specs.declared.inode.Incore.{Incore}
use Rattle.life_table.specs.declared.key.Key.{Key}
use Rattle.life_table.specs.declared.types.Row.{Row}
use Rattle.life_table.specs.declared.table.Inode.{Inode}
use Rattle.life_table.specs.declared.table.Table.{Table}
use Rattle.life_table.specs.Table.{group_at, inode_in, row_of}
use Rattle.sound_image.specs.Encoding.{Layouts}
use Rattle.group_ops.specs.Values.{StateValue}
use Rattle.group_ops.specs.Represents.{IsGroupOf, incore_for}

-- the core of a number of the group
abbrev pub core_told : Layouts → ℕ → ℕ → Option Inode → Option Core
core_told layouts group agino inode = option_map (λ (of : Inode). (incore_for layouts group agino of).core) inode

-- the state is its group of some table, where the key has a row
abbrev pub HasRowOf : StateValue → Key → Type 0
HasRowOf s key = (t : Table) × (layouts : Layouts) × IsGroupOf s t layouts × IsSome (row_of t key)

-- the same of a number, with its inode
pub record HasRowAt (s : StateValue) (agino : ℕ) (t : Table) (layouts : Layouts) (inode : Inode) (row : Row) : Type 0 where
  pub group : IsGroupOf s t layouts
  pub inode_there : inode_in (group_at t s.group) agino ≡ Some inode
  pub used : inode.row ≡ Some row

-- the state is its group of some table, a chunk of which has the number
abbrev pub HasInodeAt : StateValue → ℕ → Type 0
HasInodeAt s agino = (t : Table) × (layouts : Layouts) × IsGroupOf s t layouts × IsSome (inode_in (group_at t s.group) agino)

-- the state is its group of some table, in which the number is in use
abbrev pub HoldsRow : StateValue → ℕ → Type 0
HoldsRow s agino = (t : Table) × (layouts : Layouts) × (inode : Inode) × (row : Row) × HasRowAt s agino t layouts inode row

-- an inode in use with other links
abbrev pub with_links : Inode → Row → ℕ → Inode
with_links inode row links = record { generation = inode.generation; row = Some (record { links = links; blocks = row.blocks; opens = row.opens }) }

-- an inode in use with other blocks
abbrev pub with_blocks : Inode → Row → List ℕ → Inode
with_blocks inode row blocks = record { generation = inode.generation; row = Some (record { links = row.links; blocks = blocks; opens = row.opens }) }

-- an inode in core with other blocks, whose size, count and runs follow
abbrev pub holding_blocks : Core → List ℕ → Incore
holding_blocks core blocks =
    record {
      core = record {
        live = core.live;
        links = core.links;
        size = length blocks * BLOCK_BYTES;
        blocks = length blocks;
        extents = length (runs blocks);
        generation = core.generation;
        next = core.next;
      };
      blocks = blocks;
    }
