-- Which group of a table a state is.
use Rattle.std.specs.Prelude.{◌≡◌, ◌%◌, ℕ, None, Some, IfSome, IsSomeAnd, false, length, map}
use Rattle.std.specs.List.{range_with_len}
use Rattle.life_limits.specs.declared.TheConstants.{BUCKETS}
use Rattle.life_table.specs.declared.table.Inode.{Inode}
use Rattle.life_table.specs.declared.table.Chunk.{Chunk}
use Rattle.life_table.specs.declared.table.Table.{Table}
use Rattle.life_table.specs.Space.{row_blocks}
use Rattle.life_table.specs.Table.{group_at, inode_in}
use Rattle.life_table.specs.WellFormed.{IsTable}
use Rattle.sound_image.specs.Encoding.{AreLayouts, Layouts, bucket_list, core_for, head_of, next_in, page_of}
use Rattle.inode_cache.specs.declared.inode.Incore.{Incore}
use Rattle.inode_cache.specs.Caches.{is_dirty}
use Rattle.inode_cache.specs.Inodes.{incore_encoding}
use Rattle.group_ops.specs.Buffers.{Buffers, buffer_in}
use Rattle.group_space.specs.Space.{IsSpaceOf}
use Rattle.group_ops.specs.Values.{StateValue, kept_at}

-- an inode of a group as it is in core, with the pointer of its list
abbrev pub incore_for : Layouts → ℕ → ℕ → Inode → Incore
incore_for layouts group agino inode =
    record {
      core = core_for inode.generation inode.row (next_in (bucket_list layouts group (agino % BUCKETS)) agino);
      blocks = row_blocks inode.row;
    }

-- A state has this inode at a number: the inode in core is it, where one is there; and the buffer is its sector, unless the inode in core is dirty.
pub record HasInode (s : StateValue) (agino : ℕ) (inode : Incore) : Type 0 where
  pub in_core : IfSome (kept_at s agino) (λ kept. kept.inode ≡ inode)
  pub buffer : IsSomeAnd (buffer_in s.buffers agino) (λ sector. is_dirty (kept_at s agino) ≡ false
      → sector.bytes ≡ incore_encoding s.group s.geometry.uuid agino inode)

-- The state is its group of this table with these layouts. Who holds an inode is not seen.
pub record IsGroupOf (s : StateValue) (t : Table) (layouts : Layouts) : Type 0 where
  pub table : IsTable t
  pub layouts_of : AreLayouts t layouts
  pub groups : length t.groups ≡ s.geometry.groups
  pub blocks : t.blocks ≡ s.geometry.blocks
  pub page : s.page ≡ page_of layouts s.group
  pub heads : s.heads ≡ map (λ bucket. head_of (bucket_list layouts s.group bucket)) (range_with_len 0 BUCKETS)
  pub space : IsSpaceOf s.geometry.blocks (group_at t s.group) s.space
  pub starts : map (λ (chunk : Buffers). chunk.start) s.buffers ≡ map (λ (chunk : Chunk). chunk.start) (group_at t s.group)
  pub inodes : (agino : ℕ) (inode : Inode) → inode_in (group_at t s.group) agino ≡ Some inode
      → HasInode s agino (incore_for layouts s.group agino inode)
  pub only : (agino : ℕ) → inode_in (group_at t s.group) agino ≡ None → kept_at s agino ≡ None

-- the state is its group of some table
abbrev pub RepresentsGroup : StateValue → Type 0
RepresentsGroup s = (t : Table) × (layouts : Layouts) × IsGroupOf s t layouts
