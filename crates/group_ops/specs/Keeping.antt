-- How the inodes in core come and go, while the table that a state represents stays.
use Rattle.std.specs.Prelude.{◌≡◌, ℕ, Option, None, Some, IsSomeAnd}
use Rattle.std.specs.Ordering.{nat_cmp}
use Rattle.std.specs.FinMap as finmap
use Rattle.std.specs.FinMap.{FinMap}
use Rattle.inode_cache.specs.declared.inode.Incore.{Incore}
use Rattle.inode_cache.specs.declared.inode.Kept.{Kept}
use Rattle.inode_cache.specs.Caches.{clean}
use Rattle.life_table.specs.declared.table.Inode.{Inode}
use Rattle.life_table.specs.declared.table.Table.{Table}
use Rattle.life_table.specs.Table.{group_at, inode_in}
use Rattle.sound_image.specs.Encoding.{Layouts, inode_sector}
use Rattle.group_ops.specs.Buffers.{buffer_in}
use Rattle.group_ops.specs.Changes.{with_room}
use Rattle.group_ops.specs.Flushing.{IsFlush}
use Rattle.group_ops.specs.Represents.{IsGroupOf, incore_for}
use Rattle.group_ops.specs.Values.{StateValue, kept_at}

-- a state with these inodes in core
abbrev pub with_in_core : StateValue → FinMap nat_cmp Kept → StateValue
with_in_core s in_core =
    record { geometry = s.geometry; group = s.group; page = s.page; heads = s.heads; space = s.space; buffers = s.buffers; in_core = in_core; room = s.room }

-- each table of which the state was a group is one of which it is a group still
abbrev pub StaysGroup : StateValue → StateValue → Type 0
StaysGroup old new = (t : Table) (layouts : Layouts) → IsGroupOf old t layouts → IsGroupOf new t layouts

-- the inodes in core with a clean copy of one that was not there yet
abbrev pub brought_in : FinMap nat_cmp Kept → ℕ → Incore → Option Kept → FinMap nat_cmp Kept
brought_in in_core agino inode None = finmap.insert in_core agino (clean inode)
brought_in in_core agino inode (Some kept) = in_core

-- The inode of a number is in core, clean where it was not there before; nothing else differs but the room, and the state is the group that it was.
pub record IsBrought (old : StateValue) (agino : ℕ) (new : StateValue) : Type 0 where
  pub in_core : (t : Table) (layouts : Layouts) (inode : Inode) → IsGroupOf old t layouts → inode_in (group_at t old.group) agino ≡ Some inode
      → new ≡ with_room (with_in_core old (brought_in old.in_core agino (incore_for layouts old.group agino inode) (kept_at old agino))) new.room
  pub group : StaysGroup old new

-- It is in core no more; nothing else differs but the room, and the state is the group that it was.
pub record IsGone (old : StateValue) (agino : ℕ) (new : StateValue) : Type 0 where
  pub in_core : new ≡ with_room (with_in_core old (finmap.remove old.in_core agino)) new.room
  pub group : StaysGroup old new

-- All dirty inodes were copied into their buffers; each buffer is the sector of its inode, and the state is the group that it was.
pub record IsWrittenBack (old new : StateValue) : Type 0 where
  pub flush : IsFlush old new
  pub sectors : (t : Table) (layouts : Layouts) (agino : ℕ) (inode : Inode) → IsGroupOf old t layouts → inode_in (group_at t old.group) agino ≡ Some inode
      → IsSomeAnd (buffer_in new.buffers agino) (λ sector. sector.bytes ≡ inode_sector old.geometry layouts old.group agino inode)
  pub group : StaysGroup old new
