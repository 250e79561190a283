-- What a create answers, and what it makes.
use Rattle.std.specs.Prelude.{◌≡◌, ◌==◌, ◌<◌, ◌+◌, ◌*◌, ⊤, ℕ, List, [], None, Some, false, if◌then◌else◌, slice_get, IsSomeAnd}
use Rattle.life_limits.specs.declared.TheConstants.{BLOCK_SECTORS, CHUNK_INODES, NO_INODE}
use Rattle.geometry.specs.Places.{number_in}
use Rattle.inode_cache.specs.declared.inode.Incore.{Incore}
use Rattle.inode_cache.specs.Inodes.{incore_encoding}
use Rattle.life_table.specs.declared.key.Key.{Key}
use Rattle.life_table.specs.declared.types.Call.{Call}
use Rattle.life_table.specs.declared.types.Call.TheVariants as call
use Rattle.life_table.specs.declared.types.Reply.{Reply}
use Rattle.life_table.specs.declared.types.Reply.TheVariants as reply
use Rattle.life_table.specs.declared.table.Inode.{Inode}
use Rattle.life_table.specs.declared.table.Table.{Table}
use Rattle.life_table.specs.Legal.{after_call, made_row}
use Rattle.life_table.specs.Replies.{reply_of}
use Rattle.life_table.specs.Space.{chunk_place, lowest_key}
use Rattle.life_table.specs.Table.{group_at, row_of}
use Rattle.sound_image.specs.Encoding.{Layouts}
use Rattle.group_ops.specs.declared.delta.Delta.{Delta}
use Rattle.group_ops.specs.declared.refusals.CreateFault.{CreateFault}
use Rattle.group_ops.specs.declared.refusals.CreateFault.TheVariants as create
use Rattle.group_ops.specs.Buffers.{Buffers}
use Rattle.group_ops.specs.Calls.{relisted, relisted_by}
use Rattle.group_ops.specs.Relinks.{Relinks}
use Rattle.group_ops.specs.Represents.{IsGroupOf, incore_for}
use Rattle.group_ops.specs.Staging.{ChangeValue, Tells}
use Rattle.group_ops.specs.Values.{StateValue}

-- the call that makes an inode with so many links in a group
abbrev pub creation : ℕ → ℕ → Call
creation group links = if links == 0 then call.Tmpfile group else call.Create group

-- A change is that of a call that makes an inode: the table gives that key, and the change leads to the table after the call. The inode is put first in its
-- bucket where it has no links.
pub record Creates (s : StateValue) (change : ChangeValue) (t : Table) (layouts : Layouts) (key : Key) (called : Call) : Type 0 where
  pub replies : reply_of t called ≡ reply.Made key
  pub tells : Tells s change t layouts (after_call t called (reply.Made key))
      (relisted_by layouts key (row_of t key) (row_of (after_call t called (reply.Made key)) key))

-- a refusal is the table's reply; want of memory may come always
abbrev pub IsCreateCause : CreateFault → Reply → Type 0
IsCreateCause create.NoInodes answer = answer ≡ reply.NoInodes
IsCreateCause create.NoMemory answer = ⊤

-- the inode of a number that comes to be in use
abbrev pub made_inode : ℕ → ℕ → Inode
made_inode generation links = record { generation = generation; row = Some (made_row links) }

-- A change makes an inode of its number, which is not in use before: what comes to be in core, and how the pointers are set.
pub record MakesInode (s : StateValue) (d : Delta) (t : Table) (layouts : Layouts) (generation links : ℕ) : Type 0 where
  pub inode : d.inode ≡ incore_for (relisted layouts s.group d.agino false (links == 0)) s.group d.agino (made_inode generation links)
  pub relinks : Relinks s t layouts (relisted layouts s.group d.agino false (links == 0)) d.agino d.head d.prior
  pub prior : d.prior ≡ None

-- an inode of a chunk that is added: it is in no use, and will be in its first life
abbrev pub unused_incore : Incore
unused_incore =
    record {
      core = record { live = false; links = 0; size = 0; blocks = 0; extents = 0; generation = 1; next = NO_INODE };
      blocks = [];
    }

-- the buffers of a chunk that is added at a number
pub record AreUnused (group : ℕ) (uuid : List ℕ) (start : ℕ) (chunk : Buffers) : Type 0 where
  pub at : chunk.start ≡ start
  pub each : (k : ℕ) → k < CHUNK_INODES → IsSomeAnd (slice_get chunk.sectors k) (λ sector. sector.bytes ≡ incore_encoding group uuid (start + k) unused_incore)

-- the state is its group of some table, whose lowest key is this one
abbrev pub HasLowest : StateValue → Key → Type 0
HasLowest s key = (t : Table) × (layouts : Layouts) × IsGroupOf s t layouts × (lowest_key s.group (group_at t s.group) ≡ Some key)

-- the state is its group of some table, in which no number of the group is free and the next chunk begins at this block
abbrev pub HasNextChunk : StateValue → ℕ → Type 0
HasNextChunk s block =
    (t : Table) × (layouts : Layouts) × IsGroupOf s t layouts × (lowest_key s.group (group_at t s.group) ≡ None)
    × (chunk_place t.blocks (group_at t s.group) ≡ Some block)

-- the first key of a chunk that is added at a block
abbrev pub first_key : ℕ → ℕ → Key
first_key group block = record { number = number_in group (BLOCK_SECTORS * block); generation = 1 }
