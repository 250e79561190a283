-- What a change of a group's state makes anew of it, and the state after it.
use Rattle.std.specs.Prelude.{◌==◌, ◌%◌, ⊤, ℕ, List, [], ◌∷◌, Option, None, Some, IfSome, if◌then◌else◌, nat_lt, slice_set}
use Rattle.std.specs.Ordering.{nat_cmp}
use Rattle.std.specs.FinMap as finmap
use Rattle.std.specs.FinMap.{FinMap}
use Rattle.life_limits.specs.declared.TheConstants.{CHUNK_INODES}
use Rattle.life_bytes.specs.declared.sector.Sector.{Sector}
use Rattle.inode_cache.specs.declared.inode.Kept.{Kept}
use Rattle.inode_cache.specs.Caches.{dirty}
use Rattle.inode_cache.specs.Inodes.{IsIncore}
use Rattle.life_table.specs.Table.{start_of}
use Rattle.group_space.specs.Space.{changed_space}
use Rattle.group_ops.specs.declared.delta.Head.{Head}
use Rattle.group_ops.specs.declared.delta.Prior.{Prior}
use Rattle.group_ops.specs.declared.delta.Delta.{Delta}
use Rattle.group_ops.specs.Buffers.{Buffers}
use Rattle.group_ops.specs.Values.{StateValue}

-- the heads with one that is set
abbrev pub with_head : List ℕ → Option Head → List ℕ
with_head heads None = heads
with_head heads (Some head) = slice_set heads head.bucket head.agino

-- the buffers with the sector of one number set, where a chunk has it
unfoldable pub set_buffer : List Buffers → ℕ → Sector → List Buffers
set_buffer [] agino sector = []
set_buffer (chunk ∷ chunks) agino sector =
    if chunk.start == start_of agino
    then record { start = chunk.start; sectors = slice_set chunk.sectors (agino % CHUNK_INODES) sector } ∷ chunks
    else chunk ∷ set_buffer chunks agino sector

-- the buffers with those of one chunk more, in their order
unfoldable pub insert_buffers : Buffers → List Buffers → List Buffers
insert_buffers new [] = new ∷ []
insert_buffers new (chunk ∷ chunks) = if nat_lt new.start chunk.start then new ∷ chunk ∷ chunks else chunk ∷ insert_buffers new chunks

abbrev pub with_chunk : List Buffers → Option Buffers → List Buffers
with_chunk buffers None = buffers
with_chunk buffers (Some new) = insert_buffers new buffers

-- The inode before the changed one in its bucket, whose next pointer is set: in core where it is there, which makes it dirty; and else in its buffer.
abbrev pub core_of_prior : FinMap nat_cmp Kept → Prior → Option Kept → FinMap nat_cmp Kept
core_of_prior in_core prior None = in_core
core_of_prior in_core prior (Some kept) = finmap.insert in_core prior.agino (dirty (record { core = prior.core; blocks = kept.inode.blocks }))

abbrev pub with_prior : FinMap nat_cmp Kept → Option Prior → FinMap nat_cmp Kept
with_prior in_core None = in_core
with_prior in_core (Some prior) = core_of_prior in_core prior (finmap.get in_core prior.agino)

-- where it is in core, its new core fits the blocks that it has there
abbrev pub FitsPrior : FinMap nat_cmp Kept → Option Prior → Type 0
FitsPrior in_core None = ⊤
FitsPrior in_core (Some prior) = IfSome (finmap.get in_core prior.agino) (λ kept. IsIncore (record { core = prior.core; blocks = kept.inode.blocks }))

abbrev pub buffer_of_prior : List Buffers → Prior → Option Kept → List Buffers
buffer_of_prior buffers prior None = set_buffer buffers prior.agino prior.sector
buffer_of_prior buffers prior (Some kept) = buffers

abbrev pub with_prior_buffer : FinMap nat_cmp Kept → List Buffers → Option Prior → List Buffers
with_prior_buffer in_core buffers None = buffers
with_prior_buffer in_core buffers (Some prior) = buffer_of_prior buffers prior (finmap.get in_core prior.agino)

-- The state after a change: the changed inode is in core and dirty, and so is the inode before it in its bucket where that is in core, or its buffer is
-- written; one head is another, the space is the changed one, and a new chunk's buffers are there.
unfoldable pub changed_state : StateValue → Delta → StateValue
changed_state s d =
    record {
      geometry = s.geometry;
      group = s.group;
      page = s.page;
      heads = with_head s.heads d.head;
      space = changed_space s.space d.space;
      buffers = with_chunk (with_prior_buffer s.in_core s.buffers d.prior) d.chunk;
      in_core = finmap.insert (with_prior s.in_core d.prior) d.agino (dirty d.inode);
      room = s.room;
    }

-- a state but for its room
abbrev pub with_room : StateValue → ℕ → StateValue
with_room s room =
    record { geometry = s.geometry; group = s.group; page = s.page; heads = s.heads; space = s.space; buffers = s.buffers; in_core = s.in_core; room = room }
