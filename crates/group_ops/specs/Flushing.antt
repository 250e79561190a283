-- What a flush leaves of a state.
use Rattle.std.specs.Prelude.{◌≡◌, ◌≢◌, ◌==◌, ◌/◌, ℕ, List, map, if◌then◌else◌}
use Rattle.std.specs.Option.{option_map}
use Rattle.life_bytes.specs.declared.sector.Sector.{Sector}
use Rattle.inode_cache.specs.declared.inode.TheConstants.{CLUSTER_INODES}
use Rattle.inode_cache.specs.Caches.{Cache}
use Rattle.inode_cache.specs.Flush.{cleaned, flushed_bytes}
use Rattle.group_ops.specs.Buffers.{Buffers, buffer_in}
use Rattle.group_ops.specs.Values.{StateValue, kept_at}

-- the cache of a state
abbrev pub cache_in : StateValue → Cache
cache_in s = record { group = s.group; uuid = s.geometry.uuid; inodes = s.in_core; spare = s.room }

-- a buffer after a flush: the sector of the inode in core where that was dirty
abbrev pub flushed_sector : Cache → ℕ → Sector → Sector
flushed_sector cache agino sector = record { bytes = flushed_bytes cache agino sector.bytes }

-- the same where the number is in a cluster; any other buffer stays
abbrev pub flushed_in : ℕ → Cache → ℕ → Sector → Sector
flushed_in cluster cache agino sector = if agino / CLUSTER_INODES == cluster then flushed_sector cache agino sector else sector

-- where the chunks' buffers start
abbrev pub starts_of : List Buffers → List ℕ
starts_of buffers = map (λ (chunk : Buffers). chunk.start) buffers

-- the state but for its buffers and its inodes in core
abbrev pub with_flushed : StateValue → StateValue → StateValue
with_flushed s new =
    record {
      geometry = s.geometry;
      group = s.group;
      page = s.page;
      heads = s.heads;
      space = s.space;
      buffers = new.buffers;
      in_core = new.in_core;
      room = s.room;
    }

-- the inode of a number is clean where it is in core, and was copied into its buffer if it was dirty
pub record IsFlushedIn (old new : StateValue) (agino : ℕ) : Type 0 where
  pub clean : kept_at new agino ≡ option_map cleaned (kept_at old agino)
  pub buffer : buffer_in new.buffers agino ≡ option_map (flushed_sector (cache_in old) agino) (buffer_in old.buffers agino)

-- of a number nothing changed
pub record StaysIn (old new : StateValue) (agino : ℕ) : Type 0 where
  pub kept : kept_at new agino ≡ kept_at old agino
  pub buffer : buffer_in new.buffers agino ≡ buffer_in old.buffers agino

-- the inodes of a cluster were flushed, and nothing else changed
pub record IsClusterFlush (cluster : ℕ) (old new : StateValue) : Type 0 where
  pub rest : new ≡ with_flushed old new
  pub starts : starts_of new.buffers ≡ starts_of old.buffers
  pub inside : (agino : ℕ) → agino / CLUSTER_INODES ≡ cluster → IsFlushedIn old new agino
  pub outside : (agino : ℕ) → agino / CLUSTER_INODES ≢ cluster → StaysIn old new agino

-- all inodes were flushed, and nothing else changed
pub record IsFlush (old new : StateValue) : Type 0 where
  pub rest : new ≡ with_flushed old new
  pub starts : starts_of new.buffers ≡ starts_of old.buffers
  pub each : (agino : ℕ) → IsFlushedIn old new agino
