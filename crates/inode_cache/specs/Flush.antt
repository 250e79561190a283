-- What a flush does to a cluster of inodes.
use Rattle.std.specs.Prelude.{◌≡◌, ◌≢◌, ◌<◌, ◌+◌, ◌*◌, ◌/◌, ℕ, List, Option, None, Some, slice_index_or, if◌then◌else◌}
use Rattle.std.specs.Option.{option_map}
use Rattle.life_bytes.specs.declared.sector.Sector.{Sector}
use Rattle.inode_cache.specs.declared.inode.TheConstants.{CLUSTER_INODES}
use Rattle.inode_cache.specs.declared.inode.Kept.{Kept}
use Rattle.inode_cache.specs.Inodes.{incore_encoding}
use Rattle.inode_cache.specs.Caches.{Cache, IsClean, clean, incore_at}

-- the number of the inode at a place of a cluster
abbrev pub member : ℕ → ℕ → ℕ
member cluster place = cluster * CLUSTER_INODES + place

-- The sector of an inode's row: that of the inode in core where there is one, and the buffer otherwise.
abbrev pub cluster_sector : Cache → ℕ → List ℕ → Option Kept → List ℕ
cluster_sector cache agino buffer None = buffer
cluster_sector cache agino buffer (Some kept) = incore_encoding cache.group cache.uuid agino kept.inode

abbrev pub row_bytes : Cache → ℕ → List ℕ → List ℕ
row_bytes cache agino buffer = cluster_sector cache agino buffer (incore_at cache agino)

-- The buffer of an inode after a flush: the sector of the inode in core where it is dirty, and the buffer otherwise.
abbrev pub flushed_of : Cache → ℕ → List ℕ → Option Kept → List ℕ
flushed_of cache agino buffer None = buffer
flushed_of cache agino buffer (Some kept) = if kept.dirty then incore_encoding cache.group cache.uuid agino kept.inode else buffer

abbrev pub flushed_bytes : Cache → ℕ → List ℕ → List ℕ
flushed_bytes cache agino buffer = flushed_of cache agino buffer (incore_at cache agino)

abbrev pub cleaned : Kept → Kept
cleaned kept = clean kept.inode

-- The buffers of a cluster are its sectors after a flush.
abbrev pub AreFlushed : Cache → ℕ → List Sector → List Sector → Type 0
AreFlushed cache cluster old new =
    (place : ℕ) (d : Sector) → place < CLUSTER_INODES → (slice_index_or new place d).bytes ≡ flushed_bytes cache (member cluster place) (slice_index_or old place d).bytes

-- The inode of a number is clean, where one is in core, and nothing else differs.
pub record IsFlushedAt (agino : ℕ) (old new : Cache) : Type 0 where
  pub here : incore_at new agino ≡ option_map cleaned (incore_at old agino)
  pub elsewhere : (other : ℕ) → other ≢ agino → incore_at new other ≡ incore_at old other
  pub group : new.group ≡ old.group
  pub uuid : new.uuid ≡ old.uuid
  pub spare : new.spare ≡ old.spare

-- The inodes of a cluster are clean, whichever are in core, and nothing else differs.
pub record IsFlushed (cluster : ℕ) (old new : Cache) : Type 0 where
  pub inside : (agino : ℕ) → agino / CLUSTER_INODES ≡ cluster → incore_at new agino ≡ option_map cleaned (incore_at old agino)
  pub outside : (agino : ℕ) → agino / CLUSTER_INODES ≢ cluster → incore_at new agino ≡ incore_at old agino
  pub group : new.group ≡ old.group
  pub uuid : new.uuid ≡ old.uuid
  pub spare : new.spare ≡ old.spare

-- The buffers of a cluster encode the inodes that are in core and clean.
abbrev pub AreUpToDate : Cache → ℕ → List Sector → Type 0
AreUpToDate cache cluster buffers =
    (place : ℕ) (d : Sector) → place < CLUSTER_INODES → IsClean cache (member cluster place)
    → (slice_index_or buffers place d).bytes ≡ row_bytes cache (member cluster place) (slice_index_or buffers place d).bytes

-- The buffers of a cluster are the sectors of its rows.
abbrev pub AreClusterSectors : Cache → ℕ → List Sector → List Sector → Type 0
AreClusterSectors cache cluster old new =
    (place : ℕ) (d : Sector) → place < CLUSTER_INODES → (slice_index_or new place d).bytes ≡ row_bytes cache (member cluster place) (slice_index_or old place d).bytes
