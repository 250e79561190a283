-- What contracts see of a group's state.
use Rattle.std.specs.Prelude.{◌≡◌, ◌<◌, ℕ, List, All, Option}
use Rattle.std.specs.Ordering.{nat_cmp}
use Rattle.std.specs.FinMap as map
use Rattle.std.specs.FinMap.{FinMap}
use Rattle.geometry.specs.declared.shape.Geometry.{Geometry}
use Rattle.geometry.specs.Shape.{IsGeometry}
use Rattle.inode_cache.specs.declared.inode.Kept.{Kept}
use Rattle.inode_cache.specs.Caches.{Cache}
use Rattle.group_space.specs.Space.{Space}
use Rattle.group_ops.specs.Buffers.{AreBuffers, Buffers, BuffersAscend}

-- The geometry and the number of the group; the block of its page; the heads of its unlinked buckets; the records of its chunks and its free blocks; the
-- buffers of its inodes; its inodes in core, by their numbers; and for how many changes there is room.
pub record StateValue : Type 0 where
  pub geometry : Geometry
  pub group : ℕ
  pub page : ℕ
  pub heads : List ℕ
  pub space : Space
  pub buffers : List Buffers
  pub in_core : FinMap nat_cmp Kept
  pub room : ℕ

-- the inode of a number, where it is in core
abbrev pub kept_at : StateValue → ℕ → Option Kept
kept_at s agino = map.get s.in_core agino

-- what holds of each state: its group is one of the geometry, its chunks ascend and are whole, and its cache is of this group
pub record IsState (geometry : Geometry) (group : ℕ) (buffers : List Buffers) (cache : Cache) : Type 0 where
  pub shape : IsGeometry geometry
  pub inside : group < geometry.groups
  pub ascends : BuffersAscend buffers
  pub whole : All (λ (chunk : Buffers). AreBuffers chunk.start chunk.sectors) buffers
  pub own : cache.group ≡ group
  pub uuid : cache.uuid ≡ geometry.uuid
