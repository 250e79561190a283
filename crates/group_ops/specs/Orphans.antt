-- The rows without links of a group, as its unlinked buckets list them.
use Rattle.std.specs.Prelude.{◌≡◌, ◌<◌, ℕ, List, Option, None, Some, All, true, if◌then◌else◌, map}
use Rattle.std.specs.List.{flat_map, range_with_len}
use Rattle.life_limits.specs.declared.TheConstants.{BUCKETS, GROUP_NUMBERS}
use Rattle.geometry.specs.Places.{number_in}
use Rattle.life_table.specs.declared.key.Key.{Key}
use Rattle.life_table.specs.declared.table.Inode.{Inode}
use Rattle.life_table.specs.declared.table.Table.{Table}
use Rattle.life_table.specs.Space.{times}
use Rattle.life_table.specs.Table.{Group, group_at, inode_in, row_of}
use Rattle.sound_image.specs.Encoding.{Layouts, bucket_list, is_unlinked, is_unlinked_row}

-- the key of a number of a group, in the life that its inode is in
abbrev pub generation_of : Option Inode → ℕ
generation_of None = 0
generation_of (Some inode) = inode.generation

abbrev pub key_in : ℕ → Group → ℕ → Key
key_in group chunks agino = record { number = number_in group agino; generation = generation_of (inode_in chunks agino) }

-- the keys of a bucket, its head first, and those of all buckets from one on
abbrev pub bucket_keys : Layouts → ℕ → Group → ℕ → List Key
bucket_keys layouts group chunks bucket = map (key_in group chunks) (bucket_list layouts group bucket)

-- the keys of the buckets, from the first one to the last
unfoldable pub orphan_keys : Layouts → ℕ → Group → List Key
orphan_keys layouts group chunks = flat_map (bucket_keys layouts group chunks) (range_with_len 0 BUCKETS)

-- These are the keys of a group's rows without links: each is one's, and each such row is there once.
pub record AreOrphansOf (t : Table) (group : ℕ) (keys : List Key) : Type 0 where
  pub rows : All (λ key. is_unlinked_row (row_of t key) ≡ true) keys
  pub once : (agino : ℕ) → agino < GROUP_NUMBERS
      → times (number_in group agino) (map (λ (key : Key). key.number) keys) ≡ (if is_unlinked (inode_in (group_at t group) agino) then 1 else 0)
