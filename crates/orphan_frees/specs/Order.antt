-- What recovery frees of a table, in its order, and what so many frees leave.
use Rattle.std.specs.Prelude.{◌/◌, ◌%◌, ℕ, List, [], ◌∷◌, length}
use Rattle.std.specs.List.{flat_map, range_with_len}
use Rattle.life_limits.specs.declared.TheConstants.{GROUP_NUMBERS}
use Rattle.life_table.specs.declared.key.Key.{Key}
use Rattle.life_table.specs.declared.table.Table.{Table}
use Rattle.life_table.specs.Legal.{freed}
use Rattle.life_table.specs.Table.{group_at}
use Rattle.sound_image.specs.Encoding.{Layouts}
use Rattle.encoded_changes.specs.Changes.{taken_from}
use Rattle.group_ops.specs.Orphans.{orphan_keys}

-- The keys of the rows without links of a group: bucket by bucket, each from its head on.
abbrev pub keys_of_group : Table → Layouts → ℕ → List Key
keys_of_group t layouts group = orphan_keys layouts group (group_at t group)

-- The keys of a table's rows without links: group by group.
unfoldable pub keys_to_free : Table → Layouts → List Key
keys_to_free t layouts = flat_map (keys_of_group t layouts) (range_with_len 0 (length t.groups))

-- the table after the frees of these keys, one after the other
unfoldable pub freed_all : Table → List Key → Table
freed_all t [] = t
freed_all t (key ∷ keys) = freed_all (freed t key) keys

-- the layouts with the inodes of these keys taken out of their buckets
unfoldable pub unlisted_all : Layouts → List Key → Layouts
unlisted_all layouts [] = layouts
unlisted_all layouts (key ∷ keys) = unlisted_all (taken_from layouts (key.number / GROUP_NUMBERS) (key.number % GROUP_NUMBERS)) keys
