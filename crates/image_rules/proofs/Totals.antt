-- The numbers of all groups together.
use Rattle.std.proofs.Common.{◌≡◌, ◌+◌, ℕ, List, length, refl, arith}
use Rattle.std.proofs.lemmas.List.FromFn.{sum_by-map-range_with_len_more}
use Rattle.life_bytes.specs.declared.sector.Sector.{Sector}
use Rattle.geometry.specs.declared.shape.Geometry.{Geometry}
use Rattle.life_table.specs.Table.{Group}
use Rattle.sound_image.specs.Counts.{inodes_in, orphans_in_group, chunk_count, inode_count, orphan_count}
use Rattle.sound_image.specs.Reading.{group_read, rows_of}
use Rattle.image_rules.specs.declared.tables.Tables.{Tables}
use Rattle.image_rules.specs.Counted.{IsCounted, AreCounted, HasTables}

pub counted_none : (g : Geometry) (image : List Sector) → AreCounted g image 0 (record { chunks = 0; inodes = 0; orphans = 0 })
counted_none g image = record { chunks = refl; inodes = refl; orphans = refl }

pub counted_more : (g : Geometry) (image : List Sector) (n : ℕ) (a b c : Tables) → AreCounted g image n a → IsCounted g image n b → c.chunks ≡ a.chunks + b.chunks → c.inodes ≡ a.inodes + b.inodes
    → c.orphans ≡ a.orphans + b.orphans → AreCounted g image (n + 1) c
counted_more g image n a b c x y chunks inodes orphans = record {
  chunks = omega (arith, x.chunks, y.chunks, chunks, sum_by-map-range_with_len_more (λ (group : Group). length group) (group_read g image) 0 n n (omega arith));
  inodes = omega (arith, x.inodes, y.inodes, inodes, sum_by-map-range_with_len_more inodes_in (group_read g image) 0 n n (omega arith));
  orphans = omega (arith, x.orphans, y.orphans, orphans, sum_by-map-range_with_len_more orphans_in_group (group_read g image) 0 n n (omega arith));
}

pub whole_tables : (g : Geometry) (image : List Sector) (t : Tables) → AreCounted g image g.groups t → HasTables g image t
unfolding rows_of chunk_count inode_count orphan_count
whole_tables g image t x = record { chunks = x.chunks; inodes = x.inodes; orphans = x.orphans }
