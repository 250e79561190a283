-- What stands at each place of an image that encodes a table.
use Rattle.std.proofs.Common.{◌≡◌, ◌<◌, ◌+◌, ◌%◌, ℕ, List, Some, length, sym, ◌∙◌, arith}
use Rattle.life_bytes.specs.declared.sector.Sector.{Sector}
use Rattle.geometry.specs.declared.shape.Geometry.{Geometry}
use Rattle.extent_fork.specs.Forks.{HasFork}
use Rattle.extent_fork.specs.Runs.{runs}
use Rattle.inode_core.specs.Cores.{EncodesCore}
use Rattle.free_map.specs.Bitmap.{bitmap}
use Rattle.life_table.specs.declared.types.Row.{Row}
use Rattle.life_table.specs.declared.table.Inode.{Inode}
use Rattle.life_table.specs.declared.table.Table.{Table}
use Rattle.life_table.specs.Table.{group_at, inode_in}
use Rattle.geometry.specs.Places.{number_in}
use Rattle.sound_image.specs.Places.{bytes_at, bytes_from, part, sector_in}
use Rattle.sound_image.specs.Rules.{free_set}
use Rattle.sound_image.specs.Encoding.{Layouts, core_for, inode_sector, bucket_list, next_in, page_bytes, page_place, encoded}
use Rattle.sound_image.proofs.Forks.{sector_parts}
use Rattle.sound_image.proofs.Headers.{page_is}
use Rattle.sound_image.proofs.Inodes.{sector_is, stored, stored_runs}
use Rattle.sound_image.proofs.Metadata.{at_bitmap, at_page}
use Rattle.sound_image.proofs.Ready.{Lower, IsReady}
use Rattle.sound_image.proofs.Sectors.{at_metadata}

pub page_stands : (l : Lower) (g : Geometry) (t : Table) (layouts : Layouts) (image : List Sector) (group : ℕ) → IsReady g t layouts image group
    → bytes_from (encoded g t layouts image) (sector_in g group (page_place layouts group)) 8 ≡ page_bytes g layouts group (group_at t group)
unfolding page_bytes
page_stands l g t layouts image group r = page_is l g t layouts image group r

pub page_sector_stands : (g : Geometry) (t : Table) (layouts : Layouts) (image : List Sector) (group k : ℕ) → IsReady g t layouts image group → k < 8
    → bytes_at (encoded g t layouts image) (sector_in g group (page_place layouts group + k)) ≡ part k (page_bytes g layouts group (group_at t group))
page_sector_stands g t layouts image group k r lt =
    let high = r.page_high in
    let least = r.least in
    at_metadata g t layouts image group (page_place layouts group + k) (part k (page_bytes g layouts group (group_at t group))) r.size r.below (omega arith)
    (at_page g layouts group (group_at t group) k r.page_low lt)

pub bitmap_stands : (g : Geometry) (t : Table) (layouts : Layouts) (image : List Sector) (group k : ℕ) → IsReady g t layouts image group → k < 4
    → bytes_at (encoded g t layouts image) (sector_in g group (8 + k)) ≡ part k (bitmap (free_set g.blocks (group_at t group)))
bitmap_stands g t layouts image group k r lt =
    let least = r.least in
    at_metadata g t layouts image group (8 + k) (part k (bitmap (free_set g.blocks (group_at t group)))) r.size r.below (omega arith) (at_bitmap g layouts group (group_at t group) k lt)

pub inode_stands : (l : Lower) (g : Geometry) (t : Table) (layouts : Layouts) (image : List Sector) (group agino : ℕ) (x : Inode) → IsReady g t layouts image group
    → inode_in (group_at t group) agino ≡ Some x → bytes_at (encoded g t layouts image) (sector_in g group agino) ≡ inode_sector g layouts group agino x
inode_stands l g t layouts image group agino x r found = sector_is l g t layouts image group agino x r found ∙ sym (sector_parts g layouts group agino x)

pub core_stands : (l : Lower) (g : Geometry) (t : Table) (layouts : Layouts) (image : List Sector) (group agino : ℕ) (x : Inode) → IsReady g t layouts image group
    → inode_in (group_at t group) agino ≡ Some x
    → EncodesCore (bytes_at (encoded g t layouts image) (sector_in g group agino)) (number_in group agino) g.uuid (core_for x.generation x.row (next_in (bucket_list layouts group (agino % 64)) agino))
core_stands l g t layouts image group agino x r found = (stored l g t layouts image group agino x r found).encoded

pub fork_stands : (l : Lower) (g : Geometry) (t : Table) (layouts : Layouts) (image : List Sector) (group agino : ℕ) (x : Inode) (row : Row) → IsReady g t layouts image group
    → inode_in (group_at t group) agino ≡ Some x → x.row ≡ Some row
    → HasFork (bytes_at (encoded g t layouts image) (sector_in g group agino)) (length (runs row.blocks)) group (runs row.blocks)
fork_stands l g t layouts image group agino x row r found live = (stored_runs l g t layouts image group agino x row r found live).has
