-- An inode of a well-formed table is one that a sector can encode, and its number is one of the group.
use Rattle.std.proofs.Common.{◌≡◌, ◌<◌, ◌≤◌, ℕ, List, [], ◌∷◌, Option, Some, None, length, refl, sym, arith, subst, All}
use Rattle.std.specs.List.{AllByRecursion, flat_map}
use Rattle.std.proofs.lemmas.List.Elements.{All-append}
use Rattle.std.proofs.lemmas.List.FromFn.{get_or-range_with_len, length-range_with_len}
use Rattle.life_bytes.specs.declared.sector.Sector.{Sector}
use Rattle.geometry.specs.declared.shape.Geometry.{Geometry}
use Rattle.geometry.specs.Places.{group_sectors}
use Rattle.geometry.specs.Shape.{IsGeometry}
use Rattle.extent_fork.specs.declared.extent.Extent.{Extent}
use Rattle.extent_fork.specs.Forks.{IsRun}
use Rattle.extent_fork.specs.Reading.{CanBeDataBlock, ForksAreRead}
use Rattle.extent_fork.specs.Runs.{blocks_of, runs}
use Rattle.inode_cache.specs.declared.inode.Kept.{Kept}
use Rattle.inode_cache.specs.Inodes.{IsIncore}
use Rattle.life_table.specs.declared.types.Row.{Row}
use Rattle.life_table.specs.declared.table.Inode.{Inode}
use Rattle.life_table.specs.declared.table.Table.{Table}
use Rattle.life_table.specs.Space.{row_blocks}
use Rattle.life_table.specs.Table.{group_at, inode_in}
use Rattle.sound_image.specs.Encoding.{CanEncode, Layouts, core_for}
use Rattle.group_ops.specs.Values.{StateValue, kept_at}
use Rattle.group_ops.specs.Represents.{IsGroupOf, incore_for}
use Rattle.group_ops.proofs.Kept.{kept_is}
use Rattle.group_ops.proofs.Seen.{ForksStand}
use Rattle.group_ops.proofs.Told.{CoresStand, blank, can_encode}

-- what the laws on places say of an inode's number
abbrev pub PlacesStand : Type 0
PlacesStand = (g : Geometry) (t : Table) (layouts : Layouts) (image : List Sector) (group agino : ℕ) (inode : Inode) → CanEncode g t layouts image → group < g.groups
    → inode_in (group_at t group) agino ≡ Some inode → (192 ≤ agino) × (agino < group_sectors g)

-- the laws that a proof rests on
pub record Laws : Type 0 where
  pub cores : CoresStand
  pub forks : ForksStand
  pub read : ForksAreRead
  pub places : PlacesStand

in_run : (run : Extent) → IsRun run → All CanBeDataBlock (blocks_of run)
in_run run is k d low =
    let many = length-range_with_len run.start run.count in
    let at = get_or-range_with_len run.start run.count k d (omega (arith, many, low)) in
    (omega (arith, at, is.start), omega (arith, at, is.end, many, low))

in_runs : (list : List Extent) → AllByRecursion IsRun list → All CanBeDataBlock (flat_map blocks_of list)
in_runs [] all = λ k d low. absurd (omega arith)
in_runs (run ∷ rest) all = All-append CanBeDataBlock (blocks_of run) (flat_map blocks_of rest) (in_run run all.0) (in_runs rest all.1)

no_row_block : All CanBeDataBlock []
no_row_block k d low = absurd (omega arith)

data_of : (laws : Laws) (g : Geometry) (t : Table) (layouts : Layouts) (group agino : ℕ) (inode : Inode) (row : Option Row) → CanEncode g t layouts (blank g) → group < g.groups
    → inode_in (group_at t group) agino ≡ Some inode → inode.row ≡ row → All CanBeDataBlock (row_blocks row)
data_of laws g t layouts group agino inode None can inside there at = no_row_block
data_of laws g t layouts group agino inode (Some row) can inside there at =
    let fork = laws.forks g t layouts (blank g) group agino inode row can inside there at in
    subst (All CanBeDataBlock) (laws.read.blocks row.blocks) (in_runs (runs row.blocks) fork.runs.each)

count_of : (generation next : ℕ) (row : Option Row) → (core_for generation row next).blocks ≡ length (row_blocks row)
unfolding core_for
count_of generation next None = refl
count_of generation next (Some row) = refl

extents_of : (generation next : ℕ) (row : Option Row) → (core_for generation row next).extents ≡ length (runs (row_blocks row))
unfolding core_for
extents_of generation next None = refl
extents_of generation next (Some row) = refl

pub incore_right : (laws : Laws) (s : StateValue) (t : Table) (layouts : Layouts) (agino : ℕ) (inode : Inode) → IsGeometry s.geometry → s.group < s.geometry.groups
    → IsGroupOf s t layouts → inode_in (group_at t s.group) agino ≡ Some inode → IsIncore (incore_for layouts s.group agino inode)
incore_right laws s t layouts agino inode shape inside is there =
    let can = can_encode s t layouts shape is in
    record {
      allowed = (laws.cores s.geometry t layouts (blank s.geometry) s.group agino inode can inside there).allowed;
      data_blocks = data_of laws s.geometry t layouts s.group agino inode inode.row can inside there refl;
      count = count_of inode.generation _ inode.row;
      extents = extents_of inode.generation _ inode.row;
    }

pub agino_small : PlacesStand → (s : StateValue) (t : Table) (layouts : Layouts) (agino : ℕ) (inode : Inode) → IsGeometry s.geometry → s.group < s.geometry.groups
    → IsGroupOf s t layouts → inode_in (group_at t s.group) agino ≡ Some inode → agino < 131072
agino_small places s t layouts agino inode shape inside is there =
    let place = places s.geometry t layouts (blank s.geometry) s.group agino inode (can_encode s t layouts shape is) inside there in
    omega (arith, place.1, shape.blocks.1)

-- an inode in core of a state that is a group of a table
pub kept_right : (laws : Laws) (s : StateValue) (t : Table) (layouts : Layouts) (agino : ℕ) (kept : Kept) → IsGeometry s.geometry → s.group < s.geometry.groups
    → IsGroupOf s t layouts → kept_at s agino ≡ Some kept → IsIncore kept.inode
kept_right laws s t layouts agino kept shape inside is at =
    let of = kept_is s t layouts agino kept is at in
    subst IsIncore (sym of.same) (incore_right laws s t layouts agino of.inode shape inside is of.there)

pub kept_small : (laws : Laws) (s : StateValue) (t : Table) (layouts : Layouts) (agino : ℕ) (kept : Kept) → IsGeometry s.geometry → s.group < s.geometry.groups
    → IsGroupOf s t layouts → kept_at s agino ≡ Some kept → agino < 131072
kept_small laws s t layouts agino kept shape inside is at =
    let of = kept_is s t layouts agino kept is at in
    agino_small laws.places s t layouts agino of.inode shape inside is of.there

-- the extents of an inode in core are the runs of its row's blocks
pub incore_extents : (layouts : Layouts) (group agino : ℕ) (inode : Inode) → (incore_for layouts group agino inode).core.extents ≡ length (runs (row_blocks inode.row))
incore_extents layouts group agino inode = extents_of inode.generation _ inode.row
