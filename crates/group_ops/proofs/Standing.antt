-- The sector and the blocks of a number's inode, in core and in its buffer.
use Rattle.std.proofs.Common.{◌≡◌, ◌≢◌, ◌<◌, ℕ, false, List, [], ◌∷◌, Option, Some, None, length, refl, ap, sym, ◌∙◌, subst, arith}
use Rattle.std.specs.Prelude.{IfSome, IsSome, IsSomeAnd}
use Rattle.std.specs.List.{AllByRecursion, flat_map}
use Rattle.std.proofs.lemmas.Bool.{false≢true}
use Rattle.std.proofs.lemmas.Option.{none-some}
use Rattle.life_bytes.specs.declared.sector.Sector.{Sector}
use Rattle.geometry.specs.Shape.{IsGeometry}
use Rattle.inode_core.specs.declared.shape.Core.{Core}
use Rattle.extent_fork.specs.declared.extent.Extent.{Extent}
use Rattle.extent_fork.specs.Forks.{IsRun}
use Rattle.extent_fork.specs.Reading.{ForksAreRead}
use Rattle.extent_fork.specs.Runs.{blocks_of, runs}
use Rattle.inode_cache.specs.declared.inode.Incore.{Incore}
use Rattle.inode_cache.specs.declared.inode.Kept.{Kept}
use Rattle.inode_cache.specs.Caches.{is_dirty}
use Rattle.inode_cache.specs.Inodes.{incore_encoding}
use Rattle.life_table.specs.declared.types.Row.{Row}
use Rattle.life_table.specs.declared.table.Inode.{Inode}
use Rattle.life_table.specs.declared.table.Table.{Table}
use Rattle.life_table.specs.Space.{row_blocks}
use Rattle.life_table.specs.Table.{group_at, inode_in}
use Rattle.sound_image.specs.Encoding.{Layouts, inode_sector}
use Rattle.group_ops.specs.Buffers.{buffer_in}
use Rattle.group_ops.specs.Represents.{IsGroupOf, incore_for}
use Rattle.group_ops.specs.Telling.{HasInodeAt, HasRowAt, core_told}
use Rattle.group_ops.specs.Values.{StateValue, kept_at}
use Rattle.group_ops.proofs.Incores.{PlacesStand, agino_small, incore_extents}
use Rattle.group_ops.proofs.Seen.{ForksStand}
use Rattle.group_ops.proofs.Told.{blank, can_encode}

-- a number that a chunk has, with its table
pub record AtNumber (s : StateValue) (agino : ℕ) : Type 0 where
  pub t : Table
  pub layouts : Layouts
  pub is : IsGroupOf s t layouts
  pub inode : Inode
  pub there : inode_in (group_at t s.group) agino ≡ Some inode

at_of : (s : StateValue) (agino : ℕ) (t : Table) (layouts : Layouts) (o : Option Inode) → IsGroupOf s t layouts → inode_in (group_at t s.group) agino ≡ o → IsSome o → AtNumber s agino
at_of s agino t layouts None is there some = absurd (false≢true some)
at_of s agino t layouts (Some inode) is there some = record { t = t; layouts = layouts; is = is; inode = inode; there = there }

pub at_number : (s : StateValue) (agino : ℕ) → HasInodeAt s agino → AtNumber s agino
at_number s agino has = at_of s agino has.0 has.1 (inode_in (group_at has.0 s.group) agino) has.2 refl has.3

pub number_small : PlacesStand → (s : StateValue) (agino : ℕ) → IsGeometry s.geometry → s.group < s.geometry.groups → HasInodeAt s agino → agino < 131072
number_small places s agino shape inside has = let at = at_number s agino has in agino_small places s at.t at.layouts agino at.inode shape inside at.is at.there

found_of : (s : StateValue) (t : Table) (layouts : Layouts) (agino : ℕ) (inode : Inode) (x : Incore) (o : Option Kept) → IsGroupOf s t layouts → inode_in (group_at t s.group) agino ≡ Some inode
    → kept_at s agino ≡ o → IsSomeAnd o (λ kept. kept.inode ≡ x) → x ≡ incore_for layouts s.group agino inode
found_of s t layouts agino inode x None is there at found = absurd found
found_of s t layouts agino inode x (Some kept) is there at found =
    sym found ∙ subst (λ (k : Option Kept). IfSome k (λ y. y.inode ≡ incore_for layouts s.group agino inode)) at (is.inodes agino inode there).in_core

-- the inode that is found in core
pub incore_found : (s : StateValue) (t : Table) (layouts : Layouts) (agino : ℕ) (inode : Inode) (x : Incore) → IsGroupOf s t layouts → inode_in (group_at t s.group) agino ≡ Some inode
    → IsSomeAnd (kept_at s agino) (λ kept. kept.inode ≡ x) → x ≡ incore_for layouts s.group agino inode
incore_found s t layouts agino inode x is there found = found_of s t layouts agino inode x (kept_at s agino) is there refl found

pub core_sector : (s : StateValue) (t : Table) (layouts : Layouts) (agino : ℕ) (inode : Inode) (x : Incore) (bytes : List ℕ) → IsGroupOf s t layouts → inode_in (group_at t s.group) agino ≡ Some inode
    → IsSomeAnd (kept_at s agino) (λ kept. kept.inode ≡ x) → bytes ≡ incore_encoding s.group s.geometry.uuid agino x → bytes ≡ inode_sector s.geometry layouts s.group agino inode
unfolding inode_sector
core_sector s t layouts agino inode x bytes is there found written =
    written ∙ ap (λ (i : Incore). incore_encoding s.group s.geometry.uuid agino i) (incore_found s t layouts agino inode x is there found)

pub buffer_sector : (s : StateValue) (t : Table) (layouts : Layouts) (agino : ℕ) (inode : Inode) (sector : Sector) → IsGroupOf s t layouts → inode_in (group_at t s.group) agino ≡ Some inode
    → kept_at s agino ≡ None → buffer_in s.buffers agino ≡ Some sector → sector.bytes ≡ inode_sector s.geometry layouts s.group agino inode
unfolding inode_sector
buffer_sector s t layouts agino inode sector is there out at =
    let told = subst (λ (b : Option Sector). IsSomeAnd b (λ x. is_dirty (kept_at s agino) ≡ false
    → x.bytes ≡ incore_encoding s.group s.geometry.uuid agino (incore_for layouts s.group agino inode))) at (is.inodes agino inode there).buffer in
    told (ap is_dirty out)

pub not_gone : (s : StateValue) (agino : ℕ) → HasInodeAt s agino → buffer_in s.buffers agino ≡ None → ⊥
not_gone s agino has gone =
    let at = at_number s agino has in
    subst (λ (b : Option Sector). IsSomeAnd b (λ x. is_dirty (kept_at s agino) ≡ false
    → x.bytes ≡ incore_encoding s.group s.geometry.uuid agino (incore_for at.layouts s.group agino at.inode))) gone (at.is.inodes agino at.inode at.there).buffer

-- ---- blocks

no_runs : (list : List Extent) → length list ≡ 0 → list ≡ []
no_runs [] e = refl
no_runs (x ∷ xs) e = absurd (omega arith)

-- an inode without extents has no blocks
pub no_blocks : ForksAreRead → (blocks : List ℕ) (extents : ℕ) → extents ≡ 0 → extents ≡ length (runs blocks) → [] ≡ blocks
no_blocks read blocks extents none many =
    ap (λ (l : List Extent). flat_map blocks_of l) (sym (no_runs (runs blocks) (omega (arith, none, many)))) ∙ read.blocks blocks

pub record HasSome (row : Option Row) : Type 0 where
  pub is : Row
  pub of : row ≡ Some is

-- an inode with extents has a row
pub row_some : (row : Option Row) (extents : ℕ) → extents ≢ 0 → extents ≡ length (runs (row_blocks row)) → HasSome row
row_some None extents some many = absurd (some many)
row_some (Some row) extents some many = record { is = row; of = refl }

pub row_at : (s : StateValue) (agino extents : ℕ) → HasInodeAt s agino
    → ((t : Table) (layouts : Layouts) (inode : Inode) → IsGroupOf s t layouts → inode_in (group_at t s.group) agino ≡ Some inode → extents ≡ length (runs (row_blocks inode.row)))
    → extents ≢ 0 → (t : Table) × (layouts : Layouts) × (inode : Inode) × (row : Row) × HasRowAt s agino t layouts inode row
row_at s agino extents has many some =
    let at = at_number s agino has in
    let row = row_some at.inode.row extents some (many at.t at.layouts at.inode at.is at.there) in
    (at.t, at.layouts, at.inode, row.is, record { group = at.is; inode_there = at.there; used = row.of })

-- the runs of a row are runs of data blocks
pub runs_stand : ForksStand → (s : StateValue) (t : Table) (layouts : Layouts) (agino : ℕ) (inode : Inode) (row : Row) → IsGeometry s.geometry → s.group < s.geometry.groups
    → HasRowAt s agino t layouts inode row → AllByRecursion IsRun (runs row.blocks)
runs_stand forks s t layouts agino inode row shape inside has =
    (forks s.geometry t layouts (blank s.geometry) s.group agino inode row (can_encode s t layouts shape has.group) inside has.inode_there has.used).runs.each

-- ---- the core

told_of : (layouts : Layouts) (group agino : ℕ) (core : Core) (inode : Inode) (o : Option Inode) → o ≡ Some inode → Some core ≡ core_told layouts group agino o → core ≡ (incore_for layouts group agino inode).core
told_of layouts group agino core inode None there told = absurd (none-some inode there)
told_of layouts group agino core inode (Some other) there told = cc (there, told)

pub core_is : (s : StateValue) (t : Table) (layouts : Layouts) (agino : ℕ) (core : Core) (inode : Inode) → inode_in (group_at t s.group) agino ≡ Some inode
    → Some core ≡ core_told layouts s.group agino (inode_in (group_at t s.group) agino) → core ≡ (incore_for layouts s.group agino inode).core
core_is s t layouts agino core inode there told = told_of layouts s.group agino core inode (inode_in (group_at t s.group) agino) there told

pub extents_are : (s : StateValue) (t : Table) (layouts : Layouts) (agino : ℕ) (core : Core) (inode : Inode) → inode_in (group_at t s.group) agino ≡ Some inode
    → Some core ≡ core_told layouts s.group agino (inode_in (group_at t s.group) agino) → core.extents ≡ length (runs (row_blocks inode.row))
extents_are s t layouts agino core inode there told = ap (λ (c : Core). c.extents) (core_is s t layouts agino core inode there told) ∙ incore_extents layouts s.group agino inode

none_of : (layouts : Layouts) (group agino : ℕ) (inode : Inode) (o : Option Inode) → o ≡ Some inode → None ≡ core_told layouts group agino o → ⊥
none_of layouts group agino inode None there told = none-some inode there
none_of layouts group agino inode (Some other) there told = cc (told)

pub core_there : (s : StateValue) (t : Table) (layouts : Layouts) (agino : ℕ) (inode : Inode) → inode_in (group_at t s.group) agino ≡ Some inode
    → None ≡ core_told layouts s.group agino (inode_in (group_at t s.group) agino) → ⊥
core_there s t layouts agino inode there told = none_of layouts s.group agino inode (inode_in (group_at t s.group) agino) there told
