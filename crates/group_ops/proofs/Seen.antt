-- The row of a key, as its core tells it, and its blocks.
use Rattle.std.proofs.Common.{◌≡◌, ◌<◌, ◌%◌, ◌&&◌, ℕ, true, false, eqb, List, Some, None, Option, length, refl, ap, sym, ◌∙◌, subst}
use Rattle.std.specs.Prelude.{IfSome, IsSomeAnd}
use Rattle.std.proofs.lemmas.Bool.{and_parts, cond-true, false≢true}
use Rattle.std.proofs.lemmas.Option.{none-some, same_Some}
use Rattle.life_limits.specs.declared.TheConstants.{BUCKETS}
use Rattle.life_bytes.specs.declared.sector.Sector.{Sector}
use Rattle.geometry.specs.declared.shape.Geometry.{Geometry}
use Rattle.geometry.specs.Shape.{IsGeometry}
use Rattle.inode_core.specs.declared.shape.Core.{Core}
use Rattle.extent_fork.specs.Forks.{HasFork}
use Rattle.extent_fork.specs.Runs.{runs}
use Rattle.inode_cache.specs.declared.inode.Incore.{Incore}
use Rattle.inode_cache.specs.declared.inode.Kept.{Kept}
use Rattle.inode_cache.specs.Caches.{is_dirty}
use Rattle.inode_cache.specs.Inodes.{incore_encoding}
use Rattle.life_table.specs.declared.types.Row.{Row}
use Rattle.life_table.specs.declared.table.Inode.{Inode}
use Rattle.life_table.specs.declared.table.Table.{Table}
use Rattle.life_table.specs.Space.{row_blocks}
use Rattle.life_table.specs.Table.{group_at, inode_in, row_in_life}
use Rattle.sound_image.specs.Places.{bytes_at, sector_in}
use Rattle.sound_image.specs.Encoding.{CanEncode, Layouts, bucket_list, core_for, encoded, inode_sector, next_in}
use Rattle.group_ops.specs.Buffers.{buffer_in}
use Rattle.group_ops.specs.Values.{StateValue, kept_at}
use Rattle.group_ops.specs.Represents.{incore_for}
use Rattle.group_ops.specs.Telling.{HasRowAt, core_told}
use Rattle.group_ops.proofs.Told.{SectorsStand, blank, can_encode}

-- the inode of a number is in the life of a generation, with a row that the core tells
pub record SeenIn (o : Option Inode) (generation : ℕ) (core : Core) : Type 0 where
  pub inode : Inode
  pub row : Row
  pub there : o ≡ Some inode
  pub used : inode.row ≡ Some row
  pub of : row_in_life generation o ≡ Some row
  pub links : core.links ≡ row.links
  pub blocks : core.blocks ≡ length row.blocks
  pub extents : core.extents ≡ length (runs row.blocks)

seen_life : (generation next : ℕ) (core : Core) (inode : Inode) (r : Option Row) → inode.row ≡ r → core ≡ core_for inode.generation r next → core.live ≡ true → eqb core.generation generation ≡ true
    → SeenIn (Some inode) generation core
unfolding core_for
seen_life generation next core inode None none same live life = absurd (false≢true (ap (λ (c : Core). c.live) (sym same) ∙ live))
seen_life generation next core inode (Some row) used same live life = record {
  inode = inode;
  row = row;
  there = refl;
  used = used;
  of = cond-true (eqb inode.generation generation) inode.row None (ap (λ (c : Core). eqb c.generation generation) (sym same) ∙ life) ∙ used;
  links = ap (λ (c : Core). c.links) same;
  blocks = ap (λ (c : Core). c.blocks) same;
  extents = ap (λ (c : Core). c.extents) same;
}

pub seen_in : (layouts : Layouts) (group agino generation : ℕ) (core : Core) (o : Option Inode) → Some core ≡ core_told layouts group agino o → (core.live && eqb core.generation generation) ≡ true
    → SeenIn o generation core
seen_in layouts group agino generation core None told life = absurd (cc (told))
seen_in layouts group agino generation core (Some inode) told life =
    let next : ℕ = next_in (bucket_list layouts group (agino % BUCKETS)) agino in
    let same : core ≡ core_for inode.generation inode.row next = cc in
    let both = and_parts core.live (eqb core.generation generation) life in
    seen_life generation next core inode inode.row refl same both.0 both.1

-- the forks of inodes in use, as the laws on encodings have them
abbrev pub ForksStand : Type 0
ForksStand = (g : Geometry) (t : Table) (layouts : Layouts) (image : List Sector) (group agino : ℕ) (inode : Inode) (row : Row) → CanEncode g t layouts image → group < g.groups
    → inode_in (group_at t group) agino ≡ Some inode → inode.row ≡ Some row
    → HasFork (bytes_at (encoded g t layouts image) (sector_in g group agino)) (length (runs row.blocks)) group (runs row.blocks)

pub has_fork : SectorsStand → ForksStand → (s : StateValue) (t : Table) (layouts : Layouts) (agino : ℕ) (inode : Inode) (row : Row) (bytes : List ℕ) → IsGeometry s.geometry → s.group < s.geometry.groups
    → HasRowAt s agino t layouts inode row → bytes ≡ incore_encoding s.group s.geometry.uuid agino (incore_for layouts s.group agino inode)
    → HasFork bytes (length (runs row.blocks)) s.group (runs row.blocks)
unfolding inode_sector
has_fork sectors forks s t layouts agino inode row bytes shape inside has same =
    let can = can_encode s t layouts shape has.group in
    let stands = sectors s.geometry t layouts (blank s.geometry) s.group agino inode can inside has.inode_there in
    subst (λ (b : List ℕ). HasFork b (length (runs row.blocks)) s.group (runs row.blocks)) (stands ∙ sym same)
    (forks s.geometry t layouts (blank s.geometry) s.group agino inode row can inside has.inode_there has.used)

-- the fork that stands in the buffer of a number that is not in core
pub buffer_fork : SectorsStand → ForksStand → (s : StateValue) (t : Table) (layouts : Layouts) (agino extents : ℕ) (inode : Inode) (row : Row) (sector : Sector) → IsGeometry s.geometry
    → s.group < s.geometry.groups → HasRowAt s agino t layouts inode row → kept_at s agino ≡ None → buffer_in s.buffers agino ≡ Some sector → extents ≡ length (runs row.blocks)
    → HasFork sector.bytes extents s.group (runs row.blocks)
buffer_fork sectors forks s t layouts agino extents inode row sector shape inside has out at many =
    let told = subst (λ (b : Option Sector). IsSomeAnd b (λ x. is_dirty (kept_at s agino) ≡ false
    → x.bytes ≡ incore_encoding s.group s.geometry.uuid agino (incore_for layouts s.group agino inode))) at (has.group.inodes agino inode has.inode_there).buffer in
    subst (λ (n : ℕ). HasFork sector.bytes n s.group (runs row.blocks)) (sym many)
    (has_fork sectors forks s t layouts agino inode row sector.bytes shape inside has (told (ap is_dirty out)))

-- a number with a row has a buffer
pub has_buffer : (s : StateValue) (t : Table) (layouts : Layouts) (agino : ℕ) (inode : Inode) (row : Row) → HasRowAt s agino t layouts inode row → buffer_in s.buffers agino ≡ None → ⊥
has_buffer s t layouts agino inode row has gone =
    subst (λ (b : Option Sector). IsSomeAnd b (λ x. is_dirty (kept_at s agino) ≡ false
    → x.bytes ≡ incore_encoding s.group s.geometry.uuid agino (incore_for layouts s.group agino inode))) gone (has.group.inodes agino inode has.inode_there).buffer

row_blocks_of : (r : Option Row) (row : Row) → r ≡ Some row → row_blocks r ≡ row.blocks
row_blocks_of r row e = ap row_blocks e

blocks_of_kept : (s : StateValue) (t : Table) (layouts : Layouts) (agino : ℕ) (inode : Inode) (row : Row) (of : Incore) (o : Option Kept) → HasRowAt s agino t layouts inode row → kept_at s agino ≡ o
    → IsSomeAnd o (λ kept. kept.inode ≡ of) → of.blocks ≡ row.blocks
blocks_of_kept s t layouts agino inode row of None has at found = absurd found
blocks_of_kept s t layouts agino inode row of (Some kept) has at found =
    let same = subst (λ (k : Option Kept). IfSome k (λ x. x.inode ≡ incore_for layouts s.group agino inode)) at (has.group.inodes agino inode has.inode_there).in_core in
    ap (λ (i : Incore). i.blocks) (sym found ∙ same) ∙ row_blocks_of inode.row row has.used

-- the blocks of a number in core are those of its row
pub blocks_in_core : (s : StateValue) (t : Table) (layouts : Layouts) (agino : ℕ) (inode : Inode) (row : Row) (of : Incore) → HasRowAt s agino t layouts inode row
    → IsSomeAnd (kept_at s agino) (λ kept. kept.inode ≡ of) → of.blocks ≡ row.blocks
blocks_in_core s t layouts agino inode row of has found = blocks_of_kept s t layouts agino inode row of (kept_at s agino) has refl found

-- what a core tells of a row
told_extents : (generation next : ℕ) (r : Option Row) (row : Row) (core : Core) → r ≡ Some row → core ≡ core_for generation r next → core.extents ≡ length (runs row.blocks)
unfolding core_for
told_extents generation next None row core used same = absurd (none-some row used)
told_extents generation next (Some other) row core used same = ap (λ (c : Core). c.extents) same ∙ ap (λ (x : Row). length (runs x.blocks)) (same_Some other row used)

extents_of : (layouts : Layouts) (group agino : ℕ) (core : Core) (o : Option Inode) (inode : Inode) (row : Row) → Some core ≡ core_told layouts group agino o → o ≡ Some inode → inode.row ≡ Some row
    → core.extents ≡ length (runs row.blocks)
extents_of layouts group agino core None inode row told there used = absurd (none-some inode there)
extents_of layouts group agino core (Some other) inode row told there used =
    let next : ℕ = next_in (bucket_list layouts group (agino % BUCKETS)) agino in
    let same : core ≡ core_for other.generation other.row next = cc in
    told_extents other.generation next other.row row core (ap (λ (i : Inode). i.row) (same_Some other inode there) ∙ used) same

pub extents_told : (s : StateValue) (t : Table) (layouts : Layouts) (agino : ℕ) (core : Core) (inode : Inode) (row : Row) → HasRowAt s agino t layouts inode row
    → Some core ≡ core_told layouts s.group agino (inode_in (group_at t s.group) agino) → core.extents ≡ length (runs row.blocks)
extents_told s t layouts agino core inode row has told = extents_of layouts s.group agino core (inode_in (group_at t s.group) agino) inode row told has.inode_there has.used
