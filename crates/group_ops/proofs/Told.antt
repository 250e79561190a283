-- What a state tells of a number's inode, where it is a group of a table.
use Rattle.std.proofs.Common.{◌≡◌, ◌<◌, ◌*◌, ◌%◌, ◌/◌, ℕ, zero, suc, true, false, cond, eqb, ◌&&◌, List, [], ◌∷◌, get_or, Some, None, Option, refl, ap, sym, ◌∙◌, arith, subst}
use Rattle.std.specs.Prelude.{IfSome, IsSomeAnd, is_some, replicate}
use Rattle.std.specs.List.{AllByRecursion}
use Rattle.std.proofs.lemmas.List.{length-replicate}
use Rattle.life_limits.specs.declared.TheConstants.{BUCKETS, GROUP_NUMBERS}
use Rattle.life_bytes.specs.declared.sector.Sector.{Sector}
use Rattle.life_bytes.specs.Sectors.{zero_sector}
use Rattle.geometry.specs.declared.shape.Geometry.{Geometry}
use Rattle.geometry.specs.Places.{group_sectors, number_in}
use Rattle.geometry.specs.Shape.{IsGeometry}
use Rattle.inode_core.specs.declared.shape.Core.{Core}
use Rattle.inode_core.specs.Cores.{EncodesCore}
use Rattle.inode_cache.specs.declared.inode.Incore.{Incore}
use Rattle.inode_cache.specs.declared.inode.Kept.{Kept}
use Rattle.inode_cache.specs.Caches.{is_dirty}
use Rattle.inode_cache.specs.Inodes.{incore_encoding}
use Rattle.life_table.specs.declared.key.Key.{Key}
use Rattle.life_table.specs.declared.types.Row.{Row}
use Rattle.life_table.specs.declared.table.Inode.{Inode}
use Rattle.life_table.specs.declared.table.Table.{Table}
use Rattle.life_table.specs.Table.{Group, group_at, inode_in, inode_of, row_in_life, row_of}
use Rattle.life_table.specs.WellFormed.{IsChunk, IsGroup}
use Rattle.sound_image.specs.Places.{bytes_at, sector_in}
use Rattle.sound_image.specs.Encoding.{CanEncode, Layouts, bucket_list, core_for, encoded, inode_sector, next_in}
use Rattle.group_ops.specs.Buffers.{buffer_in}
use Rattle.group_ops.specs.Values.{StateValue, kept_at}
use Rattle.group_ops.specs.Represents.{HasInode, IsGroupOf, incore_for}
use Rattle.group_ops.specs.Telling.{core_told}
use Rattle.group_ops.proofs.Places.{none_there}

-- what the laws on encodings say of an inode's sector
abbrev pub SectorsStand : Type 0
SectorsStand = (g : Geometry) (t : Table) (layouts : Layouts) (image : List Sector) (group agino : ℕ) (inode : Inode) → CanEncode g t layouts image → group < g.groups
    → inode_in (group_at t group) agino ≡ Some inode → bytes_at (encoded g t layouts image) (sector_in g group agino) ≡ inode_sector g layouts group agino inode

abbrev pub CoresStand : Type 0
CoresStand = (g : Geometry) (t : Table) (layouts : Layouts) (image : List Sector) (group agino : ℕ) (inode : Inode) → CanEncode g t layouts image → group < g.groups
    → inode_in (group_at t group) agino ≡ Some inode
    → EncodesCore (bytes_at (encoded g t layouts image) (sector_in g group agino)) (number_in group agino) g.uuid
    (core_for inode.generation inode.row (next_in (bucket_list layouts group (agino % BUCKETS)) agino))

-- an image that can encode the table
pub blank : Geometry → List Sector
blank g = replicate (g.groups * group_sectors g) zero_sector

pub can_encode : (s : StateValue) (t : Table) (layouts : Layouts) → IsGeometry s.geometry → IsGroupOf s t layouts → CanEncode s.geometry t layouts (blank s.geometry)
unfolding blank
can_encode s t layouts shape is = record {
  shape = shape;
  table = is.table;
  groups = is.groups;
  blocks = is.blocks;
  layouts_of = is.layouts_of;
  size = omega (arith, length-replicate (s.geometry.groups * group_sectors s.geometry) zero_sector);
}

-- the buffer of an inode that is not dirty encodes its core
pub encodes : SectorsStand → CoresStand → (s : StateValue) (t : Table) (layouts : Layouts) (agino : ℕ) (inode : Inode) (bytes : List ℕ) → IsGeometry s.geometry → s.group < s.geometry.groups
    → IsGroupOf s t layouts → inode_in (group_at t s.group) agino ≡ Some inode → bytes ≡ incore_encoding s.group s.geometry.uuid agino (incore_for layouts s.group agino inode)
    → EncodesCore bytes (number_in s.group agino) s.geometry.uuid (incore_for layouts s.group agino inode).core
unfolding inode_sector
encodes sectors cores s t layouts agino inode bytes shape inside is there same =
    let can = can_encode s t layouts shape is in
    let stands = sectors s.geometry t layouts (blank s.geometry) s.group agino inode can inside there in
    subst (λ (b : List ℕ). EncodesCore b (number_in s.group agino) s.geometry.uuid (incore_for layouts s.group agino inode).core) (stands ∙ sym same)
    (cores s.geometry t layouts (blank s.geometry) s.group agino inode can inside there)

-- an inode in core is the one that the table has
in_core_of : (layouts : Layouts) (group agino : ℕ) (s : StateValue) (kept : Kept) (o : Option Inode) → kept_at s agino ≡ Some kept
    → ((inode : Inode) → o ≡ Some inode → HasInode s agino (incore_for layouts group agino inode)) → (o ≡ None → kept_at s agino ≡ None)
    → Some kept.inode.core ≡ core_told layouts group agino o
in_core_of layouts group agino s kept None at has only = absurd (cc (at, only refl))
in_core_of layouts group agino s kept (Some inode) at has only =
    let same = subst (λ (k : Option Kept). IfSome k (λ x. x.inode ≡ incore_for layouts group agino inode)) at (has inode refl).in_core in
    ap (λ (i : Incore). Some i.core) same

pub told_in_core : (s : StateValue) (t : Table) (layouts : Layouts) (agino : ℕ) (kept : Kept) → IsGroupOf s t layouts → kept_at s agino ≡ Some kept
    → Some kept.inode.core ≡ core_told layouts s.group agino (inode_in (group_at t s.group) agino)
told_in_core s t layouts agino kept is at = in_core_of layouts s.group agino s kept (inode_in (group_at t s.group) agino) at (λ inode e. is.inodes agino inode e) (λ e. is.only agino e)

-- a number without a buffer has no inode
no_buffer_of : (layouts : Layouts) (group agino : ℕ) (s : StateValue) (o : Option Inode) → buffer_in s.buffers agino ≡ None
    → ((inode : Inode) → o ≡ Some inode → HasInode s agino (incore_for layouts group agino inode)) → None ≡ core_told layouts group agino o
no_buffer_of layouts group agino s None gone has = refl
no_buffer_of layouts group agino s (Some inode) gone has =
    absurd (subst (λ (b : Option Sector). IsSomeAnd b (λ sector. is_dirty (kept_at s agino) ≡ false
    → sector.bytes ≡ incore_encoding s.group s.geometry.uuid agino (incore_for layouts group agino inode))) gone (has inode refl).buffer)

pub told_no_buffer : (s : StateValue) (t : Table) (layouts : Layouts) (agino : ℕ) → IsGroupOf s t layouts → buffer_in s.buffers agino ≡ None
    → None ≡ core_told layouts s.group agino (inode_in (group_at t s.group) agino)
told_no_buffer s t layouts agino is gone = no_buffer_of layouts s.group agino s (inode_in (group_at t s.group) agino) gone (λ inode e. is.inodes agino inode e)

-- the core that a buffer gives, of a number that is not in core
buffer_of : (layouts : Layouts) (group agino : ℕ) (s : StateValue) (sector : Sector) (read : Option Core) (o : Option Inode) → kept_at s agino ≡ None → buffer_in s.buffers agino ≡ Some sector
    → ((inode : Inode) → o ≡ Some inode → HasInode s agino (incore_for layouts group agino inode)) → (o ≡ None → buffer_in s.buffers agino ≡ None)
    → ((inode : Inode) → o ≡ Some inode → sector.bytes ≡ incore_encoding s.group s.geometry.uuid agino (incore_for layouts group agino inode) → read ≡ Some (incore_for layouts group agino inode).core)
    → read ≡ core_told layouts group agino o
buffer_of layouts group agino s sector read None out at has gone reads = absurd (cc (at, gone refl))
buffer_of layouts group agino s sector read (Some inode) out at has gone reads =
    let encoding = subst (λ (b : Option Sector). IsSomeAnd b (λ x. is_dirty (kept_at s agino) ≡ false
    → x.bytes ≡ incore_encoding s.group s.geometry.uuid agino (incore_for layouts group agino inode))) at (has inode refl).buffer in
    reads inode refl (encoding (ap is_dirty out))

groups_get : (blocks : ℕ) (groups : List Group) (group : ℕ) → AllByRecursion (IsGroup blocks) groups → AllByRecursion IsChunk (get_or groups group [])
groups_get blocks [] group all = tt
groups_get blocks (g ∷ gs) zero all = all.0.chunks
groups_get blocks (g ∷ gs) (suc n) all = groups_get blocks gs n all.1

-- the chunks of a group of a well-formed table
pub chunks_of : (t : Table) (group : ℕ) → AllByRecursion (IsGroup t.blocks) t.groups → AllByRecursion IsChunk (group_at t group)
chunks_of t group all = groups_get t.blocks t.groups group all

pub told_buffer : SectorsStand → CoresStand → (s : StateValue) (t : Table) (layouts : Layouts) (agino : ℕ) (sector : Sector) (read : Option Core) → IsGeometry s.geometry
    → s.group < s.geometry.groups → IsGroupOf s t layouts → kept_at s agino ≡ None → buffer_in s.buffers agino ≡ Some sector
    → ((core : Core) → EncodesCore sector.bytes (number_in s.group agino) s.geometry.uuid core → read ≡ Some core)
    → read ≡ core_told layouts s.group agino (inode_in (group_at t s.group) agino)
told_buffer sectors cores s t layouts agino sector read shape inside is out at only =
    buffer_of layouts s.group agino s sector read (inode_in (group_at t s.group) agino) out at
    (λ inode e. is.inodes agino inode e)
    (λ e. none_there (group_at t s.group) s.buffers agino (chunks_of t s.group is.table.groups) is.starts e)
    (λ inode e same. only (incore_for layouts s.group agino inode).core (encodes sectors cores s t layouts agino inode sector.bytes shape inside is e same))

-- ---- as the code looks an inode up

found_of : (s : StateValue) (t : Table) (layouts : Layouts) (agino : ℕ) (inode : Incore) (o : Option Kept) → IsGroupOf s t layouts → kept_at s agino ≡ o
    → IsSomeAnd o (λ kept. kept.inode ≡ inode) → Some inode.core ≡ core_told layouts s.group agino (inode_in (group_at t s.group) agino)
found_of s t layouts agino inode None is at found = absurd found
found_of s t layouts agino inode (Some kept) is at found = ap (λ (i : Incore). Some i.core) (sym found) ∙ told_in_core s t layouts agino kept is at

pub told_found : (s : StateValue) (t : Table) (layouts : Layouts) (agino : ℕ) (inode : Incore) → IsGroupOf s t layouts → IsSomeAnd (kept_at s agino) (λ kept. kept.inode ≡ inode)
    → Some inode.core ≡ core_told layouts s.group agino (inode_in (group_at t s.group) agino)
told_found s t layouts agino inode is found = found_of s t layouts agino inode (kept_at s agino) is refl found

pub none_is : {X : Type 0} (o : Option X) → is_some o ≡ false → o ≡ None
none_is None e = refl
none_is (Some x) e = cc

-- ---- the row of a key

life_row : (generation life : ℕ) (row : Option Row) (next : ℕ) → ((core_for generation row next).live && eqb (core_for generation row next).generation life) ≡ is_some (cond (eqb generation life) row None)
unfolding core_for
life_row generation life None next = let none : Option Row = None in elim (eqb generation life) as (λ b. false ≡ is_some (cond b none none)) [ true ↦ refl | false ↦ refl ]
life_row generation life (Some row) next = elim (eqb generation life) as (λ b. b ≡ is_some (cond b (Some row) None)) [ true ↦ refl | false ↦ refl ]

row_seen_of : (layouts : Layouts) (group agino generation : ℕ) (core : Core) (o : Option Inode) → Some core ≡ core_told layouts group agino o
    → (core.live && eqb core.generation generation) ≡ is_some (row_in_life generation o)
row_seen_of layouts group agino generation core None told = cc
row_seen_of layouts group agino generation core (Some inode) told =
    let same : core ≡ core_for inode.generation inode.row (next_in (bucket_list layouts group (agino % BUCKETS)) agino) = cc in
    ap (λ (c : Core). c.live && eqb c.generation generation) same ∙ life_row inode.generation generation inode.row (next_in (bucket_list layouts group (agino % BUCKETS)) agino)

no_row_seen_of : (layouts : Layouts) (group agino generation : ℕ) (o : Option Inode) → None ≡ core_told layouts group agino o → false ≡ is_some (row_in_life generation o)
no_row_seen_of layouts group agino generation None told = refl
no_row_seen_of layouts group agino generation (Some inode) told = cc

-- the inode of a key's number
pub own_inode : (t : Table) (key : Key) (group agino : ℕ) → key.number / GROUP_NUMBERS ≡ group → agino ≡ key.number % GROUP_NUMBERS → inode_in (group_at t group) agino ≡ inode_of t key.number
unfolding inode_of
own_inode t key group agino own at = ap (λ (g : ℕ). inode_in (group_at t g) agino) (sym own) ∙ ap (λ (n : ℕ). inode_in (group_at t (key.number / GROUP_NUMBERS)) n) at

pub row_seen : (t : Table) (layouts : Layouts) (key : Key) (group agino : ℕ) (core : Core) → key.number / GROUP_NUMBERS ≡ group → agino ≡ key.number % GROUP_NUMBERS
    → Some core ≡ core_told layouts group agino (inode_in (group_at t group) agino) → (core.live && eqb core.generation key.generation) ≡ is_some (row_of t key)
row_seen t layouts key group agino core own at told =
    row_seen_of layouts group agino key.generation core (inode_in (group_at t group) agino) told
    ∙ ap (λ (o : Option Inode). is_some (row_in_life key.generation o)) (own_inode t key group agino own at)

pub no_row_seen : (t : Table) (layouts : Layouts) (key : Key) (group agino : ℕ) → key.number / GROUP_NUMBERS ≡ group → agino ≡ key.number % GROUP_NUMBERS
    → None ≡ core_told layouts group agino (inode_in (group_at t group) agino) → false ≡ is_some (row_of t key)
no_row_seen t layouts key group agino own at told =
    no_row_seen_of layouts group agino key.generation (inode_in (group_at t group) agino) told
    ∙ ap (λ (o : Option Inode). is_some (row_in_life key.generation o)) (own_inode t key group agino own at)
