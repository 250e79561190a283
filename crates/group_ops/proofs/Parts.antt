-- What the format says of the sectors that a change touches, before it and after it.
use Rattle.std.proofs.Common.{◌≡◌, ◌≢◌, ◌<◌, ◌≤◌, ◌+◌, ◌*◌, ◌%◌, ◌&&◌, ℕ, suc, Bool, true, false, eqb, List, [], ◌∷◌, Option, Some, None, length, map, get_or, inl, inr, refl, ap, sym, ◌∙◌, arith, subst}
use Rattle.std.specs.Prelude.{IfSome, IsSome, IsSomeAnd, nat_le, nat_lt, slice_get, sum_by}
use Rattle.std.specs.List.{AllByRecursion, range_with_len}
use Rattle.std.specs.Option.{option_map}
use Rattle.std.specs.FinMap as finmap
use Rattle.std.proofs.lemmas.Bool.{cases_lt, cases_eq, cond-false, le-ltb, ne_eqb, false≢true}
use Rattle.std.proofs.lemmas.Option.{none-some, same_Some}
use Rattle.life_bytes.specs.declared.sector.Sector.{Sector}
use Rattle.life_bytes.specs.SectorBytes.{bytes_of}
use Rattle.geometry.specs.declared.shape.Geometry.{Geometry}
use Rattle.geometry.specs.Places.{group_sectors}
use Rattle.geometry.specs.Shape.{IsGeometry}
use Rattle.ag_header.specs.declared.agi.Agi.{Agi}
use Rattle.ag_header.specs.Headers.{header_encoding}
use Rattle.inode_core.specs.declared.shape.Core.{Core}
use Rattle.free_map.specs.Bitmap.{bitmap}
use Rattle.group_space.specs.Space.{IsSpaceOf, changed_space}
use Rattle.inode_cache.specs.declared.inode.Incore.{Incore}
use Rattle.inode_cache.specs.declared.inode.Kept.{Kept}
use Rattle.inode_cache.specs.Caches.{dirty, is_dirty}
use Rattle.inode_cache.specs.Inodes.{incore_encoding}
use Rattle.life_table.specs.declared.table.Inode.{Inode}
use Rattle.life_table.specs.declared.table.Chunk.{Chunk}
use Rattle.life_table.specs.declared.table.Table.{Table}
use Rattle.life_table.specs.Space.{row_blocks}
use Rattle.life_table.specs.Table.{Group, group_at, inode_in, start_of}
use Rattle.life_table.specs.WellFormed.{IsChunk}
use Rattle.sound_image.specs.Places.{bytes_at, part}
use Rattle.sound_image.specs.Encoding.{CanEncode, Layouts, bucket_list, free_count, head_of, header_for, inode_sector, metadata, page_bytes, page_of, page_place}
use Rattle.sound_image.specs.Rules.{free_set}
use Rattle.group_ops.specs.declared.delta.Delta.{Delta}
use Rattle.group_ops.specs.declared.delta.Prior.{Prior}
use Rattle.group_ops.specs.Buffers.{Buffers, BuffersAscend, buffer_in}
use Rattle.group_ops.specs.Changes.{buffer_of_prior, changed_state, core_of_prior, insert_buffers, set_buffer, with_chunk, with_head, with_prior, with_prior_buffer}
use Rattle.group_ops.specs.Relinks.{IsPrior}
use Rattle.group_ops.specs.Represents.{HasInode, IsGroupOf, incore_for}
use Rattle.group_ops.specs.Staging.{IsAfter, Leads}
use Rattle.group_ops.specs.Values.{StateValue, kept_at}
use Rattle.group_ops.proofs.Finding.{buffer-at, buffer_later, buffer_nil, buffer-none}
use Rattle.group_ops.proofs.Incores.{PlacesStand}
use Rattle.group_ops.proofs.Kept.{kept_is, put_other, put_same}
use Rattle.group_ops.proofs.Leading.{changed_ascend, changed_buffers, other_kept, own_kept}
use Rattle.group_ops.proofs.Places.{none_there}
use Rattle.group_ops.proofs.Setting.{insert_behind, insert_front, insert_none, set_other, set_same, set_starts}
use Rattle.group_ops.proofs.Told.{blank, can_encode, chunks_of}

-- ---- the header

abbrev pub agi_of : ℕ → ℕ → ℕ → ℕ → ℕ → List ℕ → List ℕ → Agi
agi_of group blocks count root free heads uuid =
    record { group = group; blocks = blocks; count = count; root = root; level = 1; free = free; heads = heads; uuid = uuid }

header_of : (g : Geometry) (group : ℕ) (chunks : Group) (layouts : Layouts) (count root free : ℕ) (heads : List ℕ) → count ≡ 64 * length chunks → root ≡ page_of layouts group
    → free ≡ sum_by (λ (chunk : Chunk). free_count chunk.inodes) chunks → heads ≡ map (λ bucket. head_of (bucket_list layouts group bucket)) (range_with_len 0 64)
    → agi_of group g.blocks count root free heads g.uuid ≡ header_for g group chunks layouts
unfolding header_for
header_of g group chunks layouts count root free heads counted rooted freed headed = cc (counted, rooted, freed, headed)

abbrev pub HeaderStands : Type 0
HeaderStands = (g : Geometry) (layouts : Layouts) (group : ℕ) (chunks : Group) → metadata g layouts group chunks 2 ≡ Some (header_encoding (header_for g group chunks layouts))

pub header_before : HeaderStands → (s : StateValue) (t : Table) (layouts : Layouts) (count free : ℕ) (bytes : List ℕ) → IsGroupOf s t layouts → count ≡ 64 * length (group_at t s.group)
    → free ≡ sum_by (λ (chunk : Chunk). free_count chunk.inodes) (group_at t s.group)
    → bytes ≡ header_encoding (agi_of s.group s.geometry.blocks count s.page free s.heads s.geometry.uuid)
    → metadata s.geometry layouts s.group (group_at t s.group) 2 ≡ Some bytes
header_before law s t layouts count free bytes is counted freed encoded =
    let agi = header_of s.geometry s.group (group_at t s.group) layouts count s.page free s.heads counted is.page freed is.heads in
    law s.geometry layouts s.group (group_at t s.group) ∙ ap (λ (a : Agi). Some (header_encoding a)) (sym agi) ∙ ap (λ (b : List ℕ). Some b) (sym encoded)

-- ---- sectors that hold parts

abbrev pub BitmapStands : Type 0
BitmapStands = (g : Geometry) (layouts : Layouts) (group : ℕ) (chunks : Group) (k : ℕ) → k < 4 → metadata g layouts group chunks (8 + k) ≡ Some (part k (bitmap (free_set g.blocks chunks)))

pub bitmap_part_is : BitmapStands → (g : Geometry) (layouts : Layouts) (group : ℕ) (chunks : Group) (sectors : List Sector) (k : ℕ) → k < 4
    → bytes_at sectors k ≡ part k (bytes_of sectors) → bytes_of sectors ≡ bitmap (free_set g.blocks chunks)
    → metadata g layouts group chunks (8 + k) ≡ Some (bytes_at sectors k)
bitmap_part_is law g layouts group chunks sectors k low holds whole =
    law g layouts group chunks k low ∙ ap (λ (b : List ℕ). Some (part k b)) (sym whole) ∙ ap (λ (b : List ℕ). Some b) (sym holds)

abbrev pub PageStands : Type 0
PageStands = (g : Geometry) (layouts : Layouts) (group : ℕ) (chunks : Group) (k : ℕ) → 2 ≤ page_of layouts group → k < 8
    → metadata g layouts group chunks (page_place layouts group + k) ≡ Some (part k (page_bytes g layouts group chunks))

pub page_part_is : PageStands → (g : Geometry) (layouts : Layouts) (group page : ℕ) (chunks : Group) (sectors : List Sector) (k : ℕ) → page ≡ page_of layouts group → 2 ≤ page_of layouts group → k < 8
    → bytes_at sectors k ≡ part k (bytes_of sectors) → bytes_of sectors ≡ page_bytes g layouts group chunks
    → metadata g layouts group chunks (8 * page + k) ≡ Some (bytes_at sectors k)
unfolding page_place
page_part_is law g layouts group page chunks sectors k is paged low holds whole =
    ap (λ (n : ℕ). metadata g layouts group chunks (8 * n + k)) is
    ∙ law g layouts group chunks k paged low ∙ ap (λ (b : List ℕ). Some (part k b)) (sym whole) ∙ ap (λ (b : List ℕ). Some b) (sym holds)

-- the page of a group is one of its first blocks
pub page_low : (s : StateValue) (t : Table) (layouts : Layouts) → s.group < s.geometry.groups → IsGroupOf s t layouts → (2 ≤ page_of layouts s.group) × (page_of layouts s.group ≤ 17)
page_low s t layouts inside is = is.layouts_of.pages s.group (omega (arith, is.groups, inside))

-- ---- the state after a change, as a group of the table after it

pub record AfterGroup (s : StateValue) (d : Delta) (u : Table) (others : Layouts) : Type 0 where
  pub page : s.page ≡ page_of others s.group
  pub heads : with_head s.heads d.head ≡ map (λ bucket. head_of (bucket_list others s.group bucket)) (range_with_len 0 64)
  pub space : IsSpaceOf s.geometry.blocks (group_at u s.group) (changed_space s.space d.space)
  pub pages : (2 ≤ page_of others s.group) × (page_of others s.group ≤ 17)
  pub starts : map (λ (chunk : Buffers). chunk.start) (with_chunk (with_prior_buffer s.in_core s.buffers d.prior) d.chunk) ≡ map (λ (chunk : Chunk). chunk.start) (group_at u s.group)
  pub chunks : AllByRecursion IsChunk (group_at u s.group)
  pub inodes : (agino : ℕ) (inode : Inode) → inode_in (group_at u s.group) agino ≡ Some inode → HasInode (changed_state s d) agino (incore_for others s.group agino inode)

pub after_group : (s : StateValue) (d : Delta) (u : Table) (others : Layouts) → s.group < s.geometry.groups → IsGroupOf (changed_state s d) u others → AfterGroup s d u others
unfolding changed_state
after_group s d u others inside is = record {
  page = is.page;
  heads = is.heads;
  space = is.space;
  pages = is.layouts_of.pages s.group (omega (arith, is.groups, inside));
  starts = is.starts;
  chunks = chunks_of u s.group is.table.groups;
  inodes = is.inodes;
}

pub header_after : HeaderStands → (s : StateValue) (d : Delta) (u : Table) (others : Layouts) (count free : ℕ) (heads bytes : List ℕ) → AfterGroup s d u others
    → count ≡ 64 * length (group_at u s.group) → free ≡ sum_by (λ (chunk : Chunk). free_count chunk.inodes) (group_at u s.group) → heads ≡ with_head s.heads d.head
    → bytes ≡ header_encoding (agi_of s.group s.geometry.blocks count s.page free heads s.geometry.uuid)
    → metadata s.geometry others s.group (group_at u s.group) 2 ≡ Some bytes
header_after law s d u others count free heads bytes after counted freed headed encoded =
    let agi = header_of s.geometry s.group (group_at u s.group) others count s.page free heads counted after.page freed (headed ∙ after.heads) in
    law s.geometry others s.group (group_at u s.group) ∙ ap (λ (a : Agi). Some (header_encoding a)) (sym agi) ∙ ap (λ (b : List ℕ). Some b) (sym encoded)

-- ---- inodes

abbrev pub InodeStands : Type 0
InodeStands = (g : Geometry) (layouts : Layouts) (group : ℕ) (chunks : Group) (agino : ℕ) (inode : Inode) → page_of layouts group ≤ 17
    → 192 ≤ agino → inode_in chunks agino ≡ Some inode → metadata g layouts group chunks agino ≡ Some (inode_sector g layouts group agino inode)

some_and : {X : Type 0} (o : Option X) (x : X) (P : X → Type 0) → o ≡ Some x → P x → IsSomeAnd o P
some_and o x P e p = subst (λ (q : Option _). IsSomeAnd q P) (sym e) p

-- an inode that is there, of an option
pub record IsThere (P : Inode → Type 0) (o : Option Inode) : Type 0 where
  pub inode : Inode
  pub there : o ≡ Some inode
  pub holds : P inode

pub taken : (P : Inode → Type 0) (o : Option Inode) → IsSomeAnd o P → IsThere P o
taken P None some = absurd some
taken P (Some inode) some = record { inode = inode; there = refl; holds = some }

-- the buffers start where they did, where no chunk is added
prior_starts : (s : StateValue) (prior : Option Prior) → map (λ (chunk : Buffers). chunk.start) (with_prior_buffer s.in_core s.buffers prior) ≡ map (λ (chunk : Buffers). chunk.start) s.buffers
prior_starts s None = refl
prior_starts s (Some prior) = by_case (finmap.get s.in_core prior.agino)
  where
    by_case : (o : Option Kept) → map (λ (chunk : Buffers). chunk.start) (buffer_of_prior s.buffers prior o) ≡ map (λ (chunk : Buffers). chunk.start) s.buffers
    by_case None = set_starts s.buffers prior.agino prior.sector
    by_case (Some kept) = refl

-- a number without a buffer has no inode
no_inode_of : (s : StateValue) (agino : ℕ) (incore : Inode → Incore) (o : Option Inode) → ((inode : Inode) → o ≡ Some inode → HasInode s agino (incore inode)) → buffer_in s.buffers agino ≡ None → o ≡ None
no_inode_of s agino incore None has gone = refl
no_inode_of s agino incore (Some inode) has gone =
    absurd (subst (λ (b : Option Sector). IsSomeAnd b (λ sector. is_dirty (kept_at s agino) ≡ false → sector.bytes ≡ incore_encoding s.group s.geometry.uuid agino (incore inode))) gone (has inode refl).buffer)

-- an inode that is there after a change was there before, where no chunk is added
had_of : (s : StateValue) (d : Delta) (t : Table) (layouts : Layouts) (u : Table) (others : Layouts) (agino : ℕ) (o : Option Inode) → IsGroupOf s t layouts → AfterGroup s d u others → d.chunk ≡ None
    → inode_in (group_at t s.group) agino ≡ o → IsSome (inode_in (group_at u s.group) agino) → IsSome o
had_of s d t layouts u others agino (Some inode) is after none there some = refl
had_of s d t layouts u others agino None is after none there some =
    let new : List Buffers = with_chunk (with_prior_buffer s.in_core s.buffers d.prior) d.chunk in
    let same : new ≡ with_prior_buffer s.in_core s.buffers d.prior = ap (λ (c : Option Buffers). with_chunk (with_prior_buffer s.in_core s.buffers d.prior) c) none in
    let starts = ap (λ (l : List Buffers). map (λ (chunk : Buffers). chunk.start) l) same ∙ prior_starts s d.prior ∙ is.starts in
    let gone : buffer_in new agino ≡ None = none_there (group_at t s.group) new agino (chunks_of t s.group is.table.groups) starts there in
    let out = no_inode_of (changed_state s d) agino (λ (inode : Inode). incore_for others s.group agino inode) (inode_in (group_at u s.group) agino) (λ inode e. after.inodes agino inode e)
    (ap (λ (l : List Buffers). buffer_in l agino) (changed_buffers s d) ∙ gone) in
    subst IsSome out some

pub had_inode : (s : StateValue) (d : Delta) (t : Table) (layouts : Layouts) (u : Table) (others : Layouts) (agino : ℕ) → IsGroupOf s t layouts → AfterGroup s d u others → d.chunk ≡ None
    → IsSome (inode_in (group_at u s.group) agino) → IsSome (inode_in (group_at t s.group) agino)
had_inode s d t layouts u others agino is after none some = had_of s d t layouts u others agino (inode_in (group_at t s.group) agino) is after none refl some

-- the changed inode, as its sector is written
pub own_after : (s : StateValue) (d : Delta) (u : Table) (others : Layouts) (bytes : List ℕ) → IsGroupOf (changed_state s d) u others
    → bytes ≡ incore_encoding s.group s.geometry.uuid d.agino d.inode
    → IsSomeAnd (inode_in (group_at u s.group) d.agino) (λ inode. bytes ≡ inode_sector s.geometry others s.group d.agino inode)
unfolding changed_state inode_sector
own_after s d u others bytes is written =
    let of = kept_is (changed_state s d) u others d.agino (dirty d.inode) is (own_kept s d) in
    some_and (inode_in (group_at u s.group) d.agino) of.inode (λ inode. bytes ≡ inode_sector s.geometry others s.group d.agino inode) of.there
    (written ∙ ap (λ (i : Incore). incore_encoding s.group s.geometry.uuid d.agino i) of.same)

-- a buffer of an inode
pub record HasBuffer (s : StateValue) (agino : ℕ) : Type 0 where
  pub sector : Sector
  pub at : buffer_in s.buffers agino ≡ Some sector

buffer_of : (s : StateValue) (agino : ℕ) (incore : Incore) (o : Option Sector) → buffer_in s.buffers agino ≡ o
    → IsSomeAnd o (λ sector. is_dirty (kept_at s agino) ≡ false → sector.bytes ≡ incore_encoding s.group s.geometry.uuid agino incore) → HasBuffer s agino
buffer_of s agino incore None at some = absurd some
buffer_of s agino incore (Some sector) at some = record { sector = sector; at = at }

pub buffer_there : (s : StateValue) (t : Table) (layouts : Layouts) (agino : ℕ) (inode : Inode) → IsGroupOf s t layouts → inode_in (group_at t s.group) agino ≡ Some inode → HasBuffer s agino
buffer_there s t layouts agino inode is there = buffer_of s agino (incore_for layouts s.group agino inode) (buffer_in s.buffers agino) refl (is.inodes agino inode there).buffer

-- a buffer of a number that is not in core is its inode's sector after the change
buffer_after_of : (s : StateValue) (d : Delta) (u : Table) (others : Layouts) (agino : ℕ) (sector : Sector) (o : Option Inode) → AfterGroup s d u others
    → buffer_in (with_chunk (with_prior_buffer s.in_core s.buffers d.prior) d.chunk) agino ≡ Some sector → kept_at (changed_state s d) agino ≡ None
    → inode_in (group_at u s.group) agino ≡ o → IsSomeAnd o (λ inode. sector.bytes ≡ inode_sector s.geometry others s.group agino inode)
unfolding changed_state inode_sector
buffer_after_of s d u others agino sector None after at out there =
    let gone = none_there (group_at u s.group) (with_chunk (with_prior_buffer s.in_core s.buffers d.prior) d.chunk) agino after.chunks after.starts there in
    absurd (none-some sector (sym gone ∙ at))
buffer_after_of s d u others agino sector (Some inode) after at out there =
    let encoding = subst (λ (b : Option Sector). IsSomeAnd b (λ x. is_dirty (kept_at (changed_state s d) agino) ≡ false
    → x.bytes ≡ incore_encoding s.group s.geometry.uuid agino (incore_for others s.group agino inode))) at (after.inodes agino inode there).buffer in
    encoding (ap is_dirty out)

pub buffer_after : (s : StateValue) (d : Delta) (u : Table) (others : Layouts) (agino : ℕ) (sector : Sector) → AfterGroup s d u others
    → buffer_in (with_chunk (with_prior_buffer s.in_core s.buffers d.prior) d.chunk) agino ≡ Some sector → kept_at (changed_state s d) agino ≡ None
    → IsSomeAnd (inode_in (group_at u s.group) agino) (λ inode. sector.bytes ≡ inode_sector s.geometry others s.group agino inode)
buffer_after s d u others agino sector after at out = buffer_after_of s d u others agino sector (inode_in (group_at u s.group) agino) after at out refl

prior_kept : (s : StateValue) (d : Delta) (u : Table) (others : Layouts) (prior : Prior) (kept : Kept) (inode : Inode) → IsGroupOf (changed_state s d) u others
    → kept_at (changed_state s d) prior.agino ≡ Some kept → kept.inode ≡ incore_for others s.group prior.agino inode
    → prior.sector.bytes ≡ incore_encoding s.group s.geometry.uuid prior.agino (incore_for others s.group prior.agino inode)
    → IsSomeAnd (inode_in (group_at u s.group) prior.agino) (λ inode. prior.sector.bytes ≡ inode_sector s.geometry others s.group prior.agino inode)
unfolding changed_state inode_sector
prior_kept s d u others prior kept inode full here whole sector =
    let of = kept_is (changed_state s d) u others prior.agino kept full here in
    let same : incore_for others s.group prior.agino inode ≡ incore_for others s.group prior.agino of.inode = sym whole ∙ of.same in
    some_and (inode_in (group_at u s.group) prior.agino) of.inode (λ i. prior.sector.bytes ≡ inode_sector s.geometry others s.group prior.agino i) of.there
    (sector ∙ ap (λ (i : Incore). incore_encoding s.group s.geometry.uuid prior.agino i) same)

-- ---- the inode before it in its bucket

-- what the table before the change and the one after it have at its number
prior_of : (s : StateValue) (d : Delta) (t : Table) (layouts : Layouts) (u : Table) (others : Layouts) (prior : Prior) (o : Option Kept) → IsGroupOf s t layouts
    → IsGroupOf (changed_state s d) u others → AfterGroup s d u others → (is : IsPrior s t layouts others d.agino prior) → d.prior ≡ Some prior → d.chunk ≡ None
    → finmap.get s.in_core prior.agino ≡ o
    → IsSomeAnd (inode_in (group_at u s.group) prior.agino) (λ inode. prior.sector.bytes ≡ inode_sector s.geometry others s.group prior.agino inode)
prior_of s d t layouts u others prior (Some k) before full after is at no_chunk kept =
    let new : Kept = dirty (record { core = prior.core; blocks = k.inode.blocks }) in
    let put : finmap.get (with_prior s.in_core (Some prior)) prior.agino ≡ Some new = rw kept (put_same s.in_core prior.agino new) in
    let here : kept_at (changed_state s d) prior.agino ≡ Some new = other_kept s d prior.agino is.other ∙ ap (λ (p : Option Prior). finmap.get (with_prior s.in_core p) prior.agino) at ∙ put in
    let old = kept_is s t layouts prior.agino k before kept in
    let same_inode : old.inode ≡ is.inode = same_Some old.inode is.inode (sym old.there ∙ is.found) in
    let blocks : k.inode.blocks ≡ row_blocks is.inode.row = ap (λ (i : Incore). i.blocks) old.same ∙ ap (λ (i : Inode). row_blocks i.row) same_inode in
    let whole : new.inode ≡ incore_for others s.group prior.agino is.inode =
    ap (λ (core : Core). let i : Incore = record { core = core; blocks = k.inode.blocks } in i) is.core
    ∙ ap (λ (l : List ℕ). let i : Incore = record { core = (incore_for others s.group prior.agino is.inode).core; blocks = l } in i) blocks in
    prior_kept s d u others prior new is.inode full here whole is.sector
prior_of s d t layouts u others prior None before full after is at no_chunk kept =
    let out : kept_at (changed_state s d) prior.agino ≡ None =
    other_kept s d prior.agino is.other ∙ ap (λ (p : Option Prior). finmap.get (with_prior s.in_core p) prior.agino) at ∙ rw kept kept in
    let old = buffer_there s t layouts prior.agino is.inode before is.found in
    let buffers : with_chunk (with_prior_buffer s.in_core s.buffers d.prior) d.chunk ≡ set_buffer s.buffers prior.agino prior.sector =
    ap (λ (c : Option Buffers). with_chunk (with_prior_buffer s.in_core s.buffers d.prior) c) no_chunk
    ∙ ap (λ (p : Option Prior). with_prior_buffer s.in_core s.buffers p) at
    ∙ ap (λ (k : Option Kept). buffer_of_prior s.buffers prior k) kept in
    let there : buffer_in (with_chunk (with_prior_buffer s.in_core s.buffers d.prior) d.chunk) prior.agino ≡ Some prior.sector =
    ap (λ (l : List Buffers). buffer_in l prior.agino) buffers ∙ set_same s.buffers prior.agino old.sector prior.sector old.at in
    buffer_after s d u others prior.agino prior.sector after there out

pub prior_after : (s : StateValue) (d : Delta) (prior : Prior) → s.group < s.geometry.groups → d.prior ≡ Some prior → d.chunk ≡ None → IsAfter s d prior.agino prior.sector.bytes
prior_after s d prior inside at no_chunk t layouts u others leads =
    let is : IsPrior s t layouts others d.agino prior = subst (λ (p : Option Prior). IfSome p (IsPrior s t layouts others d.agino)) at leads.prior in
    prior_of s d t layouts u others prior (finmap.get s.in_core prior.agino) leads.before leads.after (after_group s d u others inside leads.after) is at no_chunk refl

-- ---- a chunk that is added

record HasNew (new : Buffers) (xs : List Buffers) : Type 0 where
  pub place : ℕ
  pub within : place < length (insert_buffers new xs)
  pub at : (d : Buffers) → get_or (insert_buffers new xs) place d ≡ new

long : (xs ys : List Buffers) (k : ℕ) → xs ≡ ys → k < length ys → k < length xs
long xs ys k same low = subst (λ (l : List Buffers). k < length l) (sym same) low

has_new : (new : Buffers) (xs : List Buffers) → HasNew new xs
has_new new [] = record { place = 0; within = long (insert_buffers new []) (new ∷ []) 0 (insert_none new) (omega arith); at = λ d. ap (λ (l : List Buffers). get_or l 0 d) (insert_none new) }
has_new new (x ∷ xs) = elim (cases_lt new.start x.start) [
  | inl below ↦ record {
    place = 0;
    within = long (insert_buffers new (x ∷ xs)) (new ∷ x ∷ xs) 0 (insert_front new x xs below) (omega arith);
    at = λ d. ap (λ (l : List Buffers). get_or l 0 d) (insert_front new x xs below);
  }
  | inr above ↦
      let rest = has_new new xs in
      record {
        place = suc rest.place;
        within = long (insert_buffers new (x ∷ xs)) (x ∷ insert_buffers new xs) (suc rest.place) (insert_behind new x xs above) (omega (arith, rest.within));
        at = λ d. ap (λ (l : List Buffers). get_or l (suc rest.place) d) (insert_behind new x xs above) ∙ rest.at d;
      }
]

-- no other chunk has its numbers
new_alone : (new : Buffers) (xs : List Buffers) (agino : ℕ) → BuffersAscend (insert_buffers new xs) → new.start ≡ start_of agino → buffer_in xs agino ≡ None
new_alone new [] agino ascends e = buffer_nil agino
new_alone new (x ∷ xs) agino ascends e = elim (cases_lt new.start x.start) [
  | inl below ↦
      let up : BuffersAscend (new ∷ x ∷ xs) = subst BuffersAscend (insert_front new x xs below) ascends in
      buffer-none (x ∷ xs) agino x (λ k low same. let higher = up 0 (suc k) x (omega arith) (omega arith) in omega (arith, higher, same, e))
  | inr above ↦
      let up : BuffersAscend (x ∷ insert_buffers new xs) = subst BuffersAscend (insert_behind new x xs above) ascends in
      let has = has_new new xs in
      let higher = up 0 (suc has.place) x (omega arith) (omega (arith, has.within)) in
      let there : (get_or (insert_buffers new xs) has.place x).start ≡ new.start = ap (λ (b : Buffers). b.start) (has.at x) in
      buffer_later x xs agino (λ same. omega (arith, higher, there, same, e))
      ∙ new_alone new xs agino (λ i j d lt low. up (suc i) (suc j) d (omega arith) (omega arith)) e
]

new_there : (new : Buffers) (xs : List Buffers) (i : ℕ) → BuffersAscend (insert_buffers new xs) → new.start % 64 ≡ 0 → i < 64 → buffer_in (insert_buffers new xs) (new.start + i) ≡ slice_get new.sectors i
new_there new xs i ascends aligned low =
    let has = has_new new xs in
    let at : (get_or (insert_buffers new xs) has.place new).start ≡ start_of (new.start + i) = ap (λ (b : Buffers). b.start) (has.at new) ∙ omega (arith, aligned, low) in
    let index : (new.start + i) % 64 ≡ i = omega (arith, aligned, low) in
    buffer-at (insert_buffers new xs) (new.start + i) has.place new ascends has.within at
    ∙ ap (λ (b : Buffers). slice_get b.sectors ((new.start + i) % 64)) (has.at new) ∙ ap (λ (n : ℕ). slice_get new.sectors n) index

-- a buffer that is not there with the prior's was not there before
set_gone : (xs : List Buffers) (agino other : ℕ) (s : Sector) (o : Option Sector) → buffer_in xs other ≡ o → buffer_in (set_buffer xs agino s) other ≡ None → o ≡ None
set_gone xs agino other s None at gone = refl
set_gone xs agino other s (Some old) at gone = elim (cases_eq agino other) [
  | inl same ↦
      let here : buffer_in xs agino ≡ Some old = ap (buffer_in xs) same ∙ at in
      absurd (none-some s (sym gone ∙ ap (λ (n : ℕ). buffer_in (set_buffer xs agino s) n) (sym same) ∙ set_same xs agino old s here))
  | inr apart ↦ sym at ∙ sym (set_other xs agino other s apart) ∙ gone
]

prior_gone : (s : StateValue) (prior : Option Prior) (agino : ℕ) → buffer_in (with_prior_buffer s.in_core s.buffers prior) agino ≡ None → buffer_in s.buffers agino ≡ None
prior_gone s None agino gone = gone
prior_gone s (Some prior) agino gone = by_case (finmap.get s.in_core prior.agino) gone
  where
    by_case : (o : Option Kept) → buffer_in (buffer_of_prior s.buffers prior o) agino ≡ None → buffer_in s.buffers agino ≡ None
    by_case None gone = set_gone s.buffers prior.agino agino prior.sector (buffer_in s.buffers agino) refl gone
    by_case (Some kept) gone = gone

chunk_buffers : (s : StateValue) (d : Delta) (chunk : Buffers) → d.chunk ≡ Some chunk
    → with_chunk (with_prior_buffer s.in_core s.buffers d.prior) d.chunk ≡ insert_buffers chunk (with_prior_buffer s.in_core s.buffers d.prior)
chunk_buffers s d chunk at = ap (λ (c : Option Buffers). with_chunk (with_prior_buffer s.in_core s.buffers d.prior) c) at

-- its numbers have no inode before the change
pub added_before : (s : StateValue) (d : Delta) (t : Table) (layouts : Layouts) (u : Table) (others : Layouts) (chunk : Buffers) (i : ℕ) → Leads s d t layouts u others → d.chunk ≡ Some chunk
    → chunk.start % 64 ≡ 0 → i < 64 → inode_in (group_at t s.group) (chunk.start + i) ≡ None
added_before s d t layouts u others chunk i leads at aligned low =
    let before : List Buffers = with_prior_buffer s.in_core s.buffers d.prior in
    let up : BuffersAscend (insert_buffers chunk before) = subst BuffersAscend (chunk_buffers s d chunk at) (changed_ascend s d t layouts u others leads) in
    let gone = prior_gone s d.prior (chunk.start + i) (new_alone chunk before (chunk.start + i) up (omega (arith, aligned, low))) in
    no_inode_of s (chunk.start + i) (λ (inode : Inode). incore_for layouts s.group (chunk.start + i) inode) (inode_in (group_at t s.group) (chunk.start + i))
    (λ inode e. leads.before.inodes (chunk.start + i) inode e) gone

-- nor are they in core but for the changed one
prior_out : (s : StateValue) (t : Table) (layouts others : Layouts) (agino own : ℕ) (prior : Option Prior) → IsGroupOf s t layouts → IfSome prior (IsPrior s t layouts others own)
    → inode_in (group_at t s.group) agino ≡ None → finmap.get (with_prior s.in_core prior) agino ≡ None
prior_out s t layouts others agino own None before is gone = before.only agino gone
prior_out s t layouts others agino own (Some prior) before is gone = by_case (finmap.get s.in_core prior.agino)
  where
    apart : agino ≢ prior.agino
    apart same = none-some is.inode (sym gone ∙ ap (λ (n : ℕ). inode_in (group_at t s.group) n) same ∙ is.found)

    by_case : (o : Option Kept) → finmap.get (core_of_prior s.in_core prior o) agino ≡ None
    by_case None = before.only agino gone
    by_case (Some kept) = put_other s.in_core prior.agino agino (dirty (record { core = prior.core; blocks = kept.inode.blocks })) apart ∙ before.only agino gone

pub added_after : (s : StateValue) (d : Delta) (chunk : Buffers) (i : ℕ) (sector : Sector) → s.group < s.geometry.groups → d.chunk ≡ Some chunk → chunk.start % 64 ≡ 0 → i < 64
    → slice_get chunk.sectors i ≡ Some sector → chunk.start + i ≢ d.agino → IsAfter s d (chunk.start + i) sector.bytes
added_after s d chunk i sector inside at aligned low there apart t layouts u others leads =
    let before : List Buffers = with_prior_buffer s.in_core s.buffers d.prior in
    let up : BuffersAscend (insert_buffers chunk before) = subst BuffersAscend (chunk_buffers s d chunk at) (changed_ascend s d t layouts u others leads) in
    let here : buffer_in (with_chunk before d.chunk) (chunk.start + i) ≡ Some sector =
    ap (λ (l : List Buffers). buffer_in l (chunk.start + i)) (chunk_buffers s d chunk at) ∙ new_there chunk before i up aligned low ∙ there in
    let gone = added_before s d t layouts u others chunk i leads at aligned low in
    let out : kept_at (changed_state s d) (chunk.start + i) ≡ None =
    other_kept s d (chunk.start + i) apart ∙ prior_out s t layouts others (chunk.start + i) d.agino d.prior leads.before leads.prior gone in
    buffer_after s d u others (chunk.start + i) sector (after_group s d u others inside leads.after) here out

-- ---- where no inode is, the format says nothing

and_false : (a b : Bool) → b ≡ false → (a && b) ≡ false
and_false true b e = e
and_false false b e = refl

false_and : (a b : Bool) → a ≡ false → (a && b) ≡ false
false_and true b e = absurd (false≢true (sym e))
false_and false b e = refl

pub says_nothing : (g : Geometry) (layouts : Layouts) (group : ℕ) (chunks : Group) (place : ℕ) → page_of layouts group ≤ 17 → 192 ≤ place → inode_in chunks place ≡ None
    → metadata g layouts group chunks place ≡ None
unfolding metadata page_place
says_nothing g layouts group chunks place page far none =
    cond-false (eqb place 2) _ _ (ne_eqb place 2 (λ same. omega arith))
    ∙ cond-false (nat_le 8 place && nat_lt place 12) _ _ (and_false (nat_le 8 place) (nat_lt place 12) (le-ltb place 12 (omega arith)))
    ∙ cond-false (nat_le (8 * page_of layouts group) place && nat_lt place (8 * page_of layouts group + 8)) _ _
    (and_false (nat_le (8 * page_of layouts group) place) (nat_lt place (8 * page_of layouts group + 8)) (le-ltb place (8 * page_of layouts group + 8) (omega arith)))
    ∙ ap (λ (o : Option Inode). option_map (inode_sector g layouts group place) o) none

-- ---- inodes as candidates

can_after : (s : StateValue) (d : Delta) (u : Table) (others : Layouts) → IsGeometry s.geometry → IsGroupOf (changed_state s d) u others → CanEncode s.geometry u others (blank s.geometry)
unfolding changed_state
can_after s d u others shape is = can_encode (changed_state s d) u others shape is

-- an inode of the table after a change has a place behind all pages, in its group
pub place_after : PlacesStand → (s : StateValue) (d : Delta) (u : Table) (others : Layouts) (agino : ℕ) (P : Inode → Type 0) → IsGeometry s.geometry → s.group < s.geometry.groups
    → IsGroupOf (changed_state s d) u others → IsSomeAnd (inode_in (group_at u s.group) agino) P → (192 ≤ agino) × (agino < group_sectors s.geometry)
place_after places s d u others agino P shape inside is some =
    let at = taken P (inode_in (group_at u s.group) agino) some in
    places s.geometry u others (blank s.geometry) s.group agino at.inode (can_after s d u others shape is) inside at.there

pub inode_after : InodeStands → PlacesStand → (s : StateValue) (d : Delta) (t : Table) (layouts : Layouts) (u : Table) (others : Layouts) (agino : ℕ) (bytes : List ℕ) → IsGeometry s.geometry
    → s.group < s.geometry.groups → Leads s d t layouts u others → IsAfter s d agino bytes → metadata s.geometry others s.group (group_at u s.group) agino ≡ Some bytes
inode_after law places s d t layouts u others agino bytes shape inside leads after =
    let some = after t layouts u others leads in
    let at = taken (λ (inode : Inode). bytes ≡ inode_sector s.geometry others s.group agino inode) (inode_in (group_at u s.group) agino) some in
    let place = place_after places s d u others agino _ shape inside leads.after some in
    let pages = (after_group s d u others inside leads.after).pages in
    law s.geometry others s.group (group_at u s.group) agino at.inode pages.1 place.0 at.there ∙ ap (λ (b : List ℕ). Some b) (sym at.holds)

some_from_and : {X : Type 0} (P : X → Type 0) (o : Option X) → IsSomeAnd o P → IsSome o
some_from_and P None some = absurd some
some_from_and P (Some x) some = refl

-- it was there before, where no chunk is added
pub had_some : (s : StateValue) (d : Delta) (t : Table) (layouts : Layouts) (u : Table) (others : Layouts) (agino : ℕ) (bytes : List ℕ) → s.group < s.geometry.groups → Leads s d t layouts u others
    → IsAfter s d agino bytes → d.chunk ≡ None → IsSome (inode_in (group_at t s.group) agino)
had_some s d t layouts u others agino bytes inside leads after no_chunk =
    had_inode s d t layouts u others agino leads.before (after_group s d u others inside leads.after) no_chunk
    (some_from_and (λ inode. bytes ≡ inode_sector s.geometry others s.group agino inode) (inode_in (group_at u s.group) agino) (after t layouts u others leads))

before_of : InodeStands → (s : StateValue) (t : Table) (layouts : Layouts) (agino : ℕ) (old : List ℕ) (o : Option Inode) → page_of layouts s.group ≤ 17 → 192 ≤ agino
    → ((inode : Inode) → inode_in (group_at t s.group) agino ≡ Some inode → old ≡ inode_sector s.geometry layouts s.group agino inode) → inode_in (group_at t s.group) agino ≡ o → IsSome o
    → metadata s.geometry layouts s.group (group_at t s.group) agino ≡ Some old
before_of law s t layouts agino old None page far sector there some = absurd (false≢true some)
before_of law s t layouts agino old (Some inode) page far sector there some =
    law s.geometry layouts s.group (group_at t s.group) agino inode page far there ∙ ap (λ (b : List ℕ). Some b) (sym (sector inode there))

pub inode_before : InodeStands → PlacesStand → (s : StateValue) (d : Delta) (t : Table) (layouts : Layouts) (u : Table) (others : Layouts) (agino : ℕ) (old bytes : List ℕ) → IsGeometry s.geometry
    → s.group < s.geometry.groups → Leads s d t layouts u others → IsAfter s d agino bytes → d.chunk ≡ None
    → ((inode : Inode) → inode_in (group_at t s.group) agino ≡ Some inode → old ≡ inode_sector s.geometry layouts s.group agino inode)
    → metadata s.geometry layouts s.group (group_at t s.group) agino ≡ Some old
inode_before law places s d t layouts u others agino old bytes shape inside leads after no_chunk sector =
    let place = place_after places s d u others agino (λ inode. bytes ≡ inode_sector s.geometry others s.group agino inode) shape inside leads.after (after t layouts u others leads) in
    let pages = leads.before.layouts_of.pages s.group (omega (arith, leads.before.groups, inside)) in
    before_of law s t layouts agino old (inode_in (group_at t s.group) agino) pages.1 place.0 sector refl (had_some s d t layouts u others agino bytes inside leads after no_chunk)
