-- A change that adds a chunk and makes its first inode takes a state to its group of the next table.
use Rattle.std.proofs.Common.{◌≡◌, ◌≢◌, ◌*◌, ◌+◌, ◌%◌, ℕ, false, List, Some, None, Option, inl, inr, refl, ap, sym, subst, ◌∙◌, arith}
use Rattle.std.specs.Prelude.{IfSome, IsSomeAnd, slice_get}
use Rattle.std.specs.Ordering.{nat_cmp}
use Rattle.std.specs.FinMap.{FinMap, get, insert}
use Rattle.std.proofs.lemmas.Bool.{cases_eq}
use Rattle.std.proofs.lemmas.Option.{none-some, same_Some}
use Rattle.life_limits.specs.declared.TheConstants.{BLOCK_SECTORS, CHUNK_INODES}
use Rattle.life_bytes.specs.declared.sector.Sector.{Sector}
use Rattle.inode_cache.specs.declared.inode.Incore.{Incore}
use Rattle.inode_cache.specs.declared.inode.Kept.{Kept}
use Rattle.inode_cache.specs.Caches.{dirty, is_dirty}
use Rattle.inode_cache.specs.Inodes.{incore_encoding}
use Rattle.life_table.specs.declared.table.Inode.{Inode}
use Rattle.life_table.specs.declared.table.Table.{Table}
use Rattle.life_table.specs.Space.{insert_chunk, new_chunk, row_blocks}
use Rattle.life_table.specs.Table.{Group, group_at, inode_in, set_inode, start_of}
use Rattle.sound_image.specs.Encoding.{CanEncode, Layouts, core_for, page_of}
use Rattle.group_space.specs.Space.{IsSpaceOf, changed_space}
use Rattle.group_ops.specs.declared.delta.Prior.{Prior}
use Rattle.group_ops.specs.declared.delta.Delta.{Delta}
use Rattle.group_ops.specs.Buffers.{Buffers, buffer_in}
use Rattle.group_ops.specs.Changes.{changed_state, insert_buffers, with_chunk, with_prior, with_prior_buffer}
use Rattle.group_ops.specs.Creating.{AreUnused, unused_incore}
use Rattle.group_ops.specs.Relinks.{IsApart, Relinks, next_of}
use Rattle.group_ops.specs.Represents.{HasInode, IsGroupOf, incore_for}
use Rattle.group_ops.specs.Values.{StateValue, kept_at}
use Rattle.group_ops.proofs.Changed.{kept_other, kept_same}
use Rattle.group_ops.proofs.OneChunkMore.{ChunkStarts, IsAbsent, Starts, buffer_of_new, buffer_of_others, inode_before, inode_of_new, inode_of_others, new_start, starts_more, unused, unused_there}
use Rattle.group_ops.proofs.SetInodes.{inode_other, inode_same, starts_stay}
use Rattle.group_ops.proofs.Told.{blank}

-- ---- what is added, apart from the change

pub record Adds (s : StateValue) (d : Delta) (t : Table) (layouts : Layouts) (u : Table) (others : Layouts) (block : ℕ) (new : Inode) (chunk : Buffers) : Type 0 where
  pub before : IsGroupOf s t layouts
  pub can : CanEncode s.geometry u others (blank s.geometry)
  pub first : d.agino ≡ block * BLOCK_SECTORS
  pub aligned : block % 8 ≡ 0
  pub absent : IsAbsent (block * BLOCK_SECTORS) (group_at t s.group)
  pub group : group_at u s.group ≡ set_inode (insert_chunk (new_chunk block) (group_at t s.group)) d.agino new
  pub page : page_of others s.group ≡ page_of layouts s.group
  pub relinks : Relinks s t layouts others d.agino d.head d.prior
  pub own : d.inode ≡ incore_for others s.group d.agino new
  pub space : IsSpaceOf s.geometry.blocks (group_at u s.group) (changed_space s.space d.space)
  pub prior : d.prior ≡ None
  pub chunk_is : d.chunk ≡ Some chunk
  pub unused_all : AreUnused s.group s.geometry.uuid (block * BLOCK_SECTORS) chunk

-- the parts of the state after it
buffers_are : (s : StateValue) (d : Delta) (chunk : Buffers) → d.prior ≡ None → d.chunk ≡ Some chunk → (changed_state s d).buffers ≡ insert_buffers chunk s.buffers
unfolding changed_state
buffers_are s d chunk prior at =
    ap (λ (o : Option Prior). with_chunk (with_prior_buffer s.in_core s.buffers o) d.chunk) prior ∙ ap (λ (o : Option Buffers). with_chunk s.buffers o) at

in_core_are : (s : StateValue) (d : Delta) → d.prior ≡ None → (changed_state s d).in_core ≡ insert s.in_core d.agino (dirty d.inode)
unfolding changed_state
in_core_are s d prior = ap (λ (o : Option Prior). insert (with_prior s.in_core o) d.agino (dirty d.inode)) prior

kept_own : (s : StateValue) (d : Delta) → d.prior ≡ None → kept_at (changed_state s d) d.agino ≡ Some (dirty d.inode)
kept_own s d prior = ap (λ (m : FinMap nat_cmp Kept). get m d.agino) (in_core_are s d prior) ∙ kept_same s.in_core d.agino (dirty d.inode)

kept_apart : (s : StateValue) (d : Delta) (agino : ℕ) → d.prior ≡ None → agino ≢ d.agino → kept_at (changed_state s d) agino ≡ kept_at s agino
kept_apart s d agino prior apart =
    ap (λ (m : FinMap nat_cmp Kept). get m agino) (in_core_are s d prior) ∙ kept_other s.in_core d.agino agino (dirty d.inode) apart

-- an inode by what is in core and in its buffer
has_by : (v : StateValue) (group : ℕ) (uuid : List ℕ) (agino : ℕ) (inode : Incore) (kept : Option Kept) (buffer : Option Sector) → v.group ≡ group → v.geometry.uuid ≡ uuid
    → kept_at v agino ≡ kept → buffer_in v.buffers agino ≡ buffer
    → IfSome kept (λ k. k.inode ≡ inode) → IsSomeAnd buffer (λ sector. is_dirty kept ≡ false → sector.bytes ≡ incore_encoding group uuid agino inode) → HasInode v agino inode
has_by v group uuid agino inode kept buffer g u k b there held = record {
  in_core = subst (λ (o : Option Kept). IfSome o (λ x. x.inode ≡ inode)) (sym k) there;
  buffer =
      subst (λ (p : Option Sector). IsSomeAnd p (λ sector. is_dirty (kept_at v agino) ≡ false → sector.bytes ≡ incore_encoding v.group v.geometry.uuid agino inode)) (sym b)
      (subst (λ (o : Option Kept). IsSomeAnd buffer (λ sector. is_dirty o ≡ false → sector.bytes ≡ incore_encoding v.group v.geometry.uuid agino inode)) (sym k)
      (subst (λ (n : ℕ). IsSomeAnd buffer (λ sector. is_dirty kept ≡ false → sector.bytes ≡ incore_encoding n v.geometry.uuid agino inode)) (sym g)
      (subst (λ (l : List ℕ). IsSomeAnd buffer (λ sector. is_dirty kept ≡ false → sector.bytes ≡ incore_encoding group l agino inode)) (sym u) held)));
}

weaker : {X : Type 0} {P Q : X → Type 0} (o : Option X) → IsSomeAnd o P → ((x : X) → P x → Q x) → IsSomeAnd o Q
weaker None is f = absurd is
weaker (Some x) is f = f x is

unused_is : (others : Layouts) (group agino : ℕ) → unused_incore ≡ incore_for others group agino unused
unfolding core_for
unused_is others group agino = refl

-- a place of the new chunk
in_new : (block agino : ℕ) → block % 8 ≡ 0 → block * BLOCK_SECTORS ≡ start_of agino → block * BLOCK_SECTORS + agino % CHUNK_INODES ≡ agino
in_new block agino aligned e = omega (arith, e)

first_in : (block : ℕ) → block % 8 ≡ 0 → block * BLOCK_SECTORS ≡ start_of (block * BLOCK_SECTORS)
first_in block aligned = omega (arith, aligned)

-- the buffer of a number of the new chunk
new_buffer : (s : StateValue) (d : Delta) (t : Table) (layouts : Layouts) (u : Table) (others : Layouts) (block : ℕ) (new : Inode) (chunk : Buffers) (agino : ℕ)
    → Adds s d t layouts u others block new chunk → block * BLOCK_SECTORS ≡ start_of agino → buffer_in (changed_state s d).buffers agino ≡ slice_get chunk.sectors (agino % CHUNK_INODES)
new_buffer s d t layouts u others block new chunk agino a e =
    ap (λ (l : List Buffers). buffer_in l agino) (buffers_are s d chunk a.prior a.chunk_is)
    ∙ buffer_of_new chunk s.buffers (group_at t s.group) agino a.before.starts (subst (λ (n : ℕ). IsAbsent n (group_at t s.group)) (sym a.unused_all.at) a.absent) (a.unused_all.at ∙ e)

-- the inode that is made
own_has : (s : StateValue) (d : Delta) (t : Table) (layouts : Layouts) (u : Table) (others : Layouts) (block : ℕ) (new : Inode) (chunk : Buffers)
    → Adds s d t layouts u others block new chunk → HasInode (changed_state s d) d.agino (incore_for others s.group d.agino new)
unfolding changed_state
own_has s d t layouts u others block new chunk a =
    let e : block * BLOCK_SECTORS ≡ start_of d.agino = first_in block a.aligned ∙ ap start_of (sym a.first) in
    has_by (changed_state s d) s.group s.geometry.uuid d.agino (incore_for others s.group d.agino new) (Some (dirty d.inode)) (slice_get chunk.sectors (d.agino % CHUNK_INODES)) refl refl
    (kept_own s d a.prior) (new_buffer s d t layouts u others block new chunk d.agino a e) a.own
    (weaker (slice_get chunk.sectors (d.agino % CHUNK_INODES)) (a.unused_all.each (d.agino % CHUNK_INODES) (omega arith)) (λ x p f. cc))

-- another inode of the new chunk
beside_has : (s : StateValue) (d : Delta) (t : Table) (layouts : Layouts) (u : Table) (others : Layouts) (block : ℕ) (new : Inode) (chunk : Buffers) (agino : ℕ) (inode : Inode)
    → Adds s d t layouts u others block new chunk → agino ≢ d.agino → block * BLOCK_SECTORS ≡ start_of agino
    → inode_in (insert_chunk (new_chunk block) (group_at t s.group)) agino ≡ Some inode → HasInode (changed_state s d) agino (incore_for others s.group agino inode)
unfolding changed_state
beside_has s d t layouts u others block new chunk agino inode a apart e at =
    let absent : IsAbsent (new_chunk block).start (group_at t s.group) = subst (λ (n : ℕ). IsAbsent n (group_at t s.group)) (sym (new_start block)) a.absent in
    let is : unused ≡ inode = same_Some unused inode (sym (unused_there block agino) ∙ sym (inode_of_new (new_chunk block) (group_at t s.group) agino absent (new_start block ∙ e)) ∙ at) in
    let none : kept_at s agino ≡ None = a.before.only agino (inode_before (block * BLOCK_SECTORS) (group_at t s.group) agino a.absent e) in
    subst (λ (i : Inode). HasInode (changed_state s d) agino (incore_for others s.group agino i)) is
    (has_by (changed_state s d) s.group s.geometry.uuid agino (incore_for others s.group agino unused) None (slice_get chunk.sectors (agino % CHUNK_INODES)) refl refl
    (kept_apart s d agino a.prior apart ∙ none) (new_buffer s d t layouts u others block new chunk agino a e) tt
    (weaker (slice_get chunk.sectors (agino % CHUNK_INODES)) (a.unused_all.each (agino % CHUNK_INODES) (omega arith)) (λ x p f.
    p ∙ ap (λ (n : ℕ). incore_encoding s.group s.geometry.uuid n unused_incore) (in_new block agino a.aligned e)
    ∙ ap (λ (i : Incore). incore_encoding s.group s.geometry.uuid agino i) (unused_is others s.group agino))))

incore_same : (layouts others : Layouts) (group agino : ℕ) (inode : Inode) → next_of others group agino ≡ next_of layouts group agino
    → incore_for others group agino inode ≡ incore_for layouts group agino inode
incore_same layouts others group agino inode e =
    ap (λ (n : ℕ). let i : Incore = record { core = core_for inode.generation inode.row n; blocks = row_blocks inode.row } in i) e

-- an inode of another chunk
far_has : (s : StateValue) (d : Delta) (t : Table) (layouts : Layouts) (u : Table) (others : Layouts) (block : ℕ) (new : Inode) (chunk : Buffers) (agino : ℕ) (inode : Inode)
    → Adds s d t layouts u others block new chunk → agino ≢ d.agino → block * BLOCK_SECTORS ≢ start_of agino
    → inode_in (insert_chunk (new_chunk block) (group_at t s.group)) agino ≡ Some inode → HasInode (changed_state s d) agino (incore_for others s.group agino inode)
unfolding changed_state
far_has s d t layouts u others block new chunk agino inode a other far at =
    let was : inode_in (group_at t s.group) agino ≡ Some inode =
    sym (inode_of_others (new_chunk block) (group_at t s.group) agino (λ e. far (sym (new_start block) ∙ e))) ∙ at in
    let has = a.before.inodes agino inode was in
    let apart : IsApart d.prior agino = subst (λ (o : Option Prior). IsApart o agino) (sym a.prior) tt in
    subst (λ (i : Incore). HasInode (changed_state s d) agino i) (sym (incore_same layouts others s.group agino inode (a.relinks.apart agino other apart)))
    (has_by (changed_state s d) s.group s.geometry.uuid agino (incore_for layouts s.group agino inode) (kept_at s agino) (buffer_in s.buffers agino) refl refl
    (kept_apart s d agino a.prior other)
    (ap (λ (l : List Buffers). buffer_in l agino) (buffers_are s d chunk a.prior a.chunk_is)
    ∙ buffer_of_others chunk s.buffers agino (λ e. far (sym a.unused_all.at ∙ e)))
    has.in_core has.buffer)

-- ---- all of them

made_at : (s : StateValue) (d : Delta) (t : Table) (layouts : Layouts) (u : Table) (others : Layouts) (block : ℕ) (new : Inode) (chunk : Buffers)
    → Adds s d t layouts u others block new chunk → inode_in (set_inode (insert_chunk (new_chunk block) (group_at t s.group)) d.agino new) d.agino ≡ Some new
made_at s d t layouts u others block new chunk a =
    let e : block * BLOCK_SECTORS ≡ start_of d.agino = first_in block a.aligned ∙ ap start_of (sym a.first) in
    let absent : IsAbsent (new_chunk block).start (group_at t s.group) = subst (λ (n : ℕ). IsAbsent n (group_at t s.group)) (sym (new_start block)) a.absent in
    inode_same (insert_chunk (new_chunk block) (group_at t s.group)) d.agino unused new
    (inode_of_new (new_chunk block) (group_at t s.group) d.agino absent (new_start block ∙ e) ∙ unused_there block d.agino)

all_have : (s : StateValue) (d : Delta) (t : Table) (layouts : Layouts) (u : Table) (others : Layouts) (block : ℕ) (new : Inode) (chunk : Buffers) (agino : ℕ) (inode : Inode)
    → Adds s d t layouts u others block new chunk → inode_in (group_at u s.group) agino ≡ Some inode → HasInode (changed_state s d) agino (incore_for others s.group agino inode)
all_have s d t layouts u others block new chunk agino inode a at =
    let wide : Group = insert_chunk (new_chunk block) (group_at t s.group) in
    let now = ap (λ (cs : Group). inode_in cs agino) (sym a.group) ∙ at in
    elim (cases_eq agino d.agino) [
      | inl own ↦
          let here : new ≡ inode =
          same_Some new inode (sym (made_at s d t layouts u others block new chunk a) ∙ ap (λ (n : ℕ). inode_in (set_inode wide d.agino new) n) (sym own) ∙ now) in
          subst (λ (n : ℕ). HasInode (changed_state s d) n (incore_for others s.group n inode)) (sym own)
          (subst (λ (i : Inode). HasInode (changed_state s d) d.agino (incore_for others s.group d.agino i)) here (own_has s d t layouts u others block new chunk a))
      | inr other ↦
          let was : inode_in wide agino ≡ Some inode = sym (inode_other wide d.agino agino new (λ e. other (sym e))) ∙ now in
          elim (cases_eq (block * BLOCK_SECTORS) (start_of agino)) [
            | inl near ↦ beside_has s d t layouts u others block new chunk agino inode a other near was
            | inr far ↦ far_has s d t layouts u others block new chunk agino inode a other far was
          ]
    ]

none_kept : (s : StateValue) (d : Delta) (t : Table) (layouts : Layouts) (u : Table) (others : Layouts) (block : ℕ) (new : Inode) (chunk : Buffers) (agino : ℕ)
    → Adds s d t layouts u others block new chunk → inode_in (group_at u s.group) agino ≡ None → kept_at (changed_state s d) agino ≡ None
none_kept s d t layouts u others block new chunk agino a gone =
    let wide : Group = insert_chunk (new_chunk block) (group_at t s.group) in
    let now = ap (λ (cs : Group). inode_in cs agino) (sym a.group) ∙ gone in
    elim (cases_eq agino d.agino) [
      | inl own ↦ absurd (none-some new (sym now ∙ ap (λ (n : ℕ). inode_in (set_inode wide d.agino new) n) own ∙ made_at s d t layouts u others block new chunk a))
      | inr other ↦
          let was : inode_in wide agino ≡ None = sym (inode_other wide d.agino agino new (λ e. other (sym e))) ∙ now in
          let absent : IsAbsent (new_chunk block).start (group_at t s.group) = subst (λ (n : ℕ). IsAbsent n (group_at t s.group)) (sym (new_start block)) a.absent in
          elim (cases_eq (block * BLOCK_SECTORS) (start_of agino)) [
            | inl near ↦
                absurd (none-some unused (sym was ∙ inode_of_new (new_chunk block) (group_at t s.group) agino absent (new_start block ∙ near) ∙ unused_there block agino))
            | inr far ↦
                kept_apart s d agino a.prior other
                ∙ a.before.only agino (sym (inode_of_others (new_chunk block) (group_at t s.group) agino (λ e. far (sym (new_start block) ∙ e))) ∙ was)
          ]
    ]

pub added : (s : StateValue) (d : Delta) (t : Table) (layouts : Layouts) (u : Table) (others : Layouts) (block : ℕ) (new : Inode) (chunk : Buffers)
    → Adds s d t layouts u others block new chunk → IsGroupOf (changed_state s d) u others
unfolding changed_state
added s d t layouts u others block new chunk a = record {
  table = a.can.table;
  layouts_of = a.can.layouts_of;
  groups = a.can.groups;
  blocks = a.can.blocks;
  page = a.before.page ∙ sym a.page;
  heads = a.relinks.heads;
  space = a.space;
  starts =
      ap Starts (buffers_are s d chunk a.prior a.chunk_is)
      ∙ starts_more chunk (new_chunk block) s.buffers (group_at t s.group) (a.unused_all.at ∙ sym (new_start block)) a.before.starts
      ∙ sym (starts_stay (insert_chunk (new_chunk block) (group_at t s.group)) d.agino new)
      ∙ ap ChunkStarts (sym a.group);
  inodes = λ agino inode at. all_have s d t layouts u others block new chunk agino inode a at;
  only = λ agino gone. none_kept s d t layouts u others block new chunk agino a gone;
}
