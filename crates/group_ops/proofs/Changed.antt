-- A change of one inode takes a state to its group of the next table.
use Rattle.std.proofs.Common.{◌≡◌, ◌≢◌, ℕ, false, List, Some, None, Option, map, inl, inr, refl, ap, sym, subst, ◌∙◌, arith}
use Rattle.std.specs.Prelude.{IfSome, IsSomeAnd, nat_eq}
use Rattle.std.specs.Cmp.{nat_cmp_total, unsigned_tied}
use Rattle.std.specs.FinMap.{FinMap, get, insert, get-insert}
use Rattle.std.specs.Ordering.{nat_cmp, eq_by_cmp}
use Rattle.std.proofs.lemmas.Bool.{cases_eq, eq-eqb, ne_eqb, cond-true, cond-false}
use Rattle.std.proofs.lemmas.Bool.Decides.{nat_tests}
use Rattle.std.proofs.lemmas.Option.{none-some}
use Rattle.life_bytes.specs.declared.sector.Sector.{Sector}
use Rattle.geometry.specs.declared.shape.Geometry.{Geometry}
use Rattle.inode_cache.specs.declared.inode.Incore.{Incore}
use Rattle.inode_cache.specs.declared.inode.Kept.{Kept}
use Rattle.inode_cache.specs.Caches.{dirty, is_dirty}
use Rattle.inode_cache.specs.Inodes.{incore_encoding}
use Rattle.inode_core.specs.declared.shape.Core.{Core}
use Rattle.life_table.specs.declared.types.Row.{Row}
use Rattle.life_table.specs.declared.table.Inode.{Inode}
use Rattle.life_table.specs.declared.table.Chunk.{Chunk}
use Rattle.life_table.specs.declared.table.Table.{Table}
use Rattle.life_table.specs.Space.{row_blocks}
use Rattle.life_table.specs.Table.{Group, group_at, inode_in, set_inode}
use Rattle.sound_image.specs.Encoding.{CanEncode, Layouts, core_for, page_of}
use Rattle.group_space.specs.Space.{IsSpaceOf, changed_space}
use Rattle.group_ops.specs.declared.delta.Prior.{Prior}
use Rattle.group_ops.specs.declared.delta.Delta.{Delta}
use Rattle.group_ops.specs.Buffers.{Buffers, buffer_in}
use Rattle.group_ops.specs.Changes.{buffer_of_prior, changed_state, core_of_prior, with_chunk, with_prior, with_prior_buffer}
use Rattle.group_ops.specs.Relinks.{IsApart, IsPrior, Relinks, next_of}
use Rattle.group_ops.specs.Represents.{HasInode, IsGroupOf, incore_for}
use Rattle.group_ops.specs.Values.{StateValue, kept_at}
use Rattle.group_ops.proofs.Setting.{set_other, set_same, set_starts}
use Rattle.group_ops.proofs.SetInodes.{inode_other, inode_same, starts_stay}
use Rattle.group_ops.proofs.Told.{blank}

-- ---- what is in core

turned : (k q : ℕ) → nat_eq k q ≡ eq_by_cmp nat_cmp q k
turned k q = grind (arith, nat_tests, unsigned_tied)

pub kept_same : (m : FinMap nat_cmp Kept) (k : ℕ) (v : Kept) → get (insert m k v) k ≡ Some v
kept_same m k v = get-insert nat_cmp_total m k v k ∙ cond-true (eq_by_cmp nat_cmp k k) (Some v) (get m k) (sym (turned k k) ∙ eq-eqb k k refl)

pub kept_other : (m : FinMap nat_cmp Kept) (k q : ℕ) (v : Kept) → q ≢ k → get (insert m k v) q ≡ get m q
kept_other m k q v apart =
    get-insert nat_cmp_total m k v q ∙ cond-false (eq_by_cmp nat_cmp q k) (Some v) (get m q) (sym (turned k q) ∙ ne_eqb k q (λ e. apart (sym e)))

-- ---- one inode by what is in core and in its buffer

abbrev Has : ℕ → List ℕ → ℕ → Option Kept → Option Sector → Incore → Type 0
Has group uuid agino kept buffer inode =
    IfSome kept (λ k. k.inode ≡ inode) × IsSomeAnd buffer (λ sector. is_dirty kept ≡ false → sector.bytes ≡ incore_encoding group uuid agino inode)

has_by : (s : StateValue) (agino : ℕ) (inode : Incore) (kept : Option Kept) (buffer : Option Sector) → kept_at s agino ≡ kept → buffer_in s.buffers agino ≡ buffer
    → Has s.group s.geometry.uuid agino kept buffer inode → HasInode s agino inode
has_by s agino inode kept buffer k b has = record {
  in_core = subst (λ (o : Option Kept). IfSome o (λ x. x.inode ≡ inode)) (sym k) has.0;
  buffer =
      subst (λ (p : Option Sector). IsSomeAnd p (λ sector. is_dirty (kept_at s agino) ≡ false → sector.bytes ≡ incore_encoding s.group s.geometry.uuid agino inode)) (sym b)
      (subst (λ (o : Option Kept). IsSomeAnd buffer (λ sector. is_dirty o ≡ false → sector.bytes ≡ incore_encoding s.group s.geometry.uuid agino inode)) (sym k) has.1);
}

weaker : {X : Type 0} {P Q : X → Type 0} (o : Option X) → IsSomeAnd o P → ((x : X) → P x → Q x) → IsSomeAnd o Q
weaker None is f = absurd is
weaker (Some x) is f = f x is

-- a dirty inode in core is all that is told of it, where there is a buffer
has_dirty : (group : ℕ) (uuid : List ℕ) (agino : ℕ) (now inode : Incore) (buffer : Option Sector) (P : Sector → Type 0) → now ≡ inode → IsSomeAnd buffer P
    → Has group uuid agino (Some (dirty now)) buffer inode
has_dirty group uuid agino now inode buffer P same is = (same, weaker buffer is (λ x p e. cc))

core_same : (generation : ℕ) (row : Option Row) (first second : ℕ) → first ≡ second → core_for generation row first ≡ core_for generation row second
core_same generation row first second e = ap (λ (n : ℕ). core_for generation row n) e

-- an inode in core of other layouts, that give it the same pointer
incore_same : (layouts others : Layouts) (group agino : ℕ) (inode : Inode) → next_of others group agino ≡ next_of layouts group agino
    → incore_for others group agino inode ≡ incore_for layouts group agino inode
incore_same layouts others group agino inode e =
    ap (λ (core : Core). let i : Incore = record { core = core; blocks = row_blocks inode.row } in i) (core_same inode.generation inode.row (next_of others group agino) (next_of layouts group agino) e)

-- ---- one inode of a state's group comes to be another

pub record Changes (s : StateValue) (d : Delta) (t : Table) (layouts : Layouts) (u : Table) (others : Layouts) (old new : Inode) : Type 0 where
  pub before : IsGroupOf s t layouts
  pub can : CanEncode s.geometry u others (blank s.geometry)
  pub found : inode_in (group_at t s.group) d.agino ≡ Some old
  pub group : group_at u s.group ≡ set_inode (group_at t s.group) d.agino new
  pub page : page_of others s.group ≡ page_of layouts s.group
  pub relinks : Relinks s t layouts others d.agino d.head d.prior
  pub own : d.inode ≡ incore_for others s.group d.agino new
  pub space : IsSpaceOf s.geometry.blocks (group_at u s.group) (changed_space s.space d.space)
  pub no_chunk : d.chunk ≡ None

abbrev Starts : List Buffers → List ℕ
Starts buffers = map (λ (chunk : Buffers). chunk.start) buffers

prior_starts_of : (buffers : List Buffers) (prior : Prior) (o : Option Kept) → Starts (buffer_of_prior buffers prior o) ≡ Starts buffers
prior_starts_of buffers prior None = set_starts buffers prior.agino prior.sector
prior_starts_of buffers prior (Some kept) = refl

prior_starts : (in_core : FinMap nat_cmp Kept) (buffers : List Buffers) (prior : Option Prior) → Starts (with_prior_buffer in_core buffers prior) ≡ Starts buffers
prior_starts in_core buffers None = refl
prior_starts in_core buffers (Some prior) = prior_starts_of buffers prior (get in_core prior.agino)

-- a number that is not that of the inode before stays as it is
apart_buffer_of : (buffers : List Buffers) (prior : Prior) (o : Option Kept) (agino : ℕ) → agino ≢ prior.agino → buffer_in (buffer_of_prior buffers prior o) agino ≡ buffer_in buffers agino
apart_buffer_of buffers prior None agino apart = set_other buffers prior.agino agino prior.sector (λ e. apart (sym e))
apart_buffer_of buffers prior (Some kept) agino apart = refl

apart_buffer : (in_core : FinMap nat_cmp Kept) (buffers : List Buffers) (prior : Option Prior) (agino : ℕ) → IsApart prior agino
    → buffer_in (with_prior_buffer in_core buffers prior) agino ≡ buffer_in buffers agino
apart_buffer in_core buffers None agino apart = refl
apart_buffer in_core buffers (Some prior) agino apart = apart_buffer_of buffers prior (get in_core prior.agino) agino apart

apart_kept_of : (in_core : FinMap nat_cmp Kept) (prior : Prior) (o : Option Kept) (agino : ℕ) → agino ≢ prior.agino → get (core_of_prior in_core prior o) agino ≡ get in_core agino
apart_kept_of in_core prior None agino apart = refl
apart_kept_of in_core prior (Some kept) agino apart = kept_other in_core prior.agino agino (dirty (record { core = prior.core; blocks = kept.inode.blocks })) apart

apart_kept : (in_core : FinMap nat_cmp Kept) (prior : Option Prior) (agino : ℕ) → IsApart prior agino → get (with_prior in_core prior) agino ≡ get in_core agino
apart_kept in_core None agino apart = refl
apart_kept in_core (Some prior) agino apart = apart_kept_of in_core prior (get in_core prior.agino) agino apart

-- the inode itself is apart from the one before it
own_apart : (s : StateValue) (t : Table) (layouts others : Layouts) (agino : ℕ) (prior : Option Prior) → IfSome prior (IsPrior s t layouts others agino) → IsApart prior agino
own_apart s t layouts others agino None is = tt
own_apart s t layouts others agino (Some prior) is = λ e. is.other (sym e)

-- the buffers after the change
buffers_after : (s : StateValue) (d : Delta) (agino : ℕ) → d.chunk ≡ None → buffer_in (changed_state s d).buffers agino ≡ buffer_in (with_prior_buffer s.in_core s.buffers d.prior) agino
unfolding changed_state
buffers_after s d agino none = ap (λ (o : Option Buffers). buffer_in (with_chunk (with_prior_buffer s.in_core s.buffers d.prior) o) agino) none

kept_own : (s : StateValue) (d : Delta) → kept_at (changed_state s d) d.agino ≡ Some (dirty d.inode)
unfolding changed_state
kept_own s d = kept_same (with_prior s.in_core d.prior) d.agino (dirty d.inode)

kept_apart : (s : StateValue) (d : Delta) (agino : ℕ) → agino ≢ d.agino → kept_at (changed_state s d) agino ≡ get (with_prior s.in_core d.prior) agino
unfolding changed_state
kept_apart s d agino apart = kept_other (with_prior s.in_core d.prior) d.agino agino (dirty d.inode) apart

-- the changed inode
own_has : (s : StateValue) (d : Delta) (t : Table) (layouts : Layouts) (u : Table) (others : Layouts) (old new : Inode) → Changes s d t layouts u others old new
    → HasInode (changed_state s d) d.agino (incore_for others s.group d.agino new)
unfolding changed_state
own_has s d t layouts u others old new c =
    has_by (changed_state s d) d.agino (incore_for others s.group d.agino new) (Some (dirty d.inode)) (buffer_in s.buffers d.agino) (kept_own s d)
    (buffers_after s d d.agino c.no_chunk ∙ apart_buffer s.in_core s.buffers d.prior d.agino (own_apart s t layouts others d.agino d.prior c.relinks.before))
    (has_dirty s.group s.geometry.uuid d.agino d.inode (incore_for others s.group d.agino new) (buffer_in s.buffers d.agino) _ c.own (c.before.inodes d.agino old c.found).buffer)

-- an inode that is neither the changed one nor the one before it
apart_has : (s : StateValue) (d : Delta) (t : Table) (layouts : Layouts) (u : Table) (others : Layouts) (old new : Inode) (agino : ℕ) (inode : Inode) → Changes s d t layouts u others old new
    → agino ≢ d.agino → IsApart d.prior agino → inode_in (group_at t s.group) agino ≡ Some inode → HasInode (changed_state s d) agino (incore_for others s.group agino inode)
unfolding changed_state
apart_has s d t layouts u others old new agino inode c other apart at =
    let has = c.before.inodes agino inode at in
    subst (λ (i : Incore). HasInode (changed_state s d) agino i) (sym (incore_same layouts others s.group agino inode (c.relinks.apart agino other apart)))
    (has_by (changed_state s d) agino (incore_for layouts s.group agino inode) (kept_at s agino) (buffer_in s.buffers agino)
    (kept_apart s d agino other ∙ apart_kept s.in_core d.prior agino apart)
    (buffers_after s d agino c.no_chunk ∙ apart_buffer s.in_core s.buffers d.prior agino apart)
    (has.in_core, has.buffer))

-- the inode before the changed one, by whether it is in core
prior_by : (s : StateValue) (layouts others : Layouts) (prior : Prior) (inode : Inode) (o : Option Kept) (v : StateValue) → v.group ≡ s.group → v.geometry ≡ s.geometry
    → prior.core ≡ (incore_for others s.group prior.agino inode).core
    → prior.sector.bytes ≡ incore_encoding s.group s.geometry.uuid prior.agino (incore_for others s.group prior.agino inode)
    → Has s.group s.geometry.uuid prior.agino o (buffer_in s.buffers prior.agino) (incore_for layouts s.group prior.agino inode)
    → get s.in_core prior.agino ≡ o
    → kept_at v prior.agino ≡ get (core_of_prior s.in_core prior o) prior.agino → buffer_in v.buffers prior.agino ≡ buffer_in (buffer_of_prior s.buffers prior o) prior.agino
    → HasInode v prior.agino (incore_for others s.group prior.agino inode)
prior_by s layouts others prior inode None v own geometry core sector has was kept buffer =
    let place = some_of (buffer_in s.buffers prior.agino) _ has.1 in
    has_by v prior.agino (incore_for others s.group prior.agino inode) None (Some prior.sector) (kept ∙ was)
    (buffer ∙ set_same s.buffers prior.agino place.0 prior.sector place.1) (
      tt,
      λ _. sector ∙ ap (λ (g : ℕ). incore_encoding g s.geometry.uuid prior.agino (incore_for others s.group prior.agino inode)) (sym own)
          ∙ ap (λ (g : Geometry). incore_encoding v.group g.uuid prior.agino (incore_for others s.group prior.agino inode)) (sym geometry),
    )
  where
    some_of : {X : Type 0} (b : Option X) (P : X → Type 0) → IsSomeAnd b P → (x : X) × (b ≡ Some x)
    some_of None P is = absurd is
    some_of (Some x) P is = (x, refl)
prior_by s layouts others prior inode (Some k) v own geometry core sector has was kept buffer =
    let blocks : k.inode.blocks ≡ row_blocks inode.row = ap (λ (i : Incore). i.blocks) has.0 in
    let now : Incore = record { core = prior.core; blocks = k.inode.blocks } in
    has_by v prior.agino (incore_for others s.group prior.agino inode) (Some (dirty now)) (buffer_in s.buffers prior.agino)
    (kept ∙ kept_same s.in_core prior.agino (dirty now)) buffer
    (has_dirty v.group v.geometry.uuid prior.agino now (incore_for others s.group prior.agino inode) (buffer_in s.buffers prior.agino) _
    (ap (λ (c : Core). let i : Incore = record { core = c; blocks = k.inode.blocks } in i) core
    ∙ ap (λ (b : List ℕ). let i : Incore = record { core = (incore_for others s.group prior.agino inode).core; blocks = b } in i) blocks)
    has.1)

-- the inode before the changed one
prior_has : (s : StateValue) (d : Delta) (t : Table) (layouts : Layouts) (u : Table) (others : Layouts) (old new : Inode) (prior : Prior) (inode : Inode) → Changes s d t layouts u others old new
    → d.prior ≡ Some prior → inode_in (group_at t s.group) prior.agino ≡ Some inode → HasInode (changed_state s d) prior.agino (incore_for others s.group prior.agino inode)
unfolding changed_state
prior_has s d t layouts u others old new prior inode c is at =
    let told : IsPrior s t layouts others d.agino prior = subst (λ (o : Option Prior). IfSome o (IsPrior s t layouts others d.agino)) is c.relinks.before in
    let same : told.inode ≡ inode = cc (told.found, at) in
    let has = c.before.inodes prior.agino inode at in
    prior_by s layouts others prior inode (get s.in_core prior.agino) (changed_state s d) refl refl
    (told.core ∙ ap (λ (i : Inode). (incore_for others s.group prior.agino i).core) same)
    (told.sector ∙ ap (λ (i : Inode). incore_encoding s.group s.geometry.uuid prior.agino (incore_for others s.group prior.agino i)) same)
    (has.in_core, has.buffer) refl
    (kept_apart s d prior.agino told.other ∙ ap (λ (o : Option Prior). get (with_prior s.in_core o) prior.agino) is)
    (buffers_after s d prior.agino c.no_chunk ∙ ap (λ (o : Option Prior). buffer_in (with_prior_buffer s.in_core s.buffers o) prior.agino) is)

-- each other inode
other_has : (s : StateValue) (d : Delta) (t : Table) (layouts : Layouts) (u : Table) (others : Layouts) (old new : Inode) (agino : ℕ) (inode : Inode) (o : Option Prior)
    → Changes s d t layouts u others old new → d.prior ≡ o → agino ≢ d.agino → inode_in (group_at t s.group) agino ≡ Some inode
    → HasInode (changed_state s d) agino (incore_for others s.group agino inode)
other_has s d t layouts u others old new agino inode None c is other at =
    apart_has s d t layouts u others old new agino inode c other (subst (λ (p : Option Prior). IsApart p agino) (sym is) tt) at
other_has s d t layouts u others old new agino inode (Some prior) c is other at =
    elim (cases_eq agino prior.agino) [
      | inl own ↦
          subst (λ (a : ℕ). HasInode (changed_state s d) a (incore_for others s.group a inode)) (sym own)
          (prior_has s d t layouts u others old new prior inode c is (ap (λ (a : ℕ). inode_in (group_at t s.group) a) (sym own) ∙ at))
      | inr apart ↦ apart_has s d t layouts u others old new agino inode c other (subst (λ (p : Option Prior). IsApart p agino) (sym is) apart) at
    ]

all_have : (s : StateValue) (d : Delta) (t : Table) (layouts : Layouts) (u : Table) (others : Layouts) (old new : Inode) (agino : ℕ) (inode : Inode) → Changes s d t layouts u others old new
    → inode_in (group_at u s.group) agino ≡ Some inode → HasInode (changed_state s d) agino (incore_for others s.group agino inode)
all_have s d t layouts u others old new agino inode c at =
    let now = ap (λ (cs : Group). inode_in cs agino) (sym c.group) ∙ at in
    elim (cases_eq agino d.agino) [
      | inl own ↦
          let here : new ≡ inode = cc (inode_same (group_at t s.group) d.agino old new c.found, ap (λ (a : ℕ). inode_in (set_inode (group_at t s.group) d.agino new) a) (sym own) ∙ now) in
          subst (λ (a : ℕ). HasInode (changed_state s d) a (incore_for others s.group a inode)) (sym own)
          (subst (λ (i : Inode). HasInode (changed_state s d) d.agino (incore_for others s.group d.agino i)) here (own_has s d t layouts u others old new c))
      | inr other ↦
          other_has s d t layouts u others old new agino inode d.prior c refl other (sym (inode_other (group_at t s.group) d.agino agino new (λ e. other (sym e))) ∙ now)
    ]

-- a number that no chunk has is not in core
none_kept : (s : StateValue) (d : Delta) (t : Table) (layouts : Layouts) (u : Table) (others : Layouts) (old new : Inode) (agino : ℕ) → Changes s d t layouts u others old new
    → inode_in (group_at u s.group) agino ≡ None → kept_at (changed_state s d) agino ≡ None
none_kept s d t layouts u others old new agino c gone =
    let now = ap (λ (cs : Group). inode_in cs agino) (sym c.group) ∙ gone in
    elim (cases_eq agino d.agino) [
      | inl own ↦ absurd (none-some new (sym now ∙ ap (λ (a : ℕ). inode_in (set_inode (group_at t s.group) d.agino new) a) own ∙ inode_same (group_at t s.group) d.agino old new c.found))
      | inr other ↦
          let was = sym (inode_other (group_at t s.group) d.agino agino new (λ e. other (sym e))) ∙ now in
          kept_apart s d agino other ∙ apart_kept s.in_core d.prior agino (prior_apart d.prior c.relinks.before was) ∙ c.before.only agino was
    ]
  where
    prior_apart : (o : Option Prior) → IfSome o (IsPrior s t layouts others d.agino) → inode_in (group_at t s.group) agino ≡ None → IsApart o agino
    prior_apart None is was = tt
    prior_apart (Some prior) is was = λ e. none-some is.inode (sym was ∙ ap (λ (a : ℕ). inode_in (group_at t s.group) a) e ∙ is.found)

pub changed : (s : StateValue) (d : Delta) (t : Table) (layouts : Layouts) (u : Table) (others : Layouts) (old new : Inode) → Changes s d t layouts u others old new
    → IsGroupOf (changed_state s d) u others
unfolding changed_state
changed s d t layouts u others old new c = record {
  table = c.can.table;
  layouts_of = c.can.layouts_of;
  groups = c.can.groups;
  blocks = c.can.blocks;
  page = c.before.page ∙ sym c.page;
  heads = c.relinks.heads;
  space = c.space;
  starts =
      ap (λ (o : Option Buffers). Starts (with_chunk (with_prior_buffer s.in_core s.buffers d.prior) o)) c.no_chunk
      ∙ prior_starts s.in_core s.buffers d.prior ∙ c.before.starts
      ∙ sym (starts_stay (group_at t s.group) d.agino new)
      ∙ ap (λ (cs : Group). map (λ (chunk : Chunk). chunk.start) cs) (sym c.group);
  inodes = λ agino inode at. all_have s d t layouts u others old new agino inode c at;
  only = λ agino gone. none_kept s d t layouts u others old new agino c gone;
}
