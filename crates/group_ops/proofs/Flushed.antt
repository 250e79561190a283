-- Buffers and inodes in core as a flush leaves them.
use Rattle.std.proofs.Common.{◌≡◌, ◌≢◌, ◌<◌, ◌≤◌, ◌+◌, ◌*◌, ◌/◌, ◌%◌, ℕ, zero, suc, Bool, true, false, cond, eqb, List, [], ◌∷◌, Option, None, Some, length, set, get_or, inl, inr, refl, ap, sym, ◌∙◌, arith, subst}
use Rattle.std.specs.Prelude.{IfSome, IsSome, IsSomeAnd, slice_get}
use Rattle.std.specs.List.{AllByRecursion}
use Rattle.std.specs.Option.{option_map}
use Rattle.std.specs.Ordering.{nat_cmp}
use Rattle.std.specs.FinMap as finmap
use Rattle.std.specs.FinMap.{FinMap}
use Rattle.std.proofs.lemmas.List.{get_or-set_same}
use Rattle.std.proofs.lemmas.Option.{none-some, slice_get-get_or}
use Rattle.std.proofs.lemmas.Bool.{cases_eq, cases_lt, cond-true, cond-false, eq-eqb, false≢true, ne_eqb}
use Rattle.life_bytes.specs.declared.sector.Sector.{Sector}
use Rattle.geometry.specs.Shape.{IsGeometry}
use Rattle.inode_cache.specs.declared.inode.Incore.{Incore}
use Rattle.inode_cache.specs.declared.inode.Kept.{Kept}
use Rattle.inode_cache.specs.Caches.{Cache, incore_at, is_dirty}
use Rattle.inode_cache.specs.Flush.{IsFlushed, cleaned, flushed_bytes, flushed_of}
use Rattle.inode_cache.specs.Inodes.{incore_encoding}
use Rattle.life_table.specs.declared.table.Inode.{Inode}
use Rattle.life_table.specs.declared.table.Table.{Table}
use Rattle.life_table.specs.Table.{Group, group_at, inode_in, start_of}
use Rattle.life_table.specs.WellFormed.{IsChunk}
use Rattle.sound_image.specs.Encoding.{Layouts, inode_sector}
use Rattle.group_ops.specs.Buffers.{AreBuffers, Buffers, BuffersAscend, buffer_in}
use Rattle.group_ops.specs.Flushing.{IsClusterFlush, IsFlush, IsFlushedIn, StaysIn, cache_in, flushed_in, flushed_sector, starts_of, with_flushed}
use Rattle.group_ops.specs.Represents.{HasInode, IsGroupOf, RepresentsGroup, incore_for}
use Rattle.group_ops.specs.Telling.{HasInodeAt}
use Rattle.group_ops.specs.Values.{StateValue, kept_at}
use Rattle.group_ops.proofs.Finding.{buffer_first, buffer_later}
use Rattle.group_ops.proofs.Incores.{PlacesStand, agino_small}
use Rattle.group_ops.proofs.Inodes.{inode_first, inode_later}
use Rattle.group_ops.proofs.Kept.{kept_is}
use Rattle.group_ops.proofs.Setting.{AreWhole}
use Rattle.group_ops.proofs.Standing.{at_number}
use Rattle.group_ops.proofs.Told.{chunks_of}

-- ---- a chunk's buffers

map_same : {X : Type 0} (f : X → X) (o : Option X) → ((x : X) → f x ≡ x) → option_map f o ≡ o
map_same f None same = refl
map_same f (Some x) same = ap Some (same x)

-- a number of another cluster keeps its buffer
pub flushed_other : (cluster : ℕ) (cache : Cache) (agino : ℕ) (sector : Sector) → agino / 32 ≢ cluster → flushed_in cluster cache agino sector ≡ sector
flushed_other cluster cache agino sector apart = cond-false (eqb (agino / 32) cluster) (flushed_sector cache agino sector) sector (ne_eqb (agino / 32) cluster apart)

pub flushed_own : (cluster : ℕ) (cache : Cache) (agino : ℕ) (sector : Sector) → agino / 32 ≡ cluster → flushed_in cluster cache agino sector ≡ flushed_sector cache agino sector
flushed_own cluster cache agino sector own = cond-true (eqb (agino / 32) cluster) (flushed_sector cache agino sector) sector (eq-eqb (agino / 32) cluster own)

-- the chunks with one whose buffers are others, each told by its number
pub chunk_flushed : (chunks : List Buffers) (k cluster : ℕ) (cache : Cache) (d new : Buffers) → BuffersAscend chunks → k < length chunks → (get_or chunks k d).start % 64 ≡ 0
    → new.start ≡ (get_or chunks k d).start → new.start ≤ cluster * 32 → cluster * 32 < new.start + 64
    → ((i : ℕ) → slice_get new.sectors i ≡ option_map (flushed_in cluster cache (new.start + i)) (slice_get (get_or chunks k d).sectors i))
    → (agino : ℕ) → buffer_in (set chunks k new) agino ≡ option_map (flushed_in cluster cache agino) (buffer_in chunks agino)
chunk_flushed [] k cluster cache d new ascends low aligned same from below each agino = absurd (omega arith)
chunk_flushed (c ∷ cs) zero cluster cache d new ascends low aligned same from below each agino =
    elim (cases_eq c.start (start_of agino)) [
      | inl e ↦
          let number : new.start + agino % 64 ≡ agino = omega (arith, e, same) in
          buffer_first new cs agino (same ∙ e) ∙ each (agino % 64)
          ∙ ap (λ (n : ℕ). option_map (flushed_in cluster cache n) (slice_get c.sectors (agino % 64))) number
          ∙ ap (option_map (flushed_in cluster cache agino)) (sym (buffer_first c cs agino e))
      | inr ne ↦
          let apart : agino / 32 ≢ cluster = λ e. ne (omega (arith, e, same, from, below, aligned)) in
          buffer_later new cs agino (λ e. ne (sym same ∙ e)) ∙ sym (buffer_later c cs agino ne)
          ∙ sym (map_same (flushed_in cluster cache agino) (buffer_in (c ∷ cs) agino) (λ sector. flushed_other cluster cache agino sector apart))
    ]
chunk_flushed (c ∷ cs) (suc k) cluster cache d new ascends low aligned same from below each agino =
    let up = ascends 0 (suc k) d (omega arith) low in
    let rest = chunk_flushed cs k cluster cache d new (λ i j x lt h. ascends (suc i) (suc j) x (omega arith) (omega arith)) (omega arith) aligned same from below each agino in
    elim (cases_eq c.start (start_of agino)) [
      | inl e ↦
          let apart : agino / 32 ≢ cluster = λ own. omega (arith, own, e, up, same, from, below, aligned) in
          buffer_first c (set cs k new) agino e ∙ sym (buffer_first c cs agino e)
          ∙ sym (map_same (flushed_in cluster cache agino) (buffer_in (c ∷ cs) agino) (λ sector. flushed_other cluster cache agino sector apart))
      | inr ne ↦
          buffer_later c (set cs k new) agino ne ∙ rest
          ∙ ap (option_map (flushed_in cluster cache agino)) (sym (buffer_later c cs agino ne))
    ]

pub starts_set : (chunks : List Buffers) (k : ℕ) (d new : Buffers) → new.start ≡ (get_or chunks k d).start → starts_of (set chunks k new) ≡ starts_of chunks
starts_set [] k d new same = refl
starts_set (c ∷ cs) zero d new same = ap (λ (n : ℕ). n ∷ starts_of cs) same
starts_set (c ∷ cs) (suc k) d new same = ap (λ (l : List ℕ). c.start ∷ l) (starts_set cs k d new same)

pub gone_some : (o : Option Sector) → o ≡ None → IsSome o → ⊥
gone_some None gone some = false≢true some
gone_some (Some x) gone some = cc

-- a chunk that was found, with other buffers
pub found_start : (chunks slice : List Buffers) (place agino : ℕ) (x : Buffers) → slice ≡ chunks → ((d : Buffers) → (get_or slice place d).start ≡ start_of agino) → x ≡ get_or chunks place x
    → x.start ≡ start_of agino
found_start chunks slice place agino x same found at =
    ap (λ (b : Buffers). b.start) at ∙ subst (λ (l : List Buffers). (get_or l place x).start ≡ start_of agino) same (found x)

pub found_flushed : (chunks slice : List Buffers) (place cluster : ℕ) (cache : Cache) (x new : Buffers) → slice ≡ chunks → BuffersAscend chunks → place < length slice
    → ((d : Buffers) → (get_or slice place d).start ≡ start_of (cluster * 32)) → x ≡ get_or chunks place x → new.start ≡ x.start
    → ((i : ℕ) → slice_get new.sectors i ≡ option_map (flushed_in cluster cache (x.start + i)) (slice_get x.sectors i))
    → (agino : ℕ) → buffer_in (set chunks place new) agino ≡ option_map (flushed_in cluster cache agino) (buffer_in chunks agino)
found_flushed chunks slice place cluster cache x new same ascends low found at start each agino =
    let own : x.start ≡ start_of (cluster * 32) = found_start chunks slice place (cluster * 32) x same found at in
    let here : (get_or chunks place x).start ≡ x.start = ap (λ (b : Buffers). b.start) (sym at) in
    chunk_flushed chunks place cluster cache x new ascends (subst (λ (l : List Buffers). place < length l) same low) (omega (arith, own, here)) (start ∙ sym here)
    (omega (arith, own, start)) (omega (arith, own, start))
    (λ i.
    each i ∙ ap (λ (n : ℕ). option_map (flushed_in cluster cache (n + i)) (slice_get x.sectors i)) (sym start)
    ∙ ap (λ (b : Buffers). option_map (flushed_in cluster cache (new.start + i)) (slice_get b.sectors i)) at)
    agino

pub starts_found : (chunks : List Buffers) (place : ℕ) (x new : Buffers) → x ≡ get_or chunks place x → new.start ≡ x.start → starts_of (set chunks place new) ≡ starts_of chunks
starts_found chunks place x new at start = starts_set chunks place x new (start ∙ ap (λ (b : Buffers). b.start) at)

whole_set : (chunks : List Buffers) (place : ℕ) (new : Buffers) → AreWhole chunks → AreBuffers new.start new.sectors → AreWhole (set chunks place new)
whole_set [] place new whole own = whole
whole_set (c ∷ cs) zero new whole own = first
  where
    first : AreWhole (new ∷ cs)
    first zero d low = own
    first (suc k) d low = whole (suc k) d (omega arith)
whole_set (c ∷ cs) (suc place) new whole own = behind (whole_set cs place new (λ k d low. whole (suc k) d (omega arith)) own)
  where
    behind : AreWhole (set cs place new) → AreWhole (c ∷ set cs place new)
    behind all zero d low = whole 0 c (omega arith)
    behind all (suc k) d low = all k d (omega arith)

pub whole_found : (chunks : List Buffers) (place : ℕ) (x new seen : Buffers) → AreWhole chunks → place < length chunks → seen ≡ get_or (set chunks place new) place seen → AreBuffers seen.start seen.sectors
    → AreWhole (set chunks place new)
whole_found chunks place x new seen whole low at are =
    let same : seen ≡ new = at ∙ get_or-set_same chunks place new seen low in
    whole_set chunks place new whole (subst (λ (b : Buffers). AreBuffers b.start b.sectors) same are)

some_of : (s : StateValue) (agino : ℕ) (inode : Incore) (b : Option Sector)
    → IsSomeAnd b (λ sector. is_dirty (kept_at s agino) ≡ false → sector.bytes ≡ incore_encoding s.group s.geometry.uuid agino inode) → IsSome b
some_of s agino inode None has = absurd has
some_of s agino inode (Some sector) has = refl

-- a number of a chunk has a buffer
pub buffer_there : (s : StateValue) (agino : ℕ) → HasInodeAt s agino → IsSome (buffer_in s.buffers agino)
buffer_there s agino has =
    let at = at_number s agino has in
    some_of s agino (incore_for at.layouts s.group agino at.inode) (buffer_in s.buffers agino) (at.is.inodes agino at.inode at.there).buffer

nothing_in : (agino : ℕ) → inode_in [] agino ≡ None
unfolding inode_in
nothing_in agino = refl

-- the first number of the cluster of an inode is in its chunk
first_there : (chunks : Group) (agino cluster : ℕ) (inode : Inode) → AllByRecursion IsChunk chunks → cluster ≡ agino / 32 → inode_in chunks agino ≡ Some inode → IsSome (inode_in chunks (cluster * 32))
first_there [] agino cluster inode all is there = absurd (none-some inode (sym (nothing_in agino) ∙ there))
first_there (c ∷ cs) agino cluster inode all is there =
    elim (cases_eq c.start (start_of agino)) [
      | inl e ↦
          let x : Inode = record { generation = 0; row = None } in
          let first : c.start ≡ start_of (cluster * 32) = omega (arith, e, is) in
          let whole = all.0.whole in
          subst IsSome (sym (inode_first c cs (cluster * 32) first ∙ slice_get-get_or c.inodes (cluster * 32 % 64) x (omega (arith, whole)))) refl
      | inr ne ↦
          let later : c.start ≢ start_of (cluster * 32) = λ e. ne (omega (arith, e, is)) in
          subst IsSome (sym (inode_later c cs (cluster * 32) later)) (first_there cs agino cluster inode all.1 is (sym (inode_later c cs agino ne) ∙ there))
    ]

dirty_some : (o : Option Kept) → is_dirty o ≡ true → (kept : Kept) × (o ≡ Some kept)
dirty_some None e = absurd (false≢true e)
dirty_some (Some kept) e = (kept, refl)

-- a dirty inode of a state that is a group of a table
pub dirty_there : (s : StateValue) (agino cluster : ℕ) → RepresentsGroup s → is_dirty (kept_at s agino) ≡ true → cluster ≡ agino / 32 → HasInodeAt s (cluster * 32)
dirty_there s agino cluster represents dirty is =
    let t : Table = represents.0 in
    let some = dirty_some (kept_at s agino) dirty in
    let of = kept_is s t represents.1 agino some.0 represents.2 some.1 in
    (t, represents.1, represents.2, first_there (group_at t s.group) agino cluster of.inode (chunks_of t s.group represents.2.table.groups) is of.there)

pub dirty_small : PlacesStand → (s : StateValue) (agino : ℕ) → IsGeometry s.geometry → s.group < s.geometry.groups → RepresentsGroup s → is_dirty (kept_at s agino) ≡ true → agino < 131072
dirty_small places s agino shape inside represents dirty =
    let some = dirty_some (kept_at s agino) dirty in
    let of = kept_is s represents.0 represents.1 agino some.0 represents.2 some.1 in
    agino_small places s represents.0 represents.1 agino of.inode shape inside represents.2 of.there

-- ---- a number

-- a number that is not dirty is as it was after a flush, too
clean_kept : (o : Option Kept) → is_dirty o ≡ false → option_map cleaned o ≡ o
clean_kept None clean = refl
clean_kept (Some kept) clean = ap (λ (d : Bool). let k : Kept = record { inode = kept.inode; dirty = d } in Some k) (sym clean)

clean_bytes : (cache : Cache) (agino : ℕ) (bytes : List ℕ) (o : Option Kept) → is_dirty o ≡ false → flushed_of cache agino bytes o ≡ bytes
clean_bytes cache agino bytes None clean = refl
clean_bytes cache agino bytes (Some kept) clean = cond-false kept.dirty (incore_encoding cache.group cache.uuid agino kept.inode) bytes clean

clean_sector : (cache : Cache) (agino : ℕ) (sector : Sector) → is_dirty (incore_at cache agino) ≡ false → flushed_sector cache agino sector ≡ sector
clean_sector cache agino sector clean = ap (λ (b : List ℕ). let s : Sector = record { bytes = b } in s) (clean_bytes cache agino sector.bytes (incore_at cache agino) clean)

-- what stays of a number that is not dirty is what a flush leaves of it
pub stays_flushed : (old new : StateValue) (agino : ℕ) → is_dirty (kept_at old agino) ≡ false → StaysIn old new agino → IsFlushedIn old new agino
stays_flushed old new agino clean stays = record {
  clean = stays.kept ∙ sym (clean_kept (kept_at old agino) clean);
  buffer = stays.buffer ∙ sym (map_same (flushed_sector (cache_in old) agino) (buffer_in old.buffers agino) (λ sector. clean_sector (cache_in old) agino sector clean));
}

cleaned_clean : (o : Option Kept) → is_dirty (option_map cleaned o) ≡ false
cleaned_clean None = refl
cleaned_clean (Some kept) = refl

pub flushed_clean : (old new : StateValue) (agino : ℕ) → IsFlushedIn old new agino → is_dirty (kept_at new agino) ≡ false
flushed_clean old new agino flushed = ap is_dirty flushed.clean ∙ cleaned_clean (kept_at old agino)

-- ---- the inode of a number

cleaned_inode : (o : Option Kept) (inode : Incore) → IfSome o (λ kept. kept.inode ≡ inode) → IfSome (option_map cleaned o) (λ kept. kept.inode ≡ inode)
cleaned_inode None inode has = tt
cleaned_inode (Some kept) inode has = has

bytes_of_inode : (s : StateValue) (agino : ℕ) (inode : Incore) (sector : Sector) (o : Option Kept) → IfSome o (λ kept. kept.inode ≡ inode)
    → (is_dirty o ≡ false → sector.bytes ≡ incore_encoding s.group s.geometry.uuid agino inode)
    → flushed_of (cache_in s) agino sector.bytes o ≡ incore_encoding s.group s.geometry.uuid agino inode
bytes_of_inode s agino inode sector None has told = told refl
bytes_of_inode s agino inode sector (Some kept) has told =
    elim kept.dirty as (λ b. (b ≡ false → sector.bytes ≡ incore_encoding s.group s.geometry.uuid agino inode)
    → cond b (incore_encoding s.group s.geometry.uuid agino kept.inode) sector.bytes ≡ incore_encoding s.group s.geometry.uuid agino inode) [
      | true ↦ λ _. ap (incore_encoding s.group s.geometry.uuid agino) has
      | false ↦ λ clean. clean refl
    ] told

sector_of_inode : (s : StateValue) (agino : ℕ) (inode : Incore) (b : Option Sector) → IfSome (kept_at s agino) (λ kept. kept.inode ≡ inode)
    → IsSomeAnd b (λ sector. is_dirty (kept_at s agino) ≡ false → sector.bytes ≡ incore_encoding s.group s.geometry.uuid agino inode)
    → IsSomeAnd (option_map (flushed_sector (cache_in s) agino) b) (λ sector. sector.bytes ≡ incore_encoding s.group s.geometry.uuid agino inode)
sector_of_inode s agino inode None has told = told
sector_of_inode s agino inode (Some sector) has told = bytes_of_inode s agino inode sector (kept_at s agino) has told

-- the buffer of a number that was flushed is the sector of its inode
pub sector_flushed : (old new : StateValue) (agino : ℕ) (inode : Incore) → IsFlushedIn old new agino → HasInode old agino inode
    → IsSomeAnd (buffer_in new.buffers agino) (λ sector. sector.bytes ≡ incore_encoding old.group old.geometry.uuid agino inode)
sector_flushed old new agino inode flushed has =
    subst (λ (b : Option Sector). IsSomeAnd b (λ sector. sector.bytes ≡ incore_encoding old.group old.geometry.uuid agino inode)) (sym flushed.buffer)
    (sector_of_inode old agino inode (buffer_in old.buffers agino) has.in_core has.buffer)

told_anyway : (b : Option Sector) (dirty : Bool) (bytes : List ℕ) → IsSomeAnd b (λ sector. sector.bytes ≡ bytes) → IsSomeAnd b (λ sector. dirty ≡ false → sector.bytes ≡ bytes)
told_anyway None dirty bytes has = has
told_anyway (Some sector) dirty bytes has = λ _. has

pub has_flushed : (old new : StateValue) (agino : ℕ) (inode : Incore) → IsFlushedIn old new agino → HasInode old agino inode → HasInode (with_flushed old new) agino inode
has_flushed old new agino inode flushed has = record {
  in_core = subst (λ (k : Option Kept). IfSome k (λ kept. kept.inode ≡ inode)) (sym flushed.clean) (cleaned_inode (kept_at old agino) inode has.in_core);
  buffer = told_anyway (buffer_in new.buffers agino) (is_dirty (kept_at new agino)) (incore_encoding old.group old.geometry.uuid agino inode) (sector_flushed old new agino inode flushed has);
}

pub has_stayed : (old new : StateValue) (agino : ℕ) (inode : Incore) → StaysIn old new agino → HasInode old agino inode → HasInode (with_flushed old new) agino inode
has_stayed old new agino inode stays has = record {
  in_core = subst (λ (k : Option Kept). IfSome k (λ kept. kept.inode ≡ inode)) (sym stays.kept) has.in_core;
  buffer =
      subst (λ (k : Option Kept). IsSomeAnd (buffer_in new.buffers agino) (λ sector. is_dirty k ≡ false → sector.bytes ≡ incore_encoding old.group old.geometry.uuid agino inode)) (sym stays.kept)
      (subst (λ (b : Option Sector). IsSomeAnd b (λ sector. is_dirty (kept_at old agino) ≡ false → sector.bytes ≡ incore_encoding old.group old.geometry.uuid agino inode)) (sym stays.buffer) has.buffer);
}

gone_flushed : (old new : StateValue) (agino : ℕ) → IsFlushedIn old new agino → kept_at old agino ≡ None → kept_at new agino ≡ None
gone_flushed old new agino flushed none = flushed.clean ∙ ap (option_map cleaned) none

-- ---- the group

-- the state stays the group of a table where each number has its inode
group_stays : (old new : StateValue) (t : Table) (layouts : Layouts) → new ≡ with_flushed old new → starts_of new.buffers ≡ starts_of old.buffers → IsGroupOf old t layouts
    → ((agino : ℕ) (inode : Incore) → HasInode old agino inode → HasInode (with_flushed old new) agino inode)
    → ((agino : ℕ) → kept_at old agino ≡ None → kept_at new agino ≡ None) → IsGroupOf new t layouts
group_stays old new t layouts rest starts is inodes only = subst (λ (v : StateValue). IsGroupOf v t layouts) (sym rest) (record {
  table = is.table;
  layouts_of = is.layouts_of;
  groups = is.groups;
  blocks = is.blocks;
  page = is.page;
  heads = is.heads;
  space = is.space;
  starts = starts ∙ is.starts;
  inodes = λ agino inode there. inodes agino (incore_for layouts old.group agino inode) (is.inodes agino inode there);
  only = λ agino none. only agino (is.only agino none);
})

pub flush_represents : (old new : StateValue) (t : Table) (layouts : Layouts) → IsFlush old new → IsGroupOf old t layouts → IsGroupOf new t layouts
flush_represents old new t layouts flush is =
    group_stays old new t layouts flush.rest flush.starts is (λ agino inode has. has_flushed old new agino inode (flush.each agino) has)
    (λ agino none. gone_flushed old new agino (flush.each agino) none)

pub cluster_represents : (cluster : ℕ) (old new : StateValue) (t : Table) (layouts : Layouts) → IsClusterFlush cluster old new → IsGroupOf old t layouts → IsGroupOf new t layouts
cluster_represents cluster old new t layouts flush is =
    group_stays old new t layouts flush.rest flush.starts is
    (λ agino inode has. elim (cases_eq (agino / 32) cluster) [
      | inl own ↦ has_flushed old new agino inode (flush.inside agino own) has
      | inr apart ↦ has_stayed old new agino inode (flush.outside agino apart) has
    ])
    (λ agino none. elim (cases_eq (agino / 32) cluster) [
      | inl own ↦ gone_flushed old new agino (flush.inside agino own) none
      | inr apart ↦ (flush.outside agino apart).kept ∙ none
    ])

pub sector_is : (old new : StateValue) (t : Table) (layouts : Layouts) (agino : ℕ) (inode : Inode) → IsGroupOf old t layouts → IsFlushedIn old new agino → inode_in (group_at t old.group) agino ≡ Some inode
    → IsSomeAnd (buffer_in new.buffers agino) (λ sector. sector.bytes ≡ inode_sector old.geometry layouts old.group agino inode)
unfolding inode_sector
sector_is old new t layouts agino inode is flushed there = sector_flushed old new agino (incore_for layouts old.group agino inode) flushed (is.inodes agino inode there)

-- ---- a cluster of a state

-- what the cache and the buffers say after a flush of a cluster, of the state
pub cluster_of : (s new : StateValue) (cluster : ℕ) (cache after : Cache) → cache.group ≡ s.group → cache.uuid ≡ s.geometry.uuid → cache.inodes ≡ s.in_core → after.inodes ≡ new.in_core
    → IsFlushed cluster cache after → starts_of new.buffers ≡ starts_of s.buffers → new ≡ with_flushed s new
    → ((agino : ℕ) → buffer_in new.buffers agino ≡ option_map (flushed_in cluster cache agino) (buffer_in s.buffers agino)) → IsClusterFlush cluster s new
cluster_of s new cluster cache after group uuid before now flushed starts rest buffers = record {
  rest = rest;
  starts = starts;
  inside = λ agino own. record {
    clean =
        ap (λ (m : FinMap nat_cmp Kept). finmap.get m agino) (sym now) ∙ flushed.inside agino own
        ∙ ap (λ (m : FinMap nat_cmp Kept). option_map cleaned (finmap.get m agino)) before;
    buffer = buffers agino ∙ map_both (flushed_in cluster cache agino) (flushed_sector (cache_in s) agino) (buffer_in s.buffers agino)
        (λ sector. flushed_own cluster cache agino sector own ∙ ap (λ (b : List ℕ). let x : Sector = record { bytes = b } in x) (bytes_same agino sector.bytes));
  };
  outside = λ agino apart. record {
    kept = ap (λ (m : FinMap nat_cmp Kept). finmap.get m agino) (sym now) ∙ flushed.outside agino apart ∙ ap (λ (m : FinMap nat_cmp Kept). finmap.get m agino) before;
    buffer = buffers agino ∙ map_same (flushed_in cluster cache agino) (buffer_in s.buffers agino) (λ sector. flushed_other cluster cache agino sector apart);
  };
}
  where
    map_both : (f g : Sector → Sector) (o : Option Sector) → ((x : Sector) → f x ≡ g x) → option_map f o ≡ option_map g o
    map_both f g None same = refl
    map_both f g (Some x) same = ap Some (same x)

    of_kept : (agino : ℕ) (bytes : List ℕ) (o : Option Kept) → flushed_of cache agino bytes o ≡ flushed_of (cache_in s) agino bytes o
    of_kept agino bytes None = refl
    of_kept agino bytes (Some kept) =
        ap (λ (g : ℕ). cond kept.dirty (incore_encoding g cache.uuid agino kept.inode) bytes) group
        ∙ ap (λ (u : List ℕ). cond kept.dirty (incore_encoding s.group u agino kept.inode) bytes) uuid

    bytes_same : (agino : ℕ) (bytes : List ℕ) → flushed_bytes cache agino bytes ≡ flushed_bytes (cache_in s) agino bytes
    bytes_same agino bytes = of_kept agino bytes (incore_at cache agino) ∙ ap (λ (m : FinMap nat_cmp Kept). flushed_of (cache_in s) agino bytes (finmap.get m agino)) before

-- ---- the clusters one after the other

-- the numbers below one are flushed, and those from there on are as they were
pub record FlushedBelow (old now : StateValue) (from : ℕ) : Type 0 where
  pub whole : from % 32 ≡ 0
  pub rest : now ≡ with_flushed old now
  pub starts : starts_of now.buffers ≡ starts_of old.buffers
  pub below : (agino : ℕ) → agino < from → IsFlushedIn old now agino
  pub above : (agino : ℕ) → from ≤ agino → StaysIn old now agino

pub none_flushed : (s : StateValue) → FlushedBelow s s 0
none_flushed s = record {
  whole = refl;
  rest = refl;
  starts = refl;
  below = λ agino low. absurd (omega arith);
  above = λ agino high. record { kept = refl; buffer = refl };
}

-- a number that was flushed and stays is flushed
then_stays : (old now new : StateValue) (agino : ℕ) → IsFlushedIn old now agino → StaysIn now new agino → IsFlushedIn old new agino
then_stays old now new agino flushed stays = record { clean = stays.kept ∙ flushed.clean; buffer = stays.buffer ∙ flushed.buffer }

both_stay : (old now new : StateValue) (agino : ℕ) → StaysIn old now agino → StaysIn now new agino → StaysIn old new agino
both_stay old now new agino first then = record { kept = then.kept ∙ first.kept; buffer = then.buffer ∙ first.buffer }

-- and one that stayed is flushed by the next flush
stays_then : (old now new : StateValue) (agino : ℕ) → now ≡ with_flushed old now → StaysIn old now agino → IsFlushedIn now new agino → IsFlushedIn old new agino
stays_then old now new agino rest stays flushed = record {
  clean = flushed.clean ∙ ap (option_map cleaned) stays.kept;
  buffer = flushed.buffer ∙ ap (option_map (flushed_sector (cache_in now) agino)) stays.buffer
      ∙ map_both (flushed_sector (cache_in now) agino) (flushed_sector (cache_in old) agino) (buffer_in old.buffers agino)
      (λ sector. ap (λ (b : List ℕ). let x : Sector = record { bytes = b } in x) (bytes_same sector.bytes));
}
  where
    map_both : (f g : Sector → Sector) (o : Option Sector) → ((x : Sector) → f x ≡ g x) → option_map f o ≡ option_map g o
    map_both f g None same = refl
    map_both f g (Some x) same = ap Some (same x)

    of_kept : (bytes : List ℕ) (o : Option Kept) → flushed_of (cache_in now) agino bytes o ≡ flushed_of (cache_in old) agino bytes o
    of_kept bytes None = refl
    of_kept bytes (Some kept) =
        ap (λ (v : StateValue). cond kept.dirty (incore_encoding v.group v.geometry.uuid agino kept.inode) bytes) rest

    bytes_same : (bytes : List ℕ) → flushed_bytes (cache_in now) agino bytes ≡ flushed_bytes (cache_in old) agino bytes
    bytes_same bytes = of_kept bytes (kept_at now agino) ∙ ap (flushed_of (cache_in old) agino bytes) stays.kept

pub more_flushed : (old now new : StateValue) (from agino cluster : ℕ) → FlushedBelow old now from → from ≤ agino → cluster ≡ agino / 32
    → ((k : ℕ) → from ≤ k → k < agino → is_dirty (kept_at now k) ≡ false) → IsClusterFlush cluster now new → FlushedBelow old new ((cluster + 1) * 32)
more_flushed old now new from agino cluster so_far here is clean flush = record {
  whole = omega arith;
  rest = flush.rest ∙ ap (λ (v : StateValue). with_flushed v new) so_far.rest;
  starts = flush.starts ∙ so_far.starts;
  below = λ k low. elim (cases_eq (k / 32) cluster) [
    | inl own ↦ stays_then old now new k so_far.rest (so_far.above k (omega (arith, own, is, here, so_far.whole))) (flush.inside k own)
    | inr apart ↦ elim (cases_lt k from) [
      | inl before ↦ then_stays old now new k (so_far.below k before) (flush.outside k apart)
      | inr after ↦
          let stays = so_far.above k after in
          let dirt : is_dirty (kept_at old k) ≡ false = ap is_dirty (sym stays.kept) ∙ clean k after (omega (arith, low, apart, is)) in
          stays_flushed old new k dirt (both_stay old now new k stays (flush.outside k apart))
    ]
  ];
  above = λ k high. both_stay old now new k (so_far.above k (omega (arith, high, is, here))) (flush.outside k (λ own. omega (arith, own, high)));
}

pub all_flushed : (old now : StateValue) (from : ℕ) → FlushedBelow old now from → ((k : ℕ) → from ≤ k → is_dirty (kept_at now k) ≡ false) → IsFlush old now
all_flushed old now from so_far clean = record {
  rest = so_far.rest;
  starts = so_far.starts;
  each = λ k. elim (cases_lt k from) [
    | inl before ↦ so_far.below k before
    | inr after ↦ let stays = so_far.above k after in stays_flushed old now k (ap is_dirty (sym stays.kept) ∙ clean k after) stays
  ];
}

-- the state is then still a group of a table
pub below_represents : (old now : StateValue) (from : ℕ) → FlushedBelow old now from → RepresentsGroup old → RepresentsGroup now
below_represents old now from so_far represents = (
  represents.0,
  represents.1,
  group_stays old now represents.0 represents.1 so_far.rest so_far.starts represents.2
      (λ agino inode has. elim (cases_lt agino from) [
        | inl before ↦ has_flushed old now agino inode (so_far.below agino before) has
        | inr after ↦ has_stayed old now agino inode (so_far.above agino after) has
      ])
      (λ agino none. elim (cases_lt agino from) [
        | inl before ↦ gone_flushed old now agino (so_far.below agino before) none
        | inr after ↦ (so_far.above agino after).kept ∙ none
      ]),
)

pub below_shape : (old now : StateValue) (from : ℕ) → FlushedBelow old now from → IsGeometry old.geometry → IsGeometry now.geometry
below_shape old now from so_far shape = subst IsGeometry (sym (ap (λ (v : StateValue). v.geometry) so_far.rest)) shape

pub below_inside : (old now : StateValue) (from : ℕ) → FlushedBelow old now from → old.group < old.geometry.groups → now.group < now.geometry.groups
below_inside old now from so_far inside = subst (λ (v : StateValue). v.group < v.geometry.groups) (sym so_far.rest) inside
