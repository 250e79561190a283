-- What a change does to the inodes in core.
use Rattle.std.proofs.Common.{◌≡◌, ◌≤◌, ◌+◌, ℕ, true, false, Option, Some, None, List, length, Result, Ok, Err, IsOk, OnOk, refl, ap, sym, ◌∙◌, subst, arith}
use Rattle.std.specs.Prelude.{IfSome, IsSomeAnd, is_some}
use Rattle.std.specs.Ordering.{nat_cmp}
use Rattle.std.specs.FinMap as finmap
use Rattle.std.specs.FinMap.{FinMap}
use Rattle.std.proofs.lemmas.Bool.{false≢true}
use Rattle.inode_core.specs.declared.shape.Core.{Core}
use Rattle.inode_cache.specs.declared.inode.Incore.{Incore}
use Rattle.inode_cache.specs.declared.inode.Kept.{Kept}
use Rattle.inode_cache.specs.Caches.{Cache, clean, dirty, incore_at, with_incore}
use Rattle.inode_cache.specs.Inodes.{IsIncore}
use Rattle.group_ops.specs.declared.delta.Prior.{Prior}
use Rattle.group_ops.specs.Buffers.{AreBuffers, Buffers, BuffersAscend}
use Rattle.group_ops.specs.Changes.{FitsPrior, buffer_of_prior, core_of_prior, set_buffer, with_chunk, with_prior, with_prior_buffer}
use Rattle.group_ops.proofs.Kept.{put_same, put_twice}
use Rattle.group_ops.proofs.Setting.{AreWhole, insert_long, insert_whole, set_ascends, set_long, set_whole}

wanted_of : (P : Kept → Type 0) (o : Option Kept) → IfSome o P → is_some o ≡ true → IsSomeAnd o P
wanted_of P None fits some = absurd (false≢true some)
wanted_of P (Some k) fits some = fits

-- the new core of the inode before fits where that is in core
pub prior_wanted : (in_core : FinMap nat_cmp Kept) (prior : Prior) (o : Option Prior) → o ≡ Some prior → FitsPrior in_core o → is_some (finmap.get in_core prior.agino) ≡ true
    → IsSomeAnd (finmap.get in_core prior.agino) (λ kept. IsIncore (record { core = prior.core; blocks = kept.inode.blocks }))
prior_wanted in_core prior o at fits some = wanted_of _ (finmap.get in_core prior.agino) (subst (FitsPrior in_core) at fits) some

put_of : (cache new : Cache) (prior : Prior) (o : Option Kept)
    → IsSomeAnd o (λ kept. new ≡ with_incore prior.agino (dirty (record { core = prior.core; blocks = kept.inode.blocks })) cache cache.spare)
    → new ≡ record cache { inodes = core_of_prior cache.inodes prior o }
put_of cache new prior None put = absurd put
put_of cache new prior (Some k) put = put

pub prior_put : (cache new : Cache) (prior : Prior) (o : Option Prior) → o ≡ Some prior
    → IsSomeAnd (incore_at cache prior.agino) (λ kept. new ≡ with_incore prior.agino (dirty (record { core = prior.core; blocks = kept.inode.blocks })) cache cache.spare)
    → new ≡ record cache { inodes = with_prior cache.inodes o }
prior_put cache new prior o at put =
    put_of cache new prior (incore_at cache prior.agino) put
    ∙ ap (λ (p : Option Prior). let c : Cache = record cache { inodes = with_prior cache.inodes p } in c) (sym at)

some_kept : (in_core : FinMap nat_cmp Kept) (buffers : List Buffers) (prior : Prior) (o : Option Kept) → is_some o ≡ true → buffers ≡ buffer_of_prior buffers prior o
some_kept in_core buffers prior None some = absurd (false≢true some)
some_kept in_core buffers prior (Some k) some = refl

pub buffers_stay : (in_core : FinMap nat_cmp Kept) (buffers : List Buffers) (prior : Prior) (o : Option Prior) → o ≡ Some prior → is_some (finmap.get in_core prior.agino) ≡ true
    → buffers ≡ with_prior_buffer in_core buffers o
buffers_stay in_core buffers prior o at some =
    some_kept in_core buffers prior (finmap.get in_core prior.agino) some ∙ ap (λ (p : Option Prior). with_prior_buffer in_core buffers p) (sym at)

none_kept : (buffers : List Buffers) (prior : Prior) (o : Option Kept) → is_some o ≡ false → set_buffer buffers prior.agino prior.sector ≡ buffer_of_prior buffers prior o
none_kept buffers prior None out = refl
none_kept buffers prior (Some k) out = absurd (false≢true (sym out))

pub buffer_put : (in_core : FinMap nat_cmp Kept) (buffers : List Buffers) (prior : Prior) (o : Option Prior) → o ≡ Some prior → is_some (finmap.get in_core prior.agino) ≡ false
    → set_buffer buffers prior.agino prior.sector ≡ with_prior_buffer in_core buffers o
buffer_put in_core buffers prior o at out =
    none_kept buffers prior (finmap.get in_core prior.agino) out ∙ ap (λ (p : Option Prior). with_prior_buffer in_core buffers p) (sym at)

core_stays : (cache : Cache) (prior : Prior) (o : Option Kept) → is_some o ≡ false → cache.inodes ≡ core_of_prior cache.inodes prior o
core_stays cache prior None out = refl
core_stays cache prior (Some k) out = absurd (false≢true (sym out))

pub cache_stays : (cache : Cache) (prior : Prior) (o : Option Prior) → o ≡ Some prior → is_some (incore_at cache prior.agino) ≡ false → cache ≡ record cache { inodes = with_prior cache.inodes o }
cache_stays cache prior o at out =
    ap (λ (m : FinMap nat_cmp Kept). let c : Cache = record cache { inodes = m } in c)
    (core_stays cache prior (incore_at cache prior.agino) out ∙ ap (λ (p : Option Prior). with_prior cache.inodes p) (sym at))

-- ---- an inode that is put in core

pub installed_kept : (cache mid : Cache) (agino spare : ℕ) (inode : Incore) → mid ≡ with_incore agino (clean inode) cache spare → incore_at mid agino ≡ Some (clean inode)
installed_kept cache mid agino spare inode is = ap (λ (c : Cache). incore_at c agino) is ∙ put_same cache.inodes agino (clean inode)

-- a clean one that is made dirty
pub dirty_put : (cache mid new : Cache) (agino : ℕ) (core : Core) (blocks : List ℕ) → mid ≡ with_incore agino (clean (record { core = core; blocks = blocks })) cache mid.spare
    → IsSomeAnd (incore_at mid agino) (λ kept. new ≡ with_incore agino (dirty (record { core = core; blocks = kept.inode.blocks })) mid mid.spare)
    → new ≡ with_incore agino (dirty (record { core = core; blocks = blocks })) cache new.spare
dirty_put cache mid new agino core blocks is put =
    let inode : Incore = record { core = core; blocks = blocks } in
    let at = installed_kept cache mid agino mid.spare inode is in
    let made : new ≡ with_incore agino (dirty inode) mid mid.spare =
    subst (λ (o : Option Kept). IsSomeAnd o (λ kept. new ≡ with_incore agino (dirty (record { core = core; blocks = kept.inode.blocks })) mid mid.spare)) at put in
    let spare : new.spare ≡ mid.spare = ap (λ (c : Cache). c.spare) made in
    let twice : finmap.insert mid.inodes agino (dirty inode) ≡ finmap.insert cache.inodes agino (dirty inode) =
    ap (λ (c : Cache). finmap.insert c.inodes agino (dirty inode)) is ∙ put_twice cache.inodes agino (clean inode) (dirty inode) in
    let group : mid.group ≡ cache.group = ap (λ (c : Cache). c.group) is in
    let uuid : mid.uuid ≡ cache.uuid = ap (λ (c : Cache). c.uuid) is in
    cc (made, spare, twice, group, uuid)

pub dirty_spare : (cache mid new : Cache) (agino : ℕ) (core : Core) (blocks : List ℕ) → mid ≡ with_incore agino (clean (record { core = core; blocks = blocks })) cache mid.spare
    → IsSomeAnd (incore_at mid agino) (λ kept. new ≡ with_incore agino (dirty (record { core = core; blocks = kept.inode.blocks })) mid mid.spare) → new.spare ≡ mid.spare
dirty_spare cache mid new agino core blocks is put =
    let inode : Incore = record { core = core; blocks = blocks } in
    let at = installed_kept cache mid agino mid.spare inode is in
    let made : new ≡ with_incore agino (dirty inode) mid mid.spare =
    subst (λ (o : Option Kept). IsSomeAnd o (λ kept. new ≡ with_incore agino (dirty (record { core = core; blocks = kept.inode.blocks })) mid mid.spare)) at put in
    ap (λ (c : Cache). c.spare) made

pub was_ok : {E : Type 0} (P : Type 0) (r : Result Unit E) → IsOk r → OnOk r P → P
was_ok P (Ok x) ok p = p
was_ok P (Err e) ok p = absurd (false≢true ok)

-- ---- the buffers

by_prior : (P : List Buffers → Type 0) (in_core : FinMap nat_cmp Kept) (buffers : List Buffers) (prior : Option Prior) → P buffers
    → ((one : Prior) → P (set_buffer buffers one.agino one.sector)) → P (with_prior_buffer in_core buffers prior)
by_prior P in_core buffers None stays put = stays
by_prior P in_core buffers (Some prior) stays put = by_case (finmap.get in_core prior.agino)
  where
    by_case : (o : Option Kept) → P (buffer_of_prior buffers prior o)
    by_case None = put prior
    by_case (Some kept) = stays

pub prior_ascends : (in_core : FinMap nat_cmp Kept) (buffers : List Buffers) (prior : Option Prior) → BuffersAscend buffers → BuffersAscend (with_prior_buffer in_core buffers prior)
prior_ascends in_core buffers prior ascends = by_prior BuffersAscend in_core buffers prior ascends (λ one. set_ascends buffers one.agino one.sector ascends)

pub prior_long : (in_core : FinMap nat_cmp Kept) (buffers : List Buffers) (prior : Option Prior) → length (with_prior_buffer in_core buffers prior) ≡ length buffers
prior_long in_core buffers prior = by_prior (λ l. length l ≡ length buffers) in_core buffers prior refl (λ one. set_long buffers one.agino one.sector)

pub prior_whole : (in_core : FinMap nat_cmp Kept) (buffers : List Buffers) (prior : Option Prior) → AreWhole buffers → AreWhole (with_prior_buffer in_core buffers prior)
prior_whole in_core buffers prior whole = by_prior AreWhole in_core buffers prior whole (λ one. set_whole buffers one.agino one.sector whole)

pub chunk_whole : (buffers : List Buffers) (chunk : Option Buffers) → IfSome chunk (λ c. AreBuffers c.start c.sectors) → AreWhole buffers → AreWhole (with_chunk buffers chunk)
chunk_whole buffers None own whole = whole
chunk_whole buffers (Some new) own whole = insert_whole new buffers own whole

pub chunk_long : (buffers : List Buffers) (chunk : Option Buffers) → length (with_chunk buffers chunk) ≤ length buffers + 1
chunk_long buffers None = omega arith
chunk_long buffers (Some new) = omega (arith, insert_long new buffers)
