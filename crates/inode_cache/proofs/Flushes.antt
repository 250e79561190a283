-- What a flush does to one inode.
use Rattle.std.proofs.Common.{◌≡◌, ◌≢◌, ℕ, ◌+◌, ◌%◌, ◌<◌, ◌≤◌, Bool, true, false, cond, Option, Some, None, List, length, get_or, refl, sym, ap, subst, ◌∙◌, inl, inr, arith}
use Rattle.std.proofs.Math.ListN.{set}
use Rattle.std.proofs.lemmas.Bool.{cases_eq, eq-eqb, ne_eqb, cond-true, cond-false}
use Rattle.std.specs.Prelude.{nat_eq, IsSomeAnd}
use Rattle.std.proofs.lemmas.List.{get_or-set_same, get_or-set_other, get_or_default}
use Rattle.life_bytes.specs.declared.sector.Sector.{Sector}
use Rattle.std.specs.Map.{lookup}
use Rattle.std.specs.Option.{option_map}
use Rattle.inode_cache.specs.declared.inode.Kept.{Kept}
use Rattle.inode_cache.specs.Inodes.{incore_encoding}
use Rattle.inode_cache.specs.Caches.{Cache, IsClean, incore_at}
use Rattle.inode_cache.specs.Flush.{IsFlushed, IsFlushedAt, cleaned, flushed_bytes, flushed_of, member, row_bytes, cluster_sector}
use Rattle.inode_cache.proofs.Maps.{at_entries, cache_of, seen}

pub none_flushed : (cache : Cache) (group : ℕ) (uuid : List ℕ) (es fs : List (ℕ × Kept)) (before after agino : ℕ) → cache_of group uuid es before ≡ cache
    → fs ≡ es → after ≡ before → lookup (nat_eq agino) es ≡ None → IsFlushedAt agino cache (cache_of group uuid fs after)
none_flushed cache group uuid es fs before after agino is same room none = record {
  here = at_entries fs agino ∙ ap (lookup (nat_eq agino)) same ∙ none ∙ sym (ap (option_map cleaned) (seen cache group uuid es before is agino ∙ none));
  elsewhere = λ other _. at_entries fs other ∙ ap (lookup (nat_eq other)) same ∙ sym (seen cache group uuid es before is other);
  group = ap (λ (c : Cache). c.group) is;
  uuid = ap (λ (c : Cache). c.uuid) is;
  spare = room ∙ ap (λ (c : Cache). c.spare) is;
}

pub kept_flushed : (cache : Cache) (group : ℕ) (uuid : List ℕ) (es fs : List (ℕ × Kept)) (before after agino : ℕ) (kept v : Kept) → cache_of group uuid es before ≡ cache
    → ((q : ℕ) → lookup (nat_eq q) fs ≡ cond (nat_eq agino q) (Some v) (lookup (nat_eq q) es)) → after ≡ before → lookup (nat_eq agino) es ≡ Some kept → v ≡ cleaned kept
    → IsFlushedAt agino cache (cache_of group uuid fs after)
kept_flushed cache group uuid es fs before after agino kept v is same room there clean = record {
  here = at_entries fs agino ∙ same agino ∙ cond-true (nat_eq agino agino) (Some v) (lookup (nat_eq agino) es) (eq-eqb agino agino refl) ∙ ap Some clean
      ∙ sym (ap (option_map cleaned) (seen cache group uuid es before is agino ∙ there));
  elsewhere = λ other apart.
      at_entries fs other ∙ same other ∙ cond-false (nat_eq agino other) (Some v) (lookup (nat_eq other) es) (ne_eqb agino other (λ e. apart (sym e)))
      ∙ sym (seen cache group uuid es before is other);
  group = ap (λ (c : Cache). c.group) is;
  uuid = ap (λ (c : Cache). c.uuid) is;
  spare = room ∙ ap (λ (c : Cache). c.spare) is;
}

-- a clean inode is what it is once it is cleaned
pub clean_again : (kept : Kept) → kept.dirty ≡ false → kept ≡ cleaned kept
clean_again kept e = ap (λ (d : Bool). let k : Kept = record { inode = kept.inode; dirty = d } in k) e

-- the buffers of an inode that is not in core, of a clean one, and of a dirty one
pub none_buffer : (cache : Cache) (agino : ℕ) (buffer : List ℕ) → incore_at cache agino ≡ None → buffer ≡ flushed_bytes cache agino buffer
none_buffer cache agino buffer none = sym (ap (flushed_of cache agino buffer) none)

pub clean_buffer : (cache : Cache) (agino : ℕ) (buffer : List ℕ) (kept : Kept) → incore_at cache agino ≡ Some kept → kept.dirty ≡ false → buffer ≡ flushed_bytes cache agino buffer
clean_buffer cache agino buffer kept there clean =
    sym (ap (flushed_of cache agino buffer) there ∙ cond-false kept.dirty (incore_encoding cache.group cache.uuid agino kept.inode) buffer clean)

pub dirty_buffer : (cache : Cache) (group : ℕ) (uuid : List ℕ) (es : List (ℕ × Kept)) (before agino : ℕ) (buffer new : List ℕ) (kept : Kept) → cache_of group uuid es before ≡ cache
    → incore_at cache agino ≡ Some kept → kept.dirty ≡ true → new ≡ incore_encoding group uuid agino kept.inode → new ≡ flushed_bytes cache agino buffer
dirty_buffer cache group uuid es before agino buffer new kept is there dirty encoded =
    encoded ∙ ap (λ (c : Cache). incore_encoding c.group c.uuid agino kept.inode) is
    ∙ sym (ap (flushed_of cache agino buffer) there ∙ cond-true kept.dirty (incore_encoding cache.group cache.uuid agino kept.inode) buffer dirty)

-- ---- a cluster

-- so many first inodes of a cluster are flushed
pub record Flushing (cluster : ℕ) (cache : Cache) (old : List Sector) (now : Cache) (into : List Sector) (place : ℕ) : Type 0 where
  pub done : (k : ℕ) (d : Sector) → k < place → (get_or into k d).bytes ≡ flushed_bytes cache (member cluster k) (get_or old k d).bytes
  pub ahead : (k : ℕ) (d : Sector) → place ≤ k → get_or into k d ≡ get_or old k d
  pub inside : (k : ℕ) → k < place → incore_at now (member cluster k) ≡ option_map cleaned (incore_at cache (member cluster k))
  pub outside : (agino : ℕ) → ((k : ℕ) → k < place → agino ≢ member cluster k) → incore_at now agino ≡ incore_at cache agino
  pub group : now.group ≡ cache.group
  pub uuid : now.uuid ≡ cache.uuid
  pub spare : now.spare ≡ cache.spare

pub flushing_none : (cluster : ℕ) (cache : Cache) (old : List Sector) → Flushing cluster cache old cache old 0
flushing_none cluster cache old = record {
  done = λ k d below. absurd (omega arith);
  ahead = λ k d above. refl;
  inside = λ k below. absurd (omega arith);
  outside = λ agino apart. refl;
  group = refl;
  uuid = refl;
  spare = refl;
}

-- caches that have the same inode flush the same buffer
flushed_same : (now cache : Cache) (agino : ℕ) (buffer : List ℕ) → incore_at now agino ≡ incore_at cache agino → now.group ≡ cache.group → now.uuid ≡ cache.uuid
    → flushed_bytes now agino buffer ≡ flushed_bytes cache agino buffer
flushed_same now cache agino buffer here group uuid =
    ap (flushed_of now agino buffer) here ∙ by_case (incore_at cache agino)
  where
    by_case : (o : Option Kept) → flushed_of now agino buffer o ≡ flushed_of cache agino buffer o
    by_case None = refl
    by_case (Some kept) =
        ap (λ (g : ℕ). cond kept.dirty (incore_encoding g now.uuid agino kept.inode) buffer) group
        ∙ ap (λ (u : List ℕ). cond kept.dirty (incore_encoding cache.group u agino kept.inode) buffer) uuid

-- places of a cluster are apart
apart_members : (cluster k place : ℕ) → k ≢ place → member cluster k ≢ member cluster place
apart_members cluster k place apart e = apart (omega arith)

pub flushing_more : (cluster : ℕ) (cache : Cache) (old : List Sector) (now next : Cache) (into : List Sector) (place : ℕ) (sector e : Sector) → Flushing cluster cache old now into place
    → place < length into → IsFlushedAt (member cluster place) now next → sector.bytes ≡ flushed_bytes now (member cluster place) (get_or into place e).bytes
    → Flushing cluster cache old next (set into place sector) (place + 1)
flushing_more cluster cache old now next into place sector e so_far room flushed buffer =
    let not_yet : incore_at now (member cluster place) ≡ incore_at cache (member cluster place) =
    so_far.outside (member cluster place) (λ k below. apart_members cluster place k (λ same. absurd (omega arith))) in
    record {
      done = λ k d below. elim (cases_eq k place) [
        | inl here ↦ subst (λ (n : ℕ). (get_or (set into place sector) n d).bytes ≡ flushed_bytes cache (member cluster n) (get_or old n d).bytes) (sym here)
            (ap (λ (s : Sector). s.bytes) (get_or-set_same into place sector d room) ∙ buffer
            ∙ ap (λ (s : Sector). flushed_bytes now (member cluster place) s.bytes) (get_or_default into place e d room ∙ so_far.ahead place d (omega arith))
            ∙ flushed_same now cache (member cluster place) (get_or old place d).bytes not_yet so_far.group so_far.uuid)
        | inr other ↦ ap (λ (s : Sector). s.bytes) (get_or-set_other into place k sector d other) ∙ so_far.done k d (omega (arith, other))
      ];
      ahead = λ k d above. get_or-set_other into place k sector d (λ same. absurd (omega arith)) ∙ so_far.ahead k d (omega arith);
      inside = λ k below. elim (cases_eq k place) [
        | inl here ↦ subst (λ (n : ℕ). incore_at next (member cluster n) ≡ option_map cleaned (incore_at cache (member cluster n))) (sym here) (flushed.here ∙ ap (option_map cleaned) not_yet)
        | inr other ↦ flushed.elsewhere (member cluster k) (apart_members cluster k place other) ∙ so_far.inside k (omega (arith, other))
      ];
      outside = λ agino apart. flushed.elsewhere agino (apart place (omega arith)) ∙ so_far.outside agino (λ k below. apart k (omega arith));
      group = flushed.group ∙ so_far.group;
      uuid = flushed.uuid ∙ so_far.uuid;
      spare = flushed.spare ∙ so_far.spare;
    }

-- all places of the cluster
pub flushed_all : (cluster : ℕ) (cache : Cache) (old : List Sector) (now : Cache) (into : List Sector) (place : ℕ) → Flushing cluster cache old now into place → place ≡ 32 → IsFlushed cluster cache now
flushed_all cluster cache old now into place done all = record {
  inside = λ agino of.
      let e : member cluster (agino % 32) ≡ agino = omega arith in
      subst (λ (n : ℕ). incore_at now n ≡ option_map cleaned (incore_at cache n)) e (done.inside (agino % 32) (omega arith));
  outside = λ agino other. done.outside agino (λ k below e. other (omega arith));
  group = done.group;
  uuid = done.uuid;
  spare = done.spare;
}

-- buffers that encoded what was clean are the sectors of the rows
pub flushed_rows : (cache : Cache) (agino : ℕ) (buffer : List ℕ) → (IsClean cache agino → buffer ≡ row_bytes cache agino buffer) → flushed_bytes cache agino buffer ≡ row_bytes cache agino buffer
flushed_rows cache agino buffer encoded = by_case (incore_at cache agino) encoded
  where
    one : (b : Bool) (new old : List ℕ) → (b ≡ false → old ≡ new) → cond b new old ≡ new
    one true new old same = refl
    one false new old same = same refl

    by_case : (o : Option Kept) → (IsSomeAnd o (λ kept. kept.dirty ≡ false) → buffer ≡ cluster_sector cache agino buffer o) → flushed_of cache agino buffer o ≡ cluster_sector cache agino buffer o
    by_case None same = refl
    by_case (Some kept) same = one kept.dirty (incore_encoding cache.group cache.uuid agino kept.inode) buffer same
