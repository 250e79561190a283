-- The inodes in core as a finite map and as the entries of a table.
use Rattle.std.proofs.Common.{◌≡◌, ℕ, ◌<◌, Bool, true, false, cond, Option, Some, None, List, [], ◌∷◌, refl, sym, ap, subst, ◌∙◌, inl, inr, arith}
use Rattle.std.proofs.lemmas.Bool.{cases_eq, eq-eqb, ne_eqb, cond-true, cond-false, false≢true}
use Rattle.std.proofs.lemmas.Bool.Decides.{nat_tests}
use Rattle.std.specs.Prelude.{nat_eq, not, IsTrue, IsSome, IsSomeAnd}
use Rattle.std.specs.Borrow.{Bor, MutBor}
use Rattle.std.specs.Cmp.{nat_cmp_total, unsigned_tied}
use Rattle.std.specs.FinMap.{FinMap, get, insert, remove, from_entries, find, get-from_entries, get-insert, get-remove, same_map, nat_cmp-IsAntisymmetric}
use Rattle.std.specs.Map.{lookup}
use Rattle.std.specs.Option.{option_copied, option_copied_mut}
use Rattle.std.specs.Ordering.{nat_cmp, eq_by_cmp}
use Rattle.life_limits.specs.declared.TheConstants.{GROUP_NUMBERS}
use Rattle.inode_cache.specs.declared.inode.Kept.{Kept}
use Rattle.inode_cache.specs.Inodes.{IsIncore}
use Rattle.inode_cache.specs.Caches.{AreInodes, Cache, IsClean, incore_at, with_incore, without_inode}

found : (q : ℕ) (es : List (ℕ × Kept)) → find nat_cmp q es ≡ lookup (nat_eq q) es
found q [] = refl
found q (e ∷ es) =
    ap (λ (b : Bool). cond b (Some e.1) (find nat_cmp q es)) (unsigned_tied q e.0)
    ∙ ap (λ (o : Option Kept). cond (nat_eq q e.0) (Some e.1) o) (found q es)

-- a look-up in the map is one in the entries
pub at_entries : (es : List (ℕ × Kept)) (q : ℕ) → get (from_entries {R = nat_cmp} es) q ≡ lookup (nat_eq q) es
at_entries es q = get-from_entries nat_cmp_total es q ∙ found q es

-- maps that answer alike are equal
pub same_maps : (m n : FinMap nat_cmp Kept) → ((q : ℕ) → get m q ≡ get n q) → m ≡ n
same_maps m n same = same_map nat_cmp_total nat_cmp-IsAntisymmetric m n same

pub same_entries : (es fs : List (ℕ × Kept)) → ((q : ℕ) → lookup (nat_eq q) fs ≡ lookup (nat_eq q) es) → from_entries {R = nat_cmp} fs ≡ from_entries es
same_entries es fs same = same_maps (from_entries fs) (from_entries es) (λ q. at_entries fs q ∙ same q ∙ sym (at_entries es q))

turned : (k q : ℕ) → nat_eq k q ≡ eq_by_cmp nat_cmp q k
turned k q = grind (arith, nat_tests, unsigned_tied)

pub inserted : (es fs : List (ℕ × Kept)) (k : ℕ) (v : Kept) → ((q : ℕ) → lookup (nat_eq q) fs ≡ cond (nat_eq k q) (Some v) (lookup (nat_eq q) es))
    → from_entries {R = nat_cmp} fs ≡ insert (from_entries es) k v
inserted es fs k v same = same_maps (from_entries fs) (insert (from_entries es) k v) (λ q.
    at_entries fs q ∙ same q
    ∙ ap (λ (o : Option Kept). cond (nat_eq k q) (Some v) o) (sym (at_entries es q))
    ∙ ap (λ (b : Bool). cond b (Some v) (get (from_entries {R = nat_cmp} es) q)) (turned k q)
    ∙ sym (get-insert nat_cmp_total (from_entries es) k v q))

pub removed : (es fs : List (ℕ × Kept)) (k : ℕ) → ((q : ℕ) → lookup (nat_eq q) fs ≡ cond (nat_eq k q) None (lookup (nat_eq q) es))
    → from_entries {R = nat_cmp} fs ≡ remove (from_entries es) k
removed es fs k same = same_maps (from_entries fs) (remove (from_entries es) k) (λ q.
    at_entries fs q ∙ same q
    ∙ ap (λ (o : Option Kept). cond (nat_eq k q) None o) (sym (at_entries es q))
    ∙ ap (λ (b : Bool). cond b None (get (from_entries {R = nat_cmp} es) q)) (turned k q)
    ∙ sym (get-remove nat_cmp_total (from_entries es) k q))

abbrev pub cache_of : ℕ → List ℕ → List (ℕ × Kept) → ℕ → Cache
cache_of group uuid es spare = record { group = group; uuid = uuid; inodes = from_entries es; spare = spare }

-- what the fields of a cache say of what contracts see
pub seen : (cache : Cache) (group : ℕ) (uuid : List ℕ) (es : List (ℕ × Kept)) (spare : ℕ) → cache_of group uuid es spare ≡ cache → (q : ℕ) → incore_at cache q ≡ lookup (nat_eq q) es
seen cache group uuid es spare is q = ap (λ (c : Cache). incore_at c q) (sym is) ∙ at_entries es q

-- a reference that was found is to the inode
pub copied_some : (r : Option (Bor Kept)) (o : Option Kept) → option_copied r ≡ o → IsSome o → IsSome r
copied_some None o e some = subst IsSome (sym e) some
copied_some (Some x) o e some = refl

pub copied_value : (r : Option (Bor Kept)) (x : Bor Kept) (o : Option Kept) → r ≡ Some x → option_copied r ≡ o → o ≡ Some x.now
copied_value r x o is e = sym e ∙ ap (λ (s : Option (Bor Kept)). option_copied s) is

pub lent_some : (r : Option (MutBor Kept)) (o : Option Kept) → option_copied_mut r ≡ o → IsSome o → IsSome r
lent_some None o e some = subst IsSome (sym e) some
lent_some (Some x) o e some = refl

pub lent_value : (r : Option (MutBor Kept)) (x : MutBor Kept) (o : Option Kept) → r ≡ Some x → option_copied_mut r ≡ o → o ≡ Some x.now
lent_value r x o is e = sym e ∙ ap (λ (s : Option (MutBor Kept)). option_copied_mut s) is

pub lent_none : (r : Option (MutBor Kept)) (o : Option Kept) → r ≡ None → option_copied_mut r ≡ o → o ≡ None
lent_none r o is e = sym e ∙ ap (λ (s : Option (MutBor Kept)). option_copied_mut s) is

pub some_from : (o : Option Kept) (k : Kept) → o ≡ Some k → IsSome o
some_from o k is = subst IsSome (sym is) refl

pub and_holds : (o : Option Kept) (k : Kept) (P : Kept → Type 0) → o ≡ Some k → P k → IsSomeAnd o P
and_holds o k P is h = subst (λ (s : Option Kept). IsSomeAnd s P) (sym is) h

-- inodes stay inodes
pub inodes_same : (es fs : List (ℕ × Kept)) → ((q : ℕ) → lookup (nat_eq q) fs ≡ lookup (nat_eq q) es) → AreInodes es → AreInodes fs
inodes_same es fs same are agino kept at = are agino kept (sym (same agino) ∙ at)

some_same : (x y : Kept) → Some x ≡ Some y → x ≡ y
some_same x y e = cc

pub inodes_put : (es fs : List (ℕ × Kept)) (k : ℕ) (v : Kept) → ((q : ℕ) → lookup (nat_eq q) fs ≡ cond (nat_eq k q) (Some v) (lookup (nat_eq q) es))
    → IsIncore v.inode → k < GROUP_NUMBERS → AreInodes es → AreInodes fs
inodes_put es fs k v same is small are agino kept at = elim (cases_eq k agino) [
  | inl here ↦
      let put : Some v ≡ Some kept = sym (cond-true (nat_eq k agino) (Some v) (lookup (nat_eq agino) es) (eq-eqb k agino here)) ∙ sym (same agino) ∙ at in
      (subst (λ (one : Kept). IsIncore one.inode) (some_same v kept put) is, subst (λ (n : ℕ). n < GROUP_NUMBERS) here small)
  | inr other ↦ are agino kept (sym (cond-false (nat_eq k agino) (Some v) (lookup (nat_eq agino) es) (ne_eqb k agino other)) ∙ sym (same agino) ∙ at)
]

-- an inode that is in core has a number of the group
pub small_number : (es : List (ℕ × Kept)) (k : ℕ) → IsSome (lookup (nat_eq k) es) → AreInodes es → k < GROUP_NUMBERS
small_number es k some are = by_case (lookup (nat_eq k) es) refl some
  where
    by_case : (o : Option Kept) → lookup (nat_eq k) es ≡ o → IsSome o → k < GROUP_NUMBERS
    by_case None is there = absurd (false≢true there)
    by_case (Some kept) is there = (are k kept is).1

none_some : (x : Kept) → None ≡ Some x → ⊥
none_some x e = cc

pub inodes_away : (es fs : List (ℕ × Kept)) (k : ℕ) → ((q : ℕ) → lookup (nat_eq q) fs ≡ cond (nat_eq k q) None (lookup (nat_eq q) es)) → AreInodes es → AreInodes fs
inodes_away es fs k same are agino kept at = elim (cases_eq k agino) [
  | inl here ↦ absurd (none_some kept (sym (cond-true (nat_eq k agino) None (lookup (nat_eq agino) es) (eq-eqb k agino here)) ∙ sym (same agino) ∙ at))
  | inr other ↦ are agino kept (sym (cond-false (nat_eq k agino) None (lookup (nat_eq agino) es) (ne_eqb k agino other)) ∙ sym (same agino) ∙ at)
]

-- the cache that contracts see, after each change of the entries
pub same_cache : (cache : Cache) (group : ℕ) (uuid : List ℕ) (es fs : List (ℕ × Kept)) (before after : ℕ) → cache_of group uuid es before ≡ cache
    → ((q : ℕ) → lookup (nat_eq q) fs ≡ lookup (nat_eq q) es) → cache_of group uuid fs after ≡ record cache { spare = after }
same_cache cache group uuid es fs before after is same =
    ap (λ (m : FinMap nat_cmp Kept). let c : Cache = record { group = group; uuid = uuid; inodes = m; spare = after } in c) (same_entries es fs same)
    ∙ ap (λ (c : Cache). let d : Cache = record c { spare = after } in d) is

pub put_cache : (cache : Cache) (group : ℕ) (uuid : List ℕ) (es fs : List (ℕ × Kept)) (before after k : ℕ) (v : Kept) → cache_of group uuid es before ≡ cache
    → ((q : ℕ) → lookup (nat_eq q) fs ≡ cond (nat_eq k q) (Some v) (lookup (nat_eq q) es)) → cache_of group uuid fs after ≡ with_incore k v cache after
put_cache cache group uuid es fs before after k v is same =
    ap (λ (m : FinMap nat_cmp Kept). let c : Cache = record { group = group; uuid = uuid; inodes = m; spare = after } in c) (inserted es fs k v same)
    ∙ ap (λ (c : Cache). with_incore k v c after) is

-- the same where the room stays
pub changed_cache : (cache : Cache) (group : ℕ) (uuid : List ℕ) (es fs : List (ℕ × Kept)) (before after k : ℕ) (v : Kept) → cache_of group uuid es before ≡ cache → after ≡ before
    → ((q : ℕ) → lookup (nat_eq q) fs ≡ cond (nat_eq k q) (Some v) (lookup (nat_eq q) es)) → cache_of group uuid fs after ≡ with_incore k v cache cache.spare
changed_cache cache group uuid es fs before after k v is room same =
    put_cache cache group uuid es fs before after k v is same ∙ ap (with_incore k v cache) (room ∙ ap (λ (c : Cache). c.spare) is)

pub away_cache : (cache : Cache) (group : ℕ) (uuid : List ℕ) (es fs : List (ℕ × Kept)) (before after k : ℕ) → cache_of group uuid es before ≡ cache
    → ((q : ℕ) → lookup (nat_eq q) fs ≡ cond (nat_eq k q) None (lookup (nat_eq q) es)) → cache_of group uuid fs after ≡ without_inode k cache after
away_cache cache group uuid es fs before after k is same =
    ap (λ (m : FinMap nat_cmp Kept). let c : Cache = record { group = group; uuid = uuid; inodes = m; spare = after } in c) (removed es fs k same)
    ∙ ap (λ (c : Cache). without_inode k c after) is

not_dirty : (b : Bool) → IsTrue (not b) → b ≡ false
not_dirty false t = refl
not_dirty true t = absurd (false≢true t)

is_not_dirty : (b : Bool) → b ≡ false → IsTrue (not b)
is_not_dirty b e = subst (λ (x : Bool). IsTrue (not x)) (sym e) refl

pub clean_told : (cache : Cache) (agino : ℕ) (k : Kept) → incore_at cache agino ≡ Some k → (IsTrue (not k.dirty) → IsClean cache agino) × (IsClean cache agino → IsTrue (not k.dirty))
clean_told cache agino k is = (
  λ t. and_holds (incore_at cache agino) k (λ (kept : Kept). kept.dirty ≡ false) is (not_dirty k.dirty t),
  λ clean. is_not_dirty k.dirty (subst (λ (o : Option Kept). IsSomeAnd o (λ (kept : Kept). kept.dirty ≡ false)) is clean),
)
