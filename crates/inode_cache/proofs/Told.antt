-- The sets of the numbers that are in core and dirty.
use Rattle.std.proofs.Common.{◌≡◌, ◌≢◌, ◌≤◌, ◌<◌, ℕ, Bool, true, false, cond, List, Option, None, Some, refl, ap, sym, subst, ◌∙◌, inl, inr}
use Rattle.std.specs.Prelude.{nat_eq, IfNone, IfSome, IsSome, IsSomeAnd}
use Rattle.std.specs.Map.{lookup}
use Rattle.std.proofs.lemmas.Bool.{cases_eq, eq-eqb, ne_eqb, cond-true, cond-false}
use Rattle.inode_cache.specs.declared.inode.Kept.{Kept}
use Rattle.inode_cache.specs.Caches.{Cache, HasNumbers, incore_at, is_dirty}
use Rattle.inode_cache.specs.Numbers.{has_number}

-- one entry was put in, changed or taken out, and the set follows at its number alone
pub told_put : (told : Option Kept → Bool) (es fs : List (ℕ × Kept)) (old new : List ℕ) (agino : ℕ) (o : Option Kept) → HasNumbers told es old
    → ((q : ℕ) → lookup (nat_eq q) fs ≡ cond (nat_eq agino q) o (lookup (nat_eq q) es)) → has_number new agino ≡ told o
    → ((n : ℕ) → n ≢ agino → has_number new n ≡ has_number old n) → HasNumbers told fs new
told_put told es fs old new agino o has same here others n = elim (cases_eq n agino) [
  | inl e ↦
      ap (has_number new) e ∙ here
      ∙ ap told (sym (same n ∙ cond-true (nat_eq agino n) o (lookup (nat_eq n) es) (eq-eqb agino n (sym e))))
  | inr apart ↦
      others n apart ∙ has n
      ∙ ap told (sym (same n ∙ cond-false (nat_eq agino n) o (lookup (nat_eq n) es) (ne_eqb agino n (λ e. apart (sym e)))))
]

-- the set stays
pub told_kept : (told : Option Kept → Bool) (es fs : List (ℕ × Kept)) (set : List ℕ) (agino : ℕ) (o : Option Kept) → HasNumbers told es set
    → ((q : ℕ) → lookup (nat_eq q) fs ≡ cond (nat_eq agino q) o (lookup (nat_eq q) es)) → told (lookup (nat_eq agino) es) ≡ told o → HasNumbers told fs set
told_kept told es fs set agino o has same here = told_put told es fs set set agino o has same (has agino ∙ here) (λ n apart. refl)

pub told_same : (told : Option Kept → Bool) (es fs : List (ℕ × Kept)) (set : List ℕ) → ((q : ℕ) → lookup (nat_eq q) fs ≡ lookup (nat_eq q) es) → HasNumbers told es set → HasNumbers told fs set
told_same told es fs set same has n = has n ∙ ap told (sym (same n))

-- what is clean is not dirty
pub clean_not_dirty : (o : Option Kept) → IsSomeAnd o (λ kept. kept.dirty ≡ false) → is_dirty o ≡ false
clean_not_dirty None clean = absurd clean
clean_not_dirty (Some kept) clean = clean

pub some_and_some : (o : Option Kept) (P : Kept → Type 0) → IsSomeAnd o P → IsSome o
some_and_some None P h = absurd h
some_and_some (Some kept) P h = refl

pub some_and_holds : (o : Option Kept) (kept : Kept) (P : Kept → Type 0) → o ≡ Some kept → IsSomeAnd o P → P kept
some_and_holds o kept P is h = subst (λ (x : Option Kept). IsSomeAnd x P) is h

-- ---- the next number

abbrev Tells : (Option Kept → Bool) → Cache → List ℕ → Type 0
Tells told cache set = (n : ℕ) → has_number set n ≡ told (incore_at cache n)

pub next_found : (told : Option Kept → Bool) (cache : Cache) (set : List ℕ) (o : Option ℕ) (from : ℕ) → Tells told cache set
    → IfSome o (λ n. (from ≤ n) × (has_number set n ≡ true)) → IfSome o (λ n. (from ≤ n) × (told (incore_at cache n) ≡ true))
next_found told cache set None from tells found = found
next_found told cache set (Some n) from tells found = (found.0, sym (tells n) ∙ found.1)

pub next_least : (told : Option Kept → Bool) (cache : Cache) (set : List ℕ) (o : Option ℕ) (from : ℕ) → Tells told cache set
    → IfSome o (λ n. (k : ℕ) → from ≤ k → k < n → has_number set k ≡ false) → IfSome o (λ n. (k : ℕ) → from ≤ k → k < n → told (incore_at cache k) ≡ false)
next_least told cache set None from tells least = least
next_least told cache set (Some n) from tells least = λ k low high. sym (tells k) ∙ least k low high

pub next_none : (told : Option Kept → Bool) (cache : Cache) (set : List ℕ) (o : Option ℕ) (from : ℕ) → Tells told cache set
    → IfNone o ((k : ℕ) → from ≤ k → has_number set k ≡ false) → IfNone o ((k : ℕ) → from ≤ k → told (incore_at cache k) ≡ false)
next_none told cache set None from tells none = λ k low. sym (tells k) ∙ none k low
next_none told cache set (Some n) from tells none = none
