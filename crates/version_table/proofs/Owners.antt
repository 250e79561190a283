-- Whose own each entry is.
use Rattle.std.proofs.Common.{◌≡◌, ◌≢◌, ℕ, zero, suc, ◌+◌, ◌<◌, ◌≤◌, Bool, true, false, List, [], ◌∷◌, ◌++◌, length, sym, refl, ap, subst, arith}
use mathlib.Core.Option.{some, some-injective, some-ne-none}
use mathlib.Core.Logic.{dite}
use native.Mathlib.Decide.{ℕ_discrete}
use lib.ListN.{get_elem?}
use Rattle.std.specs.Prelude.{nat_lt}
use Rattle.life_limits.specs.declared.TheConstants.{MAX_ACTORS}
use Rattle.life_table.specs.declared.types.Entry.{Entry}
use Rattle.atomic_table.specs.Table.{State}
use Rattle.version_table.specs.declared.story.Story.{Story}
use Rattle.version_table.specs.Story.{one_if, known_of, times}
use Rattle.version_table.specs.Rule.{total, owed, Told}
use Rattle.version_table.specs.Laws.{EntriesHaveOneOwner}

-- what one or two of a list have is no more than what all have
term_le : (f : Story → ℕ) (l : List Story) (i : ℕ) (v : Story) → get_elem? l i ≡ some v → f v ≤ total f l
term_le f [] i v e = absurd (some-ne-none v (sym e))
term_le f (x ∷ xs) zero v e = omega (arith, ap f (some-injective x v e))
term_le f (x ∷ xs) (suc i) v e = omega (arith, term_le f xs i v e)

terms_le : (f : Story → ℕ) (l : List Story) (i j : ℕ) (v w : Story) → get_elem? l i ≡ some v → get_elem? l j ≡ some w → i ≢ j → f v + f w ≤ total f l
terms_le f [] i j v w e d apart = absurd (some-ne-none v (sym e))
terms_le f (x ∷ xs) zero zero v w e d apart = absurd (apart refl)
terms_le f (x ∷ xs) zero (suc j) v w e d apart = omega (arith, ap f (some-injective x v e), term_le f xs j w d)
terms_le f (x ∷ xs) (suc i) zero v w e d apart = omega (arith, ap f (some-injective x w d), term_le f xs i v e)
terms_le f (x ∷ xs) (suc i) (suc j) v w e d apart = omega (arith, terms_le f xs i j v w e d (λ same. apart (ap suc same)))

-- a place is owed once at most, and what is owed of a history is owed of each beginning that has the place
one_at_most : (b : Bool) → one_if b ≤ 1
one_at_most true = omega arith
one_at_most false = omega arith

owed_le : (xs : List Entry) (at : ℕ) → owed xs at ≤ 1
owed_le [] at = omega arith
owed_le (x ∷ xs) zero = one_at_most (nat_lt x.actor MAX_ACTORS)
owed_le (x ∷ xs) (suc at) = owed_le xs at

owed-append : (xs ys : List Entry) (at : ℕ) → at < length xs → owed (xs ++ ys) at ≡ owed xs at
owed-append [] ys at inside = absurd (omega arith)
owed-append (x ∷ xs) ys zero inside = refl
owed-append (x ∷ xs) ys (suc at) inside = owed-append xs ys at (omega arith)

pub owners : (count : ℕ) (s : State Entry Story) → Told count s → EntriesHaveOneOwner s
owners count s was = record {
  once = λ i group at v at_i. omega (arith, term_le (λ (u : Story). times group at u.places) s.views i v at_i, was.once group at, owed_le (was.story group) at);
  alone = λ i j group at v w at_i at_j has_v has_w. dite (ℕ_discrete i j)
      (λ same. same)
      (λ apart. absurd (let both = terms_le (λ (u : Story). times group at u.places) s.views i j v w at_i at_j apart in omega (arith, both, has_v, has_w, was.once group at, owed_le (was.story group) at)));
  known = λ i group at v at_i has.
      let mine = was.fits i v at_i in
      let begins = mine.known group in
      let here = owed-append (known_of group v.lines) begins.0 at (mine.own group at has) in
      let all = ap (λ (l : List Entry). owed l at) begins.1 in
      omega (arith, here, all, has, term_le (λ (u : Story). times group at u.places) s.views i v at_i, was.once group at, owed_le (was.story group) at);
  counted = λ j group at keeper at_j kept. subst (λ (l : List Entry). total (λ (u : Story). times group at u.places) s.views ≡ owed l at) (sym ((was.fits j keeper at_j).exact group kept)) (was.once group at);
}
