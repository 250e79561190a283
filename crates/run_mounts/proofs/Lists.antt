-- Lists with one element more.
use Rattle.std.proofs.Common.{◌≡◌, ◌⊎◌, ◌<◌, ◌+◌, ℕ, zero, suc, List, [], ◌∷◌, ◌++◌, length, Some, inl, inr, refl, ap, arith}
use Rattle.std.specs.Prelude.{slice_get}
use Rattle.std.specs.List.{AllByRecursion, range_with_len}

get-more-step : {X : Type 0} (xs : List X) (x y : X) (i : ℕ) → ((i < length xs) × (slice_get xs i ≡ Some y)) ⊎ ((i ≡ length xs) × (x ≡ y))
    → (z : X) → ((suc i < length (z ∷ xs)) × (slice_get (z ∷ xs) (suc i) ≡ Some y)) ⊎ ((suc i ≡ length (z ∷ xs)) × (x ≡ y))
get-more-step xs x y i (inl here) z = let low = here.0 in inl (omega (arith, low), here.1)
get-more-step xs x y i (inr last) z = let low = last.0 in inr (ap suc low, last.1)

-- an element of a list with one more is one of the list, or the last one
pub get-more : {X : Type 0} (xs : List X) (x y : X) (i : ℕ) → slice_get (xs ++ x ∷ []) i ≡ Some y
    → ((i < length xs) × (slice_get xs i ≡ Some y)) ⊎ ((i ≡ length xs) × (x ≡ y))
get-more [] x y zero is = let e : x ≡ y = cc in inr (refl, e)
get-more [] x y (suc i) is = absurd cc
get-more (z ∷ xs) x y zero is = inl (omega arith, is)
get-more (z ∷ xs) x y (suc i) is = get-more-step xs x y i (get-more xs x y i is) z

pub get-within : {X : Type 0} (xs : List X) (x y : X) (i : ℕ) → i < length xs → slice_get (xs ++ x ∷ []) i ≡ Some y → slice_get xs i ≡ Some y
get-within xs x y i low is =
    elim (get-more xs x y i is) [
      | inl here ↦ here.1
      | inr last ↦ let e = last.0 in absurd (omega (arith, e, low))
    ]

-- what stands at a place of numbers from one on
pub range-get : (a n i x : ℕ) → slice_get (range_with_len a n) i ≡ Some x → x ≡ a + i
range-get a zero i x is = absurd cc
range-get a (suc n) zero x is = let e : a ≡ x = cc in omega (arith, e)
range-get a (suc n) (suc i) x is = let r = range-get (a + 1) n i x is in omega (arith, r)

pub all-more : {X : Type 0} (P : X → Type 0) (xs : List X) (x : X) → AllByRecursion P xs → P x → AllByRecursion P (xs ++ x ∷ [])
all-more P [] x all here = (here, tt)
all-more P (y ∷ xs) x all here = (all.0, all-more P xs x all.1 here)

pub all-last : {X : Type 0} (P : X → Type 0) (xs : List X) (x y : X) → (P x → P y) → AllByRecursion P (xs ++ x ∷ []) → AllByRecursion P (xs ++ y ∷ [])
all-last P [] x y go all = (go all.0, tt)
all-last P (z ∷ xs) x y go all = (all.0, all-last P xs x y go all.1)
