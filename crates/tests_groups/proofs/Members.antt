-- Members of lists of numbers.
use Rattle.std.proofs.Common.{◌≡◌, ◌≢◌, ◌⊎◌, ℕ, zero, suc, List, [], ◌∷◌, Contains, subst, inl, inr, arith}
use Rattle.std.specs.List.{AllByRecursion}

contains_cases : (y x : ℕ) (ys : List ℕ) → Contains (y ∷ ys) x → (y ≡ x) ⊎ Contains ys x
contains_cases y x ys (zero, within, same) = inl same
contains_cases y x ys (suc k, within, same) = inr (k, omega arith, same)

pub contains_none : (x : ℕ) → Contains [] x → ⊥
contains_none x (k, within, same) = omega arith

pub not_first : (y x : ℕ) (ys : List ℕ) → y ≢ x → (Contains ys x → ⊥) → Contains (y ∷ ys) x → ⊥
not_first y x ys away absent member = elim (contains_cases y x ys member) [ inl same ↦ away same | inr later ↦ absent later ]

-- what holds of all holds of a member
pub all_of : (P : ℕ → Type 0) (xs : List ℕ) (x : ℕ) → AllByRecursion P xs → Contains xs x → P x
all_of P [] x all member = absurd (contains_none x member)
all_of P (y ∷ ys) x all member =
    elim (contains_cases y x ys member) [ inl same ↦ subst P same all.0 | inr behind ↦ all_of P ys x all.1 behind ]
