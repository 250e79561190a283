-- Members of lists, and lists without a member twice.
use Rattle.std.proofs.Common.{◌≡◌, ◌≢◌, ◌==◌, ◌+◌, ◌≤◌, ◌⊎◌, ℕ, zero, suc, Bool, cond, eqb, count_by, List, [], ◌∷◌, ◌++◌, length, Contains, refl, sym, ap, subst, ◌∙◌, inl, inr, arith, length-append}
use Rattle.std.specs.Prelude.{⊤}
use Rattle.std.specs.List.{AllByRecursion}
use Rattle.std.proofs.lemmas.Bool.{cases_eq, eq-eqb, ne_eqb}
use Rattle.std.proofs.lemmas.List.Sums.{sum_by-cons}
use Rattle.std.proofs.lemmas.List.Elements.{Contains-append_left, Contains-append_right, Contains-append_cases}

pub contains_cases : (y x : ℕ) (ys : List ℕ) → Contains (y ∷ ys) x → (y ≡ x) ⊎ Contains ys x
contains_cases y x ys (zero, within, same) = inl same
contains_cases y x ys (suc k, within, same) = inr (k, omega arith, same)

pub contains_more : (y x : ℕ) (ys : List ℕ) → Contains ys x → Contains (y ∷ ys) x
contains_more y x ys (k, within, same) = (suc k, omega arith, same)

pub contains_first : (x : ℕ) (xs : List ℕ) → Contains (x ∷ xs) x
contains_first x xs = (zero, omega arith, refl)

pub contains_none : (x : ℕ) → Contains [] x → ⊥
contains_none x (k, within, same) = omega arith

pub not_first : (y x : ℕ) (ys : List ℕ) → y ≢ x → (Contains ys x → ⊥) → Contains (y ∷ ys) x → ⊥
not_first y x ys away absent member = elim (contains_cases y x ys member) [ inl same ↦ away same | inr later ↦ absent later ]

-- what holds of all holds of a member
pub all_of : (P : ℕ → Type 0) (xs : List ℕ) (x : ℕ) → AllByRecursion P xs → Contains xs x → P x
all_of P [] x all member = absurd (contains_none x member)
all_of P (y ∷ ys) x all member =
    elim (contains_cases y x ys member) [ inl same ↦ subst P same all.0 | inr behind ↦ all_of P ys x all.1 behind ]

-- what holds of each member holds of all
pub all_from : (P : ℕ → Type 0) (xs : List ℕ) → ((x : ℕ) → Contains xs x → P x) → AllByRecursion P xs
all_from P [] each = tt
all_from P (y ∷ ys) each = (each y (contains_first y ys), all_from P ys (λ x member. each x (contains_more y x ys member)))

-- no member stands twice
abbrev pub IsDistinct : List ℕ → Type 0
IsDistinct [] = ⊤
IsDistinct (x ∷ xs) = (Contains xs x → ⊥) × IsDistinct xs

-- a list around one of its members
pub around : (xs : List ℕ) (x : ℕ) → Contains xs x → (before : List ℕ) × (behind : List ℕ) × (xs ≡ before ++ x ∷ behind)
around [] x member = absurd (contains_none x member)
around (y ∷ ys) x member =
    elim (contains_cases y x ys member) [
      | inl same ↦ ([], ys, ap (λ (z : ℕ). z ∷ ys) same)
      | inr later ↦ let s = around ys x later in (y ∷ s.0, s.1, ap (λ (zs : List ℕ). y ∷ zs) s.2)
    ]

-- a member of a list that is not the one in its middle stands before it or behind it
pub beside : (before behind : List ℕ) (x y : ℕ) → Contains (before ++ x ∷ behind) y → (x ≡ y → ⊥) → Contains (before ++ behind) y
beside before behind x y member other =
    elim (Contains-append_cases before (x ∷ behind) y member) [
      | inl left ↦ Contains-append_left before behind y left
      | inr right ↦ elim (contains_cases x y behind right) [ inl same ↦ absurd (other same) | inr later ↦ Contains-append_right before behind y later ]
    ]

pub moved : (xs ys : List ℕ) (y : ℕ) → xs ≡ ys → Contains xs y → Contains ys y
moved xs ys y same member = subst (λ (zs : List ℕ). Contains zs y) same member

pub moved_to : (xs : List ℕ) (x y : ℕ) → x ≡ y → Contains xs y → Contains xs x
moved_to xs x y same member = subst (λ (z : ℕ). Contains xs z) (sym same) member

-- a list without a member twice whose members are all in another list is no longer than that
pub fits_in : (xs ys : List ℕ) → IsDistinct xs → AllByRecursion (Contains ys) xs → length xs ≤ length ys
fits_in [] ys distinct all = omega arith
fits_in (x ∷ xs) ys distinct all =
    let s = around ys x all.0 in
    let rest : AllByRecursion (Contains (s.0 ++ s.1)) xs =
    all_from (Contains (s.0 ++ s.1)) xs (λ y member.
    beside s.0 s.1 x y (moved ys (s.0 ++ x ∷ s.1) y s.2 (all_of (Contains ys) xs y all.1 member)) (λ same. distinct.0 (moved_to xs x y same member))) in
    let fewer = fits_in xs (s.0 ++ s.1) distinct.1 rest in
    let whole = ap length s.2 in
    omega (arith, fewer, whole, length-append s.0 s.1, length-append s.0 (x ∷ s.1))

-- how often a number stands in a list
abbrev count_of : List ℕ → ℕ → ℕ
count_of xs x = count_by (λ other. other == x) xs

count_at : (y x : ℕ) (ys : List ℕ) → y ≡ x → count_of (y ∷ ys) x ≡ 1 + count_of ys x
count_at y x ys same = sum_by-cons (λ other. cond (eqb other x) 1 0) y ys ∙ ap (λ (b : Bool). cond b 1 0 + count_of ys x) (eq-eqb y x same)

count_other : (y x : ℕ) (ys : List ℕ) → (y ≡ x → ⊥) → count_of (y ∷ ys) x ≡ 0 + count_of ys x
count_other y x ys other = sum_by-cons (λ other. cond (eqb other x) 1 0) y ys ∙ ap (λ (b : Bool). cond b 1 0 + count_of ys x) (ne_eqb y x other)

-- an inode that is no member is counted no time
none_counted : (xs : List ℕ) (x : ℕ) → (Contains xs x → ⊥) → count_of xs x ≡ 0
none_counted [] x absent = refl
none_counted (y ∷ ys) x absent =
    let rest = none_counted ys x (λ member. absent (contains_more y x ys member)) in
    let here = count_other y x ys (λ same. absent (moved_to (y ∷ ys) x y (sym same) (contains_first y ys))) in
    here ∙ omega (arith, rest)

pub count_distinct : (xs : List ℕ) (x : ℕ) → IsDistinct xs → count_of xs x ≤ 1
count_distinct [] x distinct = omega arith
count_distinct (y ∷ ys) x distinct =
    elim (cases_eq y x) [
      | inl same ↦
          let rest = none_counted ys x (λ member. distinct.0 (moved_to ys y x same member)) in
          let here = count_at y x ys same in
          omega (arith, rest, here)
      | inr other ↦
          let rest = count_distinct ys x distinct.1 in
          let here = count_other y x ys other in
          omega (arith, rest, here)
    ]
