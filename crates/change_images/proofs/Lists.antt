-- Ascending lists of numbers and their members, by recursion.
use Rattle.std.proofs.Common.{◌≡◌, ◌<◌, ◌≤◌, ◌+◌, ◌⊎◌, ℕ, zero, suc, List, [], ◌∷◌, ◌++◌, length, map, get_or, inl, inr, refl, ap, sym, subst, ◌∙◌, arith}
use Rattle.std.proofs.lemmas.Bool.{cases_eq, cases_lt}
use Rattle.std.specs.Prelude.{⊤, Contains}
use Rattle.std.specs.List.{AllByRecursion, range_with_len}
use Rattle.std.specs.List.Sorted.{IsStrictlyIncreasing}

abbrev pub In : ℕ → List ℕ → Type 0
In x [] = ⊥
In x (y ∷ ys) = (y ≡ x) ⊎ In x ys

abbrev pub Up : List ℕ → Type 0
Up [] = ⊤
Up (x ∷ xs) = AllByRecursion (λ later. x < later) xs × Up xs

pub in_from : (x : ℕ) (xs : List ℕ) → Contains xs x → In x xs
in_from x [] (k, lt, at) = absurd (omega (arith, lt))
in_from x (y ∷ ys) (zero, lt, at) = inl at
in_from x (y ∷ ys) (suc k, lt, at) = inr (in_from x ys (k, omega arith, at))

pub contains_from : (x : ℕ) (xs : List ℕ) → In x xs → Contains xs x
contains_from x [] has = absurd has
contains_from x (y ∷ ys) (inl same) = (0, omega arith, same)
contains_from x (y ∷ ys) (inr has) = let rest = contains_from x ys has in (suc rest.0, omega (arith, rest.1), rest.2)

pub weaker : {X : Type 0} (P Q : X → Type 0) (xs : List X) → ((x : X) → P x → Q x) → AllByRecursion P xs → AllByRecursion Q xs
weaker P Q [] so all = tt
weaker P Q (x ∷ xs) so all = (so x all.0, weaker P Q xs so all.1)

pub up_from : (xs : List ℕ) → IsStrictlyIncreasing xs → Up xs
up_from [] up = tt
up_from (x ∷ []) up = (tt, tt)
up_from (x ∷ y ∷ ys) up =
    let rest : Up (y ∷ ys) = up_from (y ∷ ys) (λ k lt.
    let e : suc k + 1 ≡ suc (k + 1) = omega arith in
    subst (λ (n : ℕ). get_or (y ∷ ys) k 0 < get_or (x ∷ y ∷ ys) n 0) e (up (suc k) (omega (arith, lt)))) in
    let first : x < y = up 0 (omega arith) in
    ((first, weaker (λ later. y < later) (λ later. x < later) ys (λ z more. omega (arith, first, more)) rest.0), rest)

pub increasing : (xs : List ℕ) → Up xs → IsStrictlyIncreasing xs
increasing [] up k lt = absurd (omega (arith, lt))
increasing (x ∷ []) up k lt = absurd (omega (arith, lt))
increasing (x ∷ y ∷ ys) up zero lt = up.0.0
increasing (x ∷ y ∷ ys) up (suc k) lt =
    let e : suc (k + 1) ≡ suc k + 1 = omega arith in
    subst (λ (n : ℕ). get_or (y ∷ ys) k 0 < get_or (x ∷ y ∷ ys) n 0) e (increasing (y ∷ ys) up.1 k (omega (arith, lt)))

pub all-append : {X : Type 0} (P : X → Type 0) (xs ys : List X) → AllByRecursion P xs → AllByRecursion P ys → AllByRecursion P (xs ++ ys)
all-append P [] ys a b = b
all-append P (x ∷ xs) ys a b = (a.0, all-append P xs ys a.1 b)

-- two lists, the first below a number and the second from it on
pub up-append : (xs ys : List ℕ) (bound : ℕ) → Up xs → Up ys → AllByRecursion (λ x. x < bound) xs → AllByRecursion (λ y. bound ≤ y) ys → Up (xs ++ ys)
up-append [] ys bound a b low high = b
up-append (x ∷ xs) ys bound a b low high =
    let lt : x < bound = low.0 in
    (all-append (λ later. x < later) xs ys a.0 (weaker (λ y. bound ≤ y) (λ later. x < later) ys (λ y more. omega (arith, lt, more)) high), up-append xs ys bound a.1 b low.1 high)

pub in_left : (x : ℕ) (xs ys : List ℕ) → In x xs → In x (xs ++ ys)
in_left x [] ys has = absurd has
in_left x (z ∷ xs) ys (inl same) = inl same
in_left x (z ∷ xs) ys (inr has) = inr (in_left x xs ys has)

pub in_right : (x : ℕ) (xs ys : List ℕ) → In x ys → In x (xs ++ ys)
in_right x [] ys has = has
in_right x (z ∷ xs) ys has = inr (in_right x xs ys has)

-- ---- a range

pub from_range : (a n : ℕ) → AllByRecursion (λ x. a ≤ x) (range_with_len a n)
from_range a zero = tt
from_range a (suc n) = (omega arith, weaker (λ x. a + 1 ≤ x) (λ x. a ≤ x) (range_with_len (a + 1) n) (λ x more. omega (arith, more)) (from_range (a + 1) n))

pub to_range : (a n bound : ℕ) → a + n ≤ bound → AllByRecursion (λ x. x < bound) (range_with_len a n)
to_range a zero bound le = tt
to_range a (suc n) bound le = (omega arith, to_range (a + 1) n bound (omega arith))

pub up-range : (a n : ℕ) → Up (range_with_len a n)
up-range a zero = tt
up-range a (suc n) = (weaker (λ x. a + 1 ≤ x) (λ x. a < x) (range_with_len (a + 1) n) (λ x more. omega (arith, more)) (from_range (a + 1) n), up-range (a + 1) n)

pub in_range : (a n x : ℕ) → a ≤ x → x < a + n → In x (range_with_len a n)
in_range a zero x low high = absurd (omega arith)
in_range a (suc n) x low high =
    elim (sooner a x low) [
      | inl same ↦ inl same
      | inr more ↦ inr (in_range (a + 1) n x (omega arith) (omega arith))
    ]
  where
    sooner : (a x : ℕ) → a ≤ x → (a ≡ x) ⊎ (a < x)
    sooner a x low = elim (cases_lt a x) [ inl lt ↦ inr lt | inr past ↦ inl (omega (arith, past)) ]

-- ---- what an ascending list has

pub in_or_out : (x : ℕ) (xs : List ℕ) → In x xs ⊎ (¬ In x xs)
in_or_out x [] = inr (λ has. has)
in_or_out x (y ∷ ys) =
    elim (cases_eq y x) [
      | inl same ↦ inl (inl same)
      | inr apart ↦ elim (in_or_out x ys) [
        | inl has ↦ inl (inr has)
        | inr out ↦ inr (λ has. elim has [ inl same ↦ apart same | inr later ↦ out later ])
      ]
    ]

-- no more numbers than there are from one number to another
pub up-few : (xs : List ℕ) (low high : ℕ) → low ≤ high → Up xs → AllByRecursion (λ x. low ≤ x) xs → AllByRecursion (λ x. x < high) xs → low + length xs ≤ high
up-few [] low high le up a b = omega (arith, le)
up-few (x ∷ xs) low high le up a b =
    let first : low ≤ x = a.0 in
    let last : x < high = b.0 in
    let rest = up-few xs (x + 1) high (omega (arith, last)) up.1 (weaker (λ later. x < later) (λ later. x + 1 ≤ later) xs (λ later more. omega (arith, more)) up.0) b.1 in
    omega (arith, first, rest)

pub up-plus : (a : ℕ) (xs : List ℕ) → Up xs → Up (map (λ k. a + k) xs)
up-plus a [] up = tt
up-plus a (x ∷ xs) up = (above a x xs up.0, up-plus a xs up.1)
  where
    above : (a x : ℕ) (xs : List ℕ) → AllByRecursion (λ later. x < later) xs → AllByRecursion (λ later. a + x < later) (map (λ k. a + k) xs)
    above a x [] all = tt
    above a x (y ∷ ys) all = (omega (arith, all.0), above a x ys all.1)

pub all-plus : (a low high : ℕ) (xs : List ℕ) → AllByRecursion (λ x. x < high) xs → low ≤ a → AllByRecursion (λ x. low ≤ x) (map (λ k. a + k) xs) × AllByRecursion (λ x. x < a + high) (map (λ k. a + k) xs)
all-plus a low high [] all le = (tt, tt)
all-plus a low high (x ∷ xs) all le = let rest = all-plus a low high xs all.1 le in ((omega (arith, le), rest.0), (omega (arith, all.0), rest.1))

pub in_plus : (a k : ℕ) (xs : List ℕ) → In k xs → In (a + k) (map (λ k. a + k) xs)
in_plus a k [] has = absurd has
in_plus a k (x ∷ xs) (inl same) = inl (ap (λ (n : ℕ). a + n) same)
in_plus a k (x ∷ xs) (inr has) = inr (in_plus a k xs has)

pub length-plus : (a : ℕ) (xs : List ℕ) → length (map (λ k. a + k) xs) ≡ length xs
length-plus a [] = refl
length-plus a (x ∷ xs) = ap suc (length-plus a xs)

pub length-joined : (xs ys : List ℕ) → length (xs ++ ys) ≡ length xs + length ys
length-joined [] ys = omega arith
length-joined (x ∷ xs) ys = let rest = length-joined xs ys in omega (arith, rest)
