-- Lists with one element changed, or one more.
use Rattle.std.proofs.Common.{◌≡◌, ◌≢◌, ◌+◌, ◌<◌, ◌≤◌, ◌⊎◌, inl, inr, ℕ, zero, suc, List, [], ◌∷◌, ◌++◌, Option, None, Some, IsSome, IsSomeAnd, length, take, slice_get, slice_index_or, slice_set, refl, sym, ap, subst, arith}
use Rattle.std.specs.List.{AllByRecursion, Contains}
use Rattle.std.proofs.lemmas.Bool.{false≢true}
use Rattle.std.proofs.lemmas.Option.{none-some}
use Rattle.std.proofs.lemmas.List.{get_or-set_same, get_or-set_other}

pub read_same : {X : Type 0} (xs : List X) (i : ℕ) (x d : X) → i < length xs → slice_index_or (slice_set xs i x) i d ≡ x
read_same xs i x d low = get_or-set_same xs i x d low

pub read_other : {X : Type 0} (xs : List X) (i j : ℕ) (x d : X) → j ≢ i → slice_index_or (slice_set xs i x) j d ≡ slice_index_or xs j d
read_other xs i j x d apart = get_or-set_other xs i j x d apart

pub read_past : {X : Type 0} (xs : List X) (i : ℕ) (d : X) → length xs ≤ i → slice_index_or xs i d ≡ d
read_past [] i d high = refl
read_past (x ∷ xs) zero d high = absurd (omega arith)
read_past (x ∷ xs) (suc i) d high = read_past xs i d (omega arith)

pub set_past : {X : Type 0} (xs : List X) (i : ℕ) (x : X) → length xs ≤ i → slice_set xs i x ≡ xs
set_past [] i x high = refl
set_past (y ∷ xs) zero x high = absurd (omega arith)
set_past (y ∷ xs) (suc i) x high = ap (λ ys. y ∷ ys) (set_past xs i x (omega arith))

pub set_twice : {X : Type 0} (xs : List X) (i : ℕ) (x y : X) → slice_set (slice_set xs i x) i y ≡ slice_set xs i y
set_twice [] i x y = refl
set_twice (z ∷ xs) zero x y = refl
set_twice (z ∷ xs) (suc i) x y = ap (λ ys. z ∷ ys) (set_twice xs i x y)

pub set-length : {X : Type 0} (xs : List X) (i : ℕ) (x : X) → length (slice_set xs i x) ≡ length xs
set-length [] i x = refl
set-length (y ∷ xs) zero x = refl
set-length (y ∷ xs) (suc i) x = ap suc (set-length xs i x)

-- what is so of each element is so of the one that is read
pub all_read : {X : Type 0} (P : X → Type 0) (xs : List X) (i : ℕ) (d : X) → AllByRecursion P xs → i < length xs → P (slice_index_or xs i d)
all_read P [] i d all low = absurd (omega arith)
all_read P (x ∷ xs) zero d all low = all.0
all_read P (x ∷ xs) (suc i) d all low = all_read P xs i d all.1 (omega arith)

-- and of each after one was changed
pub all_set : {X : Type 0} (P : X → Type 0) (xs : List X) (i : ℕ) (x d : X) → AllByRecursion P xs → (P (slice_index_or xs i d) → P x) → AllByRecursion P (slice_set xs i x)
all_set P [] i x d all new = tt
all_set P (y ∷ xs) zero x d all new = (new all.0, all.1)
all_set P (y ∷ xs) (suc i) x d all new = (all.0, all_set P xs i x d all.1 new)

pub all_push : {X : Type 0} (P : X → Type 0) (xs : List X) (x : X) → AllByRecursion P xs → P x → AllByRecursion P (xs ++ x ∷ [])
all_push P [] x all new = (new, tt)
all_push P (y ∷ xs) x all new = (all.0, all_push P xs x all.1 new)

pub all_append : {X : Type 0} (P : X → Type 0) (xs ys : List X) → AllByRecursion P xs → AllByRecursion P ys → AllByRecursion P (xs ++ ys)
all_append P [] ys first second = second
all_append P (x ∷ xs) ys first second = (first.0, all_append P xs ys first.1 second)

-- and of each that the list contains
pub all_contains : {X : Type 0} (P : X → Type 0) (xs : List X) (x : X) → AllByRecursion P xs → Contains xs x → P x
all_contains P [] x all (k, low, at) = absurd (omega (arith, low))
all_contains P (y ∷ xs) x all (zero, low, at) = subst P at all.0
all_contains P (y ∷ xs) x all (suc k, low, at) = all_contains P xs x all.1 (k, omega (arith, low), at)

pub all_weaker : {X : Type 0} (P Q : X → Type 0) (xs : List X) → ((x : X) → P x → Q x) → AllByRecursion P xs → AllByRecursion Q xs
all_weaker P Q [] f all = tt
all_weaker P Q (x ∷ xs) f all = (f x all.0, all_weaker P Q xs f all.1)

-- what a list contains behind its head
pub contains_cons : {X : Type 0} (y : X) (ys : List X) (x : X) → Contains ys x → Contains (y ∷ ys) x
contains_cons y ys x (k, low, at) = (suc k, omega (arith, low), at)

pub contains_tail : {X : Type 0} (y : X) (ys : List X) (x : X) → x ≢ y → Contains (y ∷ ys) x → Contains ys x
contains_tail y ys x apart (zero, low, at) = absurd (apart (sym at))
contains_tail y ys x apart (suc k, low, at) = (k, omega (arith, low), at)

-- all of a list
pub take_all : {X : Type 0} (xs : List X) → take (length xs) xs ≡ xs
take_all [] = refl
take_all (x ∷ xs) = ap (λ ys. x ∷ ys) (take_all xs)

-- an element of a list with one more at its end
pub get_push : {X : Type 0} (xs : List X) (x y : X) (i : ℕ) → slice_get (xs ++ x ∷ []) i ≡ Some y → ((i < length xs) × (slice_get xs i ≡ Some y)) ⊎ ((i ≡ length xs) × (Some x ≡ Some y))
get_push [] x y zero at = inr (refl, at)
get_push [] x y (suc i) at = absurd (none-some y at)
get_push (z ∷ xs) x y zero at = inl (omega arith, at)
get_push (z ∷ xs) x y (suc i) at = elim (get_push xs x y i at) [
  | inl here ↦ inl (omega (arith, here.0), here.1)
  | inr last ↦ inr (ap suc last.0, last.1)
]

pub get_kept : {X : Type 0} (xs : List X) (x y : X) (i : ℕ) → slice_get xs i ≡ Some y → slice_get (xs ++ x ∷ []) i ≡ Some y
get_kept [] x y i at = absurd (none-some y at)
get_kept (z ∷ xs) x y zero at = at
get_kept (z ∷ xs) x y (suc i) at = get_kept xs x y i at

pub get_last : {X : Type 0} (xs : List X) (x : X) → slice_get (xs ++ x ∷ []) (length xs) ≡ Some x
get_last [] x = refl
get_last (z ∷ xs) x = get_last xs x

pub length-push : {X : Type 0} (xs : List X) (x : X) → length (xs ++ x ∷ []) ≡ length xs + 1
length-push [] x = omega arith
length-push (z ∷ xs) x = let rest = length-push xs x in omega (arith, rest)

-- the element of a list that has one, where something is so of it
pub the_some : {X : Type 0} (P : X → Type 0) (o : Option X) → IsSomeAnd o P → (x : X) × (o ≡ Some x) × P x
the_some P None is = absurd is
the_some P (Some x) is = (x, refl, is)

-- none is not some
pub gone_not : {X : Type 0} (o : Option X) → o ≡ None → IsSome o → ⊥
gone_not None none has = false≢true has
gone_not (Some x) none has = none-some x (sym none)

pub is_some_and : {X : Type 0} (P : X → Type 0) (o : Option X) (x : X) → o ≡ Some x → P x → IsSomeAnd o P
is_some_and {X = X} P None x at is = absurd (none-some x at)
is_some_and {X = X} P (Some y) x at is = subst (λ (o : Option X). IsSomeAnd o P) (sym at) is
