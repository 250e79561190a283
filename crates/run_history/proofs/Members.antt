-- Members of lists of calls.
use Rattle.std.proofs.Common.{◌≡◌, ◌⊎◌, inl, inr, ℕ, zero, suc, Bool, true, false, List, [], ◌∷◌, ◌++◌, Option, Some, refl, sym, arith}
use Rattle.std.specs.Prelude.{Contains, map, ◌==◌, if◌then◌else◌}
use Rattle.run_history.specs.States.{LineCall, going_of, of_others}

pub Mem : {X : Type 0} → X → List X → Type 0
Mem x [] = ⊥
Mem x (y ∷ ys) = (x ≡ y) ⊎ Mem x ys

pub mem-head : {X : Type 0} (x : X) (xs : List X) → Mem x (x ∷ xs)
unfolding Mem
mem-head x xs = inl refl

pub no_member : {X : Type 0} (x : X) → Mem x [] → ⊥
unfolding Mem
no_member x m = m

pub mem-append : {X : Type 0} (x : X) (xs ys : List X) → Mem x (xs ++ ys) → Mem x xs ⊎ Mem x ys
unfolding Mem
mem-append x [] ys m = inr m
mem-append x (z ∷ xs) ys (inl e) = inl (inl e)
mem-append x (z ∷ xs) ys (inr m) = elim (mem-append x xs ys m) [ inl a ↦ inl (inr a) | inr b ↦ inr b ]

pub mem-one : {X : Type 0} (x y : X) → Mem x (y ∷ []) → x ≡ y
unfolding Mem
mem-one x y (inl e) = e
mem-one x y (inr m) = absurd m

pub mem-map : {X Y : Type 0} (f : X → Y) (y : Y) (xs : List X) → Mem y (map f xs) → (x : X) × Mem x xs × (y ≡ f x)
unfolding Mem
mem-map f y [] m = absurd m
mem-map f y (x ∷ xs) (inl e) = (x, inl refl, e)
mem-map f y (x ∷ xs) (inr m) = let r = mem-map f y xs m in (r.0, inr r.1, r.2)

mem-kept : (b : Bool) (g made : LineCall) (rest : List LineCall) (going : List LineCall) → (Mem g rest → Mem g going) → Mem g (if b then made ∷ rest else rest)
    → Mem g (made ∷ going)
unfolding Mem
mem-kept true g made rest going more (inl e) = inl e
mem-kept true g made rest going more (inr m) = inr (more m)
mem-kept false g made rest going more m = inr (more m)

pub mem-others : (actor : ℕ) (g : LineCall) (going : List LineCall) → Mem g (of_others actor going) → Mem g going
unfolding Mem
mem-others actor g [] m = absurd m
mem-others actor g (made ∷ going) m = mem-kept (if made.actor == actor then false else true) g made (of_others actor going) going (mem-others actor g going) m

found : (b : Bool) (g made : LineCall) (rest : Option LineCall) (going : List LineCall) → (rest ≡ Some g → Mem g going) → (if b then Some made else rest) ≡ Some g
    → Mem g (made ∷ going)
unfolding Mem
found true g made rest going more is = inl cc
found false g made rest going more is = inr (more is)

pub mem-going : (actor : ℕ) (g : LineCall) (going : List LineCall) → going_of actor going ≡ Some g → Mem g going
mem-going actor g [] is = absurd cc
mem-going actor g (made ∷ going) is = found (made.actor == actor) g made (going_of actor going) going (mem-going actor g going) is

pub mem-contains : {X : Type 0} (x : X) (xs : List X) → Contains xs x → Mem x xs
unfolding Mem
mem-contains x [] (k, below, is) = absurd (omega arith)
mem-contains x (y ∷ ys) (zero, below, is) = inl (sym is)
mem-contains x (y ∷ ys) (suc k, below, is) = inr (mem-contains x ys (k, omega arith, is))
