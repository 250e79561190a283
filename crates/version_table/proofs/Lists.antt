-- Lists of sights, lines and places, and of all who know of them.
use Rattle.std.proofs.Common.{◌≡◌, ◌≢◌, ℕ, zero, suc, ◌+◌, ◌<◌, ◌≤◌, ◌⊎◌, Bool, true, false, cond, eqb, eq-eqb, ne_eqb, ◌&&◌, max, List, [], ◌∷◌, ◌++◌, length, set, get_or, sym, refl, ap, ◌∙◌, subst, inl, inr, ⊎_elim, arith, append_assoc, nat_lt}
use Rattle.std.proofs.lemmas.Bool.{cases_lt, and_parts, and_from, eqb-true, false_from_ne_true, lt-ltb, le-ltb}
use Rattle.std.proofs.lemmas.List.{append-nil, length-set, get_or-set_same, get_or-set_other}
use mathlib.Core.List.{IsPrefix}
use mathlib.Core.Logic.{dite}
use native.Mathlib.Decide.{ℕ_discrete}
use mathlib.Core.Option.{some, some-injective, some-ne-none}
use lib.ListN.{get_elem?}
use Rattle.life_limits.specs.declared.TheConstants.{MAX_ACTORS}
use Rattle.life_table.specs.declared.types.Entry.{Entry}
use Rattle.atomic_table.proofs.Lists.{at_set}
use Rattle.version_table.specs.declared.story.Sight.{Sight}
use Rattle.version_table.specs.declared.story.Line.{Line}
use Rattle.version_table.specs.declared.story.Place.{Place}
use Rattle.version_table.specs.declared.story.Story.{Story}
use Rattle.version_table.specs.Story.{place, one_if, seen_of, longer, known_of, times, own_place, first_sight}
use Rattle.version_table.specs.Rule.{total, owed}

pub total-append : (f : Story → ℕ) (l m : List Story) → total f (l ++ m) ≡ total f l + total f m
total-append f [] m = omega arith
total-append f (x ∷ xs) m = omega (arith, total-append f xs m)

pub total-set : (f : Story → ℕ) (l : List Story) (j : ℕ) (v w : Story) → get_elem? l j ≡ some v → total f (set l j w) + f v ≡ total f l + f w
total-set f [] j v w e = absurd (some-ne-none v (sym e))
total-set f (x ∷ xs) zero v w e = omega (arith, ap f (some-injective x v e))
total-set f (x ∷ xs) (suc j) v w e = omega (arith, total-set f xs j v w e)

pub inside_list : (l : List Story) (j : ℕ) (a : Story) → get_elem? l j ≡ some a → j < length l
inside_list [] j a e = absurd (some-ne-none a (sym e))
inside_list (x ∷ xs) zero a e = omega arith
inside_list (x ∷ xs) (suc j) a e = omega (arith, inside_list xs j a e)

at_end : (l : List Story) (a b : Story) (j : ℕ) → get_elem? (l ++ a ∷ []) j ≡ some b → (get_elem? l j ≡ some b) ⊎ ((j ≡ length l) × (a ≡ b))
at_end [] a b zero e = inr (refl, some-injective a b e)
at_end [] a b (suc j) e = absurd (some-ne-none b (sym e))
at_end (x ∷ xs) a b zero e = inl e
at_end (x ∷ xs) a b (suc j) e = ⊎_elim (λ h. inl h) (λ (t : (j ≡ length xs) × (a ≡ b)). inr (ap suc t.0, t.1)) (at_end xs a b j e)

-- a fact of each who knows, after one of them changed
pub at_view : (F : ℕ → Story → Type 0) (views : List Story) (id : ℕ) (w : Story) → F id w → ((j : ℕ) (u : Story) → j ≢ id → get_elem? views j ≡ some u → F j u)
    → (j : ℕ) (u : Story) → get_elem? (set views id w) j ≡ some u → F j u
at_view F views id w mine others j u e =
    ⊎_elim (λ (x : (j ≡ id) × (w ≡ u)). subst (λ (y : ℕ × Story). F y.0 y.1) (λ i. (sym x.0 i, x.1 i)) mine)
    (λ (x : (j ≢ id) × (get_elem? views j ≡ some u)). others j u x.0 x.1) (at_set views id j w u e)

-- and after one of them was split
pub at_split : (F : ℕ → Story → Type 0) (views : List Story) (id : ℕ) (left right : Story) → F id left → F (length views) right
    → ((j : ℕ) (u : Story) → j ≢ id → get_elem? views j ≡ some u → F j u)
    → (j : ℕ) (u : Story) → get_elem? (set views id left ++ right ∷ []) j ≡ some u → F j u
at_split F views id left right of_left of_right others j u e =
    ⊎_elim (λ (x : get_elem? (set views id left) j ≡ some u). at_view F views id left of_left others j u x)
    (λ (x : (j ≡ length (set views id left)) × (right ≡ u)). subst (λ (y : ℕ × Story). F y.0 y.1) (λ i. (sym (x.0 ∙ length-set views id left) i, x.1 i)) of_right)
    (at_end (set views id left) right u j e)

-- a fact of the word at a place, after the word at k has changed
pub at_word : (ws : List ℕ) (k new at : ℕ) (P : ℕ → Type 0) → k < length ws → (at ≡ k → P new) → (at ≢ k → P (get_or ws at 0)) → P (get_or (set ws k new) at 0)
at_word ws k new at P inside here apart =
    dite (ℕ_discrete at k)
    (λ e. subst P (sym (ap (λ (j : ℕ). get_or (set ws k new) j 0) e ∙ get_or-set_same ws k new 0 inside)) (here e))
    (λ ne. subst P (sym (get_or-set_other ws k at new 0 ne)) (apart ne))

-- by whether two numbers are one
pub by_test : {A : Type 0} (g j : ℕ) (x y : A) (P : A → Type 0) → (g ≡ j → P x) → (g ≢ j → P y) → P (cond (eqb g j) x y)
by_test g j x y P same other = dite (ℕ_discrete g j)
    (λ e. subst (λ (b : Bool). P (cond b x y)) (sym (eq-eqb g j e)) (same e))
    (λ ne. subst (λ (b : Bool). P (cond b x y)) (sym (ne_eqb g j ne)) (other ne))

-- sights
sights_step : (b : Bool) (n x y m : ℕ) → m ≡ max x y → cond b (max n m) m ≡ max (cond b (max n x) x) y
sights_step true n x y m e = omega (arith, e)
sights_step false n x y m e = e

pub seen_of-append : (g : ℕ) (a b : List Sight) → seen_of g (a ++ b) ≡ max (seen_of g a) (seen_of g b)
seen_of-append g [] b = omega arith
seen_of-append g (x ∷ xs) b = sights_step (eqb x.group g) x.count (seen_of g xs) (seen_of g b) (seen_of g (xs ++ b)) (seen_of-append g xs b)

first_step : (b : Bool) (n m : ℕ) → cond b (max n 0) 0 ≤ cond b (max n m) m
first_step true n m = omega arith
first_step false n m = omega arith

pub seen_of-first : (g : ℕ) (xs : List Sight) → seen_of g (first_sight xs) ≤ seen_of g xs
seen_of-first g [] = omega arith
seen_of-first g (x ∷ xs) = first_step (eqb x.group g) x.count (seen_of g xs)

-- lines
pub longer-second : (a b : List Entry) → length a < length b → longer a b ≡ b
longer-second a b lt = ap (λ (t : Bool). cond t b a) (lt-ltb (length a) (length b) lt)

pub longer-first : (a b : List Entry) → length b ≤ length a → longer a b ≡ a
longer-first a b le = ap (λ (t : Bool). cond t b a) (le-ltb (length a) (length b) le)

pub longer-le : (a b : List Entry) (n : ℕ) → length a ≤ n → length b ≤ n → length (longer a b) ≤ n
longer-le a b n x y = elim (cases_lt (length a) (length b)) [
  | inl lt ↦ subst (λ (l : List Entry). length l ≤ n) (sym (longer-second a b lt)) y
  | inr ge ↦ subst (λ (l : List Entry). length l ≤ n) (sym (longer-first a b ge)) x
]

-- one of two lists, and no shorter than either
pub record IsLonger (a b m : List Entry) : Type 0 where
  pub which : (m ≡ a) ⊎ (m ≡ b)
  pub first : length a ≤ length m
  pub second : length b ≤ length m

lines_step : (t : Bool) (e x y m : List Entry) → IsLonger x y m → IsLonger (cond t (longer e x) x) y (cond t (longer e m) m)
lines_step false e x y m is = is
lines_step true e x y m is =
    let shorter = is.first in
    let shorter_y = is.second in
    elim (cases_lt (length e) (length m)) [
      | inl lt ↦
          let now : longer e m ≡ m = longer-second e m lt in
          record {
            which = ⊎_elim (λ (s : m ≡ x). inl (now ∙ s ∙ sym (longer-second e x (subst (λ (l : List Entry). length e < length l) s lt)))) (λ (s : m ≡ y). inr (now ∙ s)) is.which;
            first = subst (λ (l : List Entry). length (longer e x) ≤ length l) (sym now) (longer-le e x (length m) (omega (arith, lt)) shorter);
            second = subst (λ (l : List Entry). length y ≤ length l) (sym now) shorter_y;
          }
      | inr ge ↦
          let now : longer e m ≡ e = longer-first e m ge in
          let then_ : longer e x ≡ e = longer-first e x (omega (arith, ge, shorter)) in
          record {
            which = inl (now ∙ sym then_);
            first = omega (arith, ap length now, ap length then_);
            second = omega (arith, ap length now, ge, shorter_y);
          }
    ]

pub known_of-append : (g : ℕ) (a b : List Line) → IsLonger (known_of g a) (known_of g b) (known_of g (a ++ b))
known_of-append g [] b = record { which = inr refl; first = omega arith; second = omega arith }
known_of-append g (x ∷ xs) b = lines_step (eqb x.group g) x.entries (known_of g xs) (known_of g b) (known_of g (xs ++ b)) (known_of-append g xs b)

-- beginnings of a list
pub prefix_refl : (a : List Entry) → IsPrefix a a
prefix_refl a = ([], append-nil a)

pub prefix_more : (a s t : List Entry) → IsPrefix a s → IsPrefix a (s ++ t)
prefix_more a s t pre = (pre.0 ++ t, sym (append_assoc a pre.0 t) ∙ ap (λ l. l ++ t) pre.1)

pub prefix_whole : (a s : List Entry) → IsPrefix a s → length s ≤ length a → a ≡ s
prefix_whole [] [] pre le = refl
prefix_whole [] (y ∷ ys) pre le = absurd (omega arith)
prefix_whole (x ∷ xs) [] pre le = absurd (omega (arith, ap length pre.1))
prefix_whole (x ∷ xs) (y ∷ ys) pre le =
    let e = pre.1 in
    let head : x ≡ y = cc in
    let tail : xs ++ pre.0 ≡ ys = cc in
    λ i. head i ∷ prefix_whole xs ys (pre.0, tail) (omega (arith, le)) i

-- places
pub times-append : (g at : ℕ) (a b : List Place) → times g at (a ++ b) ≡ times g at a + times g at b
times-append g at [] b = omega arith
times-append g at (x ∷ xs) b = omega (arith, times-append g at xs b)

own_here : (b : Bool) (g n : ℕ) → times g n (cond b (place g n ∷ []) []) ≡ one_if b
own_here true g n = omega (arith, ap one_if (and_from (eqb g g) (eqb n n) (eq-eqb g g refl) (eq-eqb n n refl)))
own_here false g n = refl

own_else : (b : Bool) (g n j at : ℕ) → ((g ≡ j) × (n ≡ at) → ⊥) → times j at (cond b (place g n ∷ []) []) ≡ 0
own_else true g n j at apart = omega (arith, ap one_if (false_from_ne_true (eqb g j && eqb n at) (λ e. let both = and_parts (eqb g j) (eqb n at) e in apart (eqb-true g j both.0, eqb-true n at both.1))))
own_else false g n j at apart = refl

pub times-own : (g n : ℕ) (e : Entry) → times g n (own_place g n e) ≡ one_if (nat_lt e.actor MAX_ACTORS)
times-own g n e = own_here (nat_lt e.actor MAX_ACTORS) g n

pub times-own_else : (g n : ℕ) (e : Entry) (j at : ℕ) → ((g ≡ j) × (n ≡ at) → ⊥) → times j at (own_place g n e) ≡ 0
times-own_else g n e j at apart = own_else (nat_lt e.actor MAX_ACTORS) g n j at apart

-- whose place is owed, after one more entry
pub owed-end : (xs : List Entry) (e : Entry) → owed (xs ++ e ∷ []) (length xs) ≡ one_if (nat_lt e.actor MAX_ACTORS)
owed-end [] e = refl
owed-end (x ∷ xs) e = owed-end xs e

pub owed-else : (xs : List Entry) (e : Entry) (at : ℕ) → at ≢ length xs → owed (xs ++ e ∷ []) at ≡ owed xs at
owed-else [] e zero apart = absurd (apart refl)
owed-else [] e (suc at) apart = refl
owed-else (x ∷ xs) e zero apart = refl
owed-else (x ∷ xs) e (suc at) apart = owed-else xs e at (λ same. apart (ap suc same))
