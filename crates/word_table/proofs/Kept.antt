-- The rule of the words after a step.
use Rattle.std.proofs.Common.{◌≡◌, ◌≢◌, ℕ, zero, suc, ◌+◌, ◌<◌, ◌⊎◌, List, [], ◌∷◌, ◌++◌, length, set, get_or, refl, sym, ap, ◌∙◌, subst, inl, inr, ⊎_elim, arith}
use Rattle.std.proofs.lemmas.List.{length-set, get_or-set_same, get_or-set_other}
use mathlib.Core.Option.{some, some-injective, some-ne-none}
use mathlib.Core.Logic.{dite}
use native.Mathlib.Decide.{ℕ_discrete}
use lib.ListN.{get_elem?}
use Rattle.atomic_table.specs.Table.{State, stepped, keeps}
use Rattle.atomic_table.proofs.Lists.{at_set}
use Rattle.word_table.specs.declared.known.Look.{Look}
use Rattle.word_table.specs.declared.known.Known.{Known}
use Rattle.word_table.specs.Words.{parts_of, pins_of, IsRight, Tells}
use Rattle.word_table.specs.Known.{times, last_of, Keeps, nothing_known}
use Rattle.word_table.specs.Rule.{total, Kept}
use Rattle.word_table.proofs.Lists.{total-set, total-append}
use Rattle.word_table.proofs.Parts.{Tells-same}

-- two keep the same words
pub record SameRange (v w : Known) : Type 0 where
  pub first : v.first ≡ w.first
  pub count : v.count ≡ w.count

pub Keeps-along : (v w : Known) (place : ℕ) → SameRange v w → Keeps w place → Keeps v place
Keeps-along v w place same kept = let first = same.first in let count = same.count in (omega (arith, kept.0, first), omega (arith, kept.1, first, count))

-- a fact of the word at a place, after the word at k has changed
pub at_word : (ws : List ℕ) (k new place : ℕ) (P : ℕ → Type 0) → k < length ws → (place ≡ k → P new) → (place ≢ k → P (get_or ws place 0)) → P (get_or (set ws k new) place 0)
at_word ws k new place P inside here apart =
    dite (ℕ_discrete place k)
    (λ e. subst P (sym (ap (λ (j : ℕ). get_or (set ws k new) j 0) e ∙ get_or-set_same ws k new 0 inside)) (here e))
    (λ ne. subst P (sym (get_or-set_other ws k place new 0 ne)) (apart ne))

-- a fact of each who knows, after one of them changed
pub at_view : (F : ℕ → Known → Type 0) (views : List Known) (id : ℕ) (w : Known) → F id w → ((j : ℕ) (u : Known) → j ≢ id → get_elem? views j ≡ some u → F j u)
    → (j : ℕ) (u : Known) → get_elem? (set views id w) j ≡ some u → F j u
at_view F views id w mine others j u e =
    ⊎_elim (λ (x : (j ≡ id) × (w ≡ u)). subst (λ (y : ℕ × Known). F y.0 y.1) (λ i. (sym x.0 i, x.1 i)) mine)
    (λ (x : (j ≢ id) × (get_elem? views j ≡ some u)). others j u x.0 x.1) (at_set views id j w u e)

-- who keeps a word after a step kept it before
record Before (views : List Known) (j : ℕ) (u : Known) : Type 0 where
  old : Known
  here : get_elem? views j ≡ some old
  same : SameRange old u

before : (views : List Known) (id : ℕ) (v w : Known) → get_elem? views id ≡ some v → SameRange v w → (j : ℕ) (u : Known) → get_elem? (set views id w) j ≡ some u → Before views j u
before views id v w at same = at_view (Before views) views id w
    (record { old = v; here = at; same = same })
    (λ j u apart has. record { old = u; here = has; same = record { first = refl; count = refl } })

-- A step on the word at k by the one with the number id, whose knowledge v becomes w.
pub kept : (count : ℕ) (s : State ℕ Known) (k new id : ℕ) (v w : Known) (c : List (ℕ × ℕ))
    → Kept count s → k < count → get_elem? s.views id ≡ some v → IsRight (parts_of new)
    → ((j generation : ℕ) → j ≢ k → times j generation w.pins ≡ times j generation v.pins)
    → ((generation : ℕ) → times k generation w.pins + pins_of generation (parts_of (get_or s.words k 0)) ≡ times k generation v.pins + pins_of generation (parts_of new))
    → SameRange v w
    → ((j : ℕ) → j ≢ k → last_of j w.looks ≡ last_of j v.looks)
    → (Keeps w k → Tells new (last_of k w.looks))
    → ((i : ℕ) (u : Known) → i ≢ id → get_elem? s.views i ≡ some u → Keeps u k → Tells new (last_of k u.looks))
    → Kept count (stepped s k new id c w keeps)
kept count s k new id v w c was inside at right apart here same logs mine others =
    let far : k < length s.words = omega (arith, was.counted, inside) in
    let old : (j : ℕ) (u : Known) → get_elem? (set s.views id w) j ≡ some u → Before s.views j u = before s.views id v w at same in
    let moved : (place generation : ℕ) → total (λ u. times place generation u.pins) (set s.views id w) + times place generation v.pins ≡ pins_of generation (parts_of (get_or s.words place 0)) + times place generation w.pins =
    λ place generation. total-set (λ u. times place generation u.pins) s.views id v w at ∙ ap (λ (n : ℕ). n + times place generation w.pins) (was.pins place generation) in
    record {
      counted = length-set s.words k new ∙ was.counted;
      right = λ place. at_word s.words k new place (λ n. IsRight (parts_of n)) far (λ e. right) (λ ne. was.right place);
      pins = λ place generation. at_word s.words k new place (λ n. total (λ u. times place generation u.pins) (set s.views id w) ≡ pins_of generation (parts_of n)) far
          (λ e. subst (λ (p : ℕ). total (λ u. times p generation u.pins) (set s.views id w) ≡ pins_of generation (parts_of new)) (sym e) (omega (arith, moved k generation, here generation)))
          (λ ne. omega (arith, moved place generation, apart place generation ne));
      alone = λ i j place a b at_i at_j keeps_a keeps_b.
          let x = old i a at_i in
          let y = old j b at_j in
          was.alone i j place x.old y.old x.here y.here (Keeps-along x.old a place x.same keeps_a) (Keeps-along y.old b place y.same keeps_b);
      tells = λ j place. at_view (λ j u. Keeps u place → Tells (get_or (set s.words k new) place 0) (last_of place u.looks)) s.views id w
          (λ keeps_w. at_word s.words k new place (λ n. Tells n (last_of place w.looks)) far
          (λ e. subst (λ (p : ℕ). Tells new (last_of p w.looks)) (sym e) (mine (subst (λ (p : ℕ). Keeps w p) e keeps_w)))
          (λ ne. subst (λ (n : ℕ). Tells (get_or s.words place 0) n) (sym (logs place ne)) (was.tells id place v at (Keeps-along v w place same keeps_w))))
          (λ i u away has keeps_u. at_word s.words k new place (λ n. Tells n (last_of place u.looks)) far
          (λ e. subst (λ (p : ℕ). Tells new (last_of p u.looks)) (sym e) (others i u away has (subst (λ (p : ℕ). Keeps u p) e keeps_u)))
          (λ ne. was.tells i place u has keeps_u))
          j;
    }

pub nothing-kept : (place : ℕ) → Keeps nothing_known place → ⊥
nothing-kept place kept = omega (arith, kept.1)

at_end : (l : List Known) (a b : Known) (j : ℕ) → get_elem? (l ++ a ∷ []) j ≡ some b → (get_elem? l j ≡ some b) ⊎ ((j ≡ length l) × (a ≡ b))
at_end [] a b zero e = inr (refl, some-injective a b e)
at_end [] a b (suc j) e = absurd (some-ne-none b (sym e))
at_end (x ∷ xs) a b zero e = inl e
at_end (x ∷ xs) a b (suc j) e = ⊎_elim (λ h. inl h) (λ (t : (j ≡ length xs) × (a ≡ b)). inr (ap suc t.0, t.1)) (at_end xs a b j e)

inside_list : (l : List Known) (j : ℕ) (a : Known) → get_elem? l j ≡ some a → j < length l
inside_list [] j a e = absurd (some-ne-none a (sym e))
inside_list (x ∷ xs) zero a e = omega arith
inside_list (x ∷ xs) (suc j) a e = omega (arith, inside_list xs j a e)

-- a fact of each who knows, after one of them was split
at_split : (F : ℕ → Known → Type 0) (views : List Known) (id : ℕ) (left right : Known) → F id left → F (length views) right
    → ((j : ℕ) (u : Known) → j ≢ id → get_elem? views j ≡ some u → F j u)
    → (j : ℕ) (u : Known) → get_elem? (set views id left ++ right ∷ []) j ≡ some u → F j u
at_split F views id left right of_left of_right others j u e =
    ⊎_elim (λ (x : get_elem? (set views id left) j ≡ some u). at_view F views id left of_left others j u x)
    (λ (x : (j ≡ length (set views id left)) × (right ≡ u)). subst (λ (y : ℕ × Known). F y.0 y.1) (λ i. (sym (x.0 ∙ length-set views id left) i, x.1 i)) of_right)
    (at_end (set views id left) right u j e)

-- One who knows v is split into two, who share its pins and the words that it keeps.
pub record Shares (v left right : Known) : Type 0 where
  pub pins : (place generation : ℕ) → times place generation left.pins + times place generation right.pins ≡ times place generation v.pins
  pub left_keeps : (place : ℕ) → Keeps left place → Keeps v place × (last_of place left.looks ≡ last_of place v.looks)
  pub right_keeps : (place : ℕ) → Keeps right place → Keeps v place × (last_of place right.looks ≡ last_of place v.looks)
  pub apart : (place : ℕ) → Keeps left place → Keeps right place → ⊥

pub split_kept : (count : ℕ) (s : State ℕ Known) (id : ℕ) (v left right : Known) → Shares v left right → Kept count s → get_elem? s.views id ≡ some v
    → Kept count (record { words = s.words; homes = s.homes; views = set s.views id left ++ right ∷ [] })
split_kept count s id v left right parts was at =
    let new = set s.views id left ++ right ∷ [] in
    let far = inside_list s.views id v at in
    let of_left : (place : ℕ) (j : ℕ) (u : Known) → j ≢ id → get_elem? s.views j ≡ some u → Keeps left place → Keeps u place → ⊥ =
    λ place j u away has a b. away (was.alone j id place u v has at b (parts.left_keeps place a).0) in
    let of_right : (place : ℕ) (j : ℕ) (u : Known) → j ≢ id → get_elem? s.views j ≡ some u → Keeps right place → Keeps u place → ⊥ =
    λ place j u away has a b. away (was.alone j id place u v has at b (parts.right_keeps place a).0) in
    record {
      counted = was.counted;
      right = was.right;
      pins = λ place generation. let f : Known → ℕ = λ u. times place generation u.pins in
          omega (arith, total-append f (set s.views id left) (right ∷ []), total-set f s.views id v left at, parts.pins place generation, was.pins place generation);
      alone = λ i j place a b at_i at_j. at_split (λ i a. (j : ℕ) (b : Known) → get_elem? new j ≡ some b → Keeps a place → Keeps b place → i ≡ j) s.views id left right
          (at_split (λ j b. Keeps left place → Keeps b place → id ≡ j) s.views id left right (λ x y. refl) (λ x y. absurd (parts.apart place x y))
          (λ j b away has x y. absurd (of_left place j b away has x y)))
          (at_split (λ j b. Keeps right place → Keeps b place → length s.views ≡ j) s.views id left right (λ x y. absurd (parts.apart place y x)) (λ x y. refl)
          (λ j b away has x y. absurd (of_right place j b away has x y)))
          (λ i a away has. at_split (λ j b. Keeps a place → Keeps b place → i ≡ j) s.views id left right (λ x y. absurd (of_left place i a away has y x)) (λ x y. absurd (of_right place i a away has y x))
          (λ j b away_j has_j x y. was.alone i j place a b has has_j x y))
          i a at_i j b at_j;
      tells = λ j place. at_split (λ j u. Keeps u place → Tells (get_or s.words place 0) (last_of place u.looks)) s.views id left right
          (λ x. let own = parts.left_keeps place x in subst (λ (n : ℕ). Tells (get_or s.words place 0) n) (sym own.1) (was.tells id place v at own.0))
          (λ x. let own = parts.right_keeps place x in subst (λ (n : ℕ). Tells (get_or s.words place 0) n) (sym own.1) (was.tells id place v at own.0))
          (λ i u away has x. was.tells i place u has x)
          j;
    }

-- Two are put together: the first has the pins of both, and the other knows nothing from then on.
pub joined_kept : (count : ℕ) (s : State ℕ Known) (id : ℕ) (v : Known) (other : ℕ) (w both : Known) → SameRange v both → both.looks ≡ v.looks
    → ((place generation : ℕ) → times place generation both.pins ≡ times place generation v.pins + times place generation w.pins)
    → Kept count s → get_elem? s.views id ≡ some v → (other ≡ id → ⊥) → get_elem? (set s.views id both) other ≡ some w
    → Kept count (record { words = s.words; homes = s.homes; views = set (set s.views id both) other nothing_known })
joined_kept count s id v other w both same looks pins was at two at_other =
    let half = set s.views id both in
    let none : (place : ℕ) → Keeps nothing_known place → ⊥ = nothing-kept in
    let one : (place i j : ℕ) (a b : Known) → get_elem? half i ≡ some a → get_elem? half j ≡ some b → Keeps a place → Keeps b place → i ≡ j =
    λ place i j a b at_i at_j keeps_a keeps_b.
    let x = before s.views id v both at same i a at_i in
    let y = before s.views id v both at same j b at_j in
    was.alone i j place x.old y.old x.here y.here (Keeps-along x.old a place x.same keeps_a) (Keeps-along y.old b place y.same keeps_b) in
    let told : (place j : ℕ) (u : Known) → get_elem? half j ≡ some u → Keeps u place → Tells (get_or s.words place 0) (last_of place u.looks) =
    λ place. at_view (λ j u. Keeps u place → Tells (get_or s.words place 0) (last_of place u.looks)) s.views id both
    (λ x. subst (λ (l : List Look). Tells (get_or s.words place 0) (last_of place l)) (sym looks) (was.tells id place v at (Keeps-along v both place same x)))
    (λ j u away has x. was.tells j place u has x) in
    record {
      counted = was.counted;
      right = was.right;
      pins = λ place generation. let f : Known → ℕ = λ u. times place generation u.pins in
          omega (arith, total-set f half other w nothing_known at_other, total-set f s.views id v both at, pins place generation, was.pins place generation);
      alone = λ i j place a b at_i at_j. at_view (λ i a. (j : ℕ) (b : Known) → get_elem? (set half other nothing_known) j ≡ some b → Keeps a place → Keeps b place → i ≡ j) half other nothing_known
          (λ j b at_j x y. absurd (none place x))
          (λ i a away has. at_view (λ j b. Keeps a place → Keeps b place → i ≡ j) half other nothing_known (λ x y. absurd (none place y)) (λ j b away_j has_j x y. one place i j a b has has_j x y))
          i a at_i j b at_j;
      tells = λ j place. at_view (λ j u. Keeps u place → Tells (get_or s.words place 0) (last_of place u.looks)) half other nothing_known
          (λ x. absurd (none place x)) (λ i u away has x. told place i u has x) j;
    }

-- A step of the keeper on a word, which it leaves as new.
pub keeper_kept : (count : ℕ) (s : State ℕ Known) (k new id : ℕ) (v w : Known) (c : List (ℕ × ℕ))
    → Kept count s → k < count → get_elem? s.views id ≡ some v → Keeps v k → IsRight (parts_of new)
    → ((j generation : ℕ) → j ≢ k → times j generation w.pins ≡ times j generation v.pins)
    → ((generation : ℕ) → times k generation w.pins + pins_of generation (parts_of (get_or s.words k 0)) ≡ times k generation v.pins + pins_of generation (parts_of new))
    → SameRange v w
    → ((j : ℕ) → j ≢ k → last_of j w.looks ≡ last_of j v.looks)
    → last_of k w.looks ≡ new
    → Kept count (stepped s k new id c w keeps)
keeper_kept count s k new id v w c was inside at own right apart here same logs newest =
    kept count s k new id v w c was inside at right apart here same logs
    (λ _. subst (λ (l : ℕ). Tells new l) (sym newest) (Tells-same new))
    (λ i u away has theirs. absurd (away (was.alone i id k u v has at theirs own)))
