-- Sums over what all know, and lists of pins.
use Rattle.std.proofs.Common.{◌≡◌, ℕ, zero, suc, ◌+◌, ◌≤◌, true, false, cond, eqb, eq-eqb, List, [], ◌∷◌, ◌++◌, set, sym, refl, ap, ◌∙◌, subst, true≢false, inl, inr, arith}
use Rattle.std.proofs.lemmas.Bool.{cases_Bool, and_parts, and_from, eqb-true, false_from_ne_true}
use mathlib.Core.Option.{some, some-injective, some-ne-none}
use lib.ListN.{get_elem?}
use Rattle.word_table.specs.declared.known.Hold.{Hold}
use Rattle.word_table.specs.declared.known.Known.{Known}
use Rattle.word_table.specs.Known.{hold, one_if, is_hold, times, without, first_pin, other_pins}
use Rattle.word_table.specs.Rule.{total}

pub total-append : (f : Known → ℕ) (l m : List Known) → total f (l ++ m) ≡ total f l + total f m
total-append f [] m = omega arith
total-append f (x ∷ xs) m = omega (arith, total-append f xs m)

pub total-set : (f : Known → ℕ) (l : List Known) (j : ℕ) (v w : Known) → get_elem? l j ≡ some v → total f (set l j w) + f v ≡ total f l + f w
total-set f [] j v w e = absurd (some-ne-none v (sym e))
total-set f (x ∷ xs) zero v w e = omega (arith, ap f (some-injective x v e))
total-set f (x ∷ xs) (suc j) v w e = omega (arith, total-set f xs j v w e)

pub term_le : (f : Known → ℕ) (l : List Known) (j : ℕ) (v : Known) → get_elem? l j ≡ some v → f v ≤ total f l
term_le f [] j v e = absurd (some-ne-none v (sym e))
term_le f (x ∷ xs) zero v e = omega (arith, ap f (some-injective x v e))
term_le f (x ∷ xs) (suc j) v e = omega (arith, term_le f xs j v e)

-- a pin is this one where place and generation are
pub is_hold-same : (place generation : ℕ) (h : Hold) → is_hold place generation h ≡ true → (h.place ≡ place) × (h.generation ≡ generation)
is_hold-same place generation h e =
    let both = and_parts (eqb h.place place) (eqb h.generation generation) e in
    (eqb-true h.place place both.0, eqb-true h.generation generation both.1)

pub is_hold-here : (place generation : ℕ) (h : Hold) → h.place ≡ place → h.generation ≡ generation → is_hold place generation h ≡ true
is_hold-here place generation h here same =
    and_from (eqb h.place place) (eqb h.generation generation) (eq-eqb h.place place here) (eq-eqb h.generation generation same)

pub is_hold-apart : (place generation : ℕ) (h : Hold) → ((h.place ≡ place) × (h.generation ≡ generation) → ⊥) → is_hold place generation h ≡ false
is_hold-apart place generation h apart = false_from_ne_true (is_hold place generation h) (λ e. apart (is_hold-same place generation h e))

-- one pin in front
pub times-same : (place generation : ℕ) (l : List Hold) → times place generation (hold place generation ∷ l) ≡ times place generation l + 1
times-same place generation l = omega (arith, ap one_if (is_hold-here place generation (hold place generation) refl refl))

pub times-other : (p g place generation : ℕ) (l : List Hold) → ((place ≡ p) × (generation ≡ g) → ⊥) → times p g (hold place generation ∷ l) ≡ times p g l
times-other p g place generation l apart = omega (arith, ap one_if (is_hold-apart p g (hold place generation) apart))

pub times-append : (place generation : ℕ) (l m : List Hold) → times place generation (l ++ m) ≡ times place generation l + times place generation m
times-append place generation [] m = omega arith
times-append place generation (h ∷ hs) m = omega (arith, times-append place generation hs m)

-- a pin that is taken off is one pin less, of that inode and generation alone
pub times-without : (place generation : ℕ) (l : List Hold) → 1 ≤ times place generation l → times place generation (without place generation l) + 1 ≡ times place generation l
times-without place generation [] some_pin = absurd (omega arith)
times-without place generation (h ∷ hs) some_pin = elim (cases_Bool (is_hold place generation h)) [
  | inl here ↦ omega (arith, ap one_if here, ap (λ b. times place generation (cond b hs (h ∷ without place generation hs))) here)
  | inr apart ↦
      let rest = times-without place generation hs (omega (arith, ap one_if apart)) in
      omega (arith, ap one_if apart, rest, ap (λ b. times place generation (cond b hs (h ∷ without place generation hs))) apart)
]

pub times-without_other : (place generation p g : ℕ) (l : List Hold) → ((place ≡ p) × (generation ≡ g) → ⊥) → times p g (without place generation l) ≡ times p g l
times-without_other place generation p g [] apart = refl
times-without_other place generation p g (h ∷ hs) apart = elim (cases_Bool (is_hold place generation h)) [
  | inl here ↦
      let same = is_hold-same place generation h here in
      let none : is_hold p g h ≡ false = is_hold-apart p g h (λ e. apart (sym same.0 ∙ e.0, sym same.1 ∙ e.1)) in
      omega (arith, ap one_if none, ap (λ b. times p g (cond b hs (h ∷ without place generation hs))) here)
  | inr away ↦
      omega (arith, times-without_other place generation p g hs apart, ap (λ b. times p g (cond b hs (h ∷ without place generation hs))) away)
]

-- the first pin and the others are all
pub times-parts : (place generation : ℕ) (l : List Hold) → times place generation (first_pin l) + times place generation (other_pins l) ≡ times place generation l
times-parts place generation [] = refl
times-parts place generation (h ∷ hs) = omega arith

-- a pin that is moved to the front changes no count
pub times-fronted : (p g place generation : ℕ) (l : List Hold) → 1 ≤ times place generation l → times p g (hold place generation ∷ without place generation l) ≡ times p g l
times-fronted p g place generation l has = elim (cases_Bool (is_hold p g (hold place generation))) [
  | inl here ↦
      let same = is_hold-same p g (hold place generation) here in
      subst (λ (x : ℕ × ℕ). times x.0 x.1 (hold place generation ∷ without place generation l) ≡ times x.0 x.1 l) (λ i. (same.0 i, same.1 i))
      (omega (arith, times-same place generation (without place generation l), times-without place generation l has))
  | inr away ↦
      let apart : (place ≡ p) × (generation ≡ g) → ⊥ = λ e. true≢false (sym (is_hold-here p g (hold place generation) e.0 e.1) ∙ away) in
      times-other p g place generation (without place generation l) apart ∙ times-without_other place generation p g l apart
]
