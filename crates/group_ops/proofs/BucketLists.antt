-- The list of a bucket: what follows a member, and the chain of pointers that a list is.
use Rattle.std.proofs.Common.{◌≡◌, ◌≢◌, ◌≤◌, ◌+◌, ◌⊎◌, ℕ, zero, suc, Bool, cond, eqb, List, [], ◌∷◌, Contains, inl, inr, refl, ap, sym, subst, ◌∙◌, arith}
use Rattle.std.specs.Prelude.{not}
use Rattle.std.specs.List.{AllByRecursion}
use Rattle.std.proofs.lemmas.Bool.{cases_eq, eq-eqb, ne_eqb, cond-true, cond-false}
use Rattle.life_limits.specs.declared.TheConstants.{NO_INODE}
use Rattle.agi_buckets.specs.Buckets.{IsChain, without}
use Rattle.life_table.specs.Space.{times}
use Rattle.sound_image.specs.Encoding.{head_of, next_in}

-- ---- members

pub contains_first : (x : ℕ) (xs : List ℕ) → Contains (x ∷ xs) x
contains_first x xs = (zero, omega arith, refl)

pub contains_more : (y x : ℕ) (ys : List ℕ) → Contains ys x → Contains (y ∷ ys) x
contains_more y x ys (k, within, same) = (suc k, omega arith, same)

pub contains_cases : (y x : ℕ) (ys : List ℕ) → Contains (y ∷ ys) x → (y ≡ x) ⊎ Contains ys x
contains_cases y x ys (zero, within, same) = inl same
contains_cases y x ys (suc k, within, same) = inr (k, omega arith, same)

pub contains_none : (x : ℕ) → Contains [] x → ⊥
contains_none x (k, within, same) = omega arith

pub all_from : (P : ℕ → Type 0) (xs : List ℕ) → ((x : ℕ) → Contains xs x → P x) → AllByRecursion P xs
all_from P [] each = tt
all_from P (y ∷ ys) each = (each y (contains_first y ys), all_from P ys (λ x member. each x (contains_more y x ys member)))

times-nil : (b : ℕ) → times b [] ≡ 0
unfolding times
times-nil b = refl

times-cons : (b x : ℕ) (xs : List ℕ) → times b (x ∷ xs) ≡ cond (eqb b x) 1 0 + times b xs
unfolding times
times-cons b x xs = refl

pub times-here : (b x : ℕ) (xs : List ℕ) → x ≡ b → times b (x ∷ xs) ≡ 1 + times b xs
times-here b x xs e = times-cons b x xs ∙ ap (λ (n : ℕ). n + times b xs) (cond-true (eqb b x) 1 0 (eq-eqb b x (sym e)))

pub times-later : (b x : ℕ) (xs : List ℕ) → x ≢ b → times b (x ∷ xs) ≡ times b xs
times-later b x xs ne = times-cons b x xs ∙ ap (λ (n : ℕ). n + times b xs) (cond-false (eqb b x) 1 0 (ne_eqb b x (λ e. ne (sym e)))) ∙ omega arith

pub times_of_member : (xs : List ℕ) (x : ℕ) → Contains xs x → 1 ≤ times x xs
times_of_member [] x member = absurd (contains_none x member)
times_of_member (y ∷ ys) x member =
    elim (contains_cases y x ys member) [
      | inl same ↦ omega (arith, times-here x y ys same)
      | inr later ↦ omega (arith, times-cons x y ys, times_of_member ys x later)
    ]

pub member_of_times : (xs : List ℕ) (x : ℕ) → 1 ≤ times x xs → Contains xs x
member_of_times [] x some = absurd (omega (arith, times-nil x))
member_of_times (y ∷ ys) x some =
    elim (cases_eq y x) [
      | inl same ↦ (zero, omega arith, same)
      | inr other ↦ contains_more y x ys (member_of_times ys x (omega (arith, times-later x y ys other)))
    ]

-- ---- what follows a number

pub next-none : (place : ℕ) → next_in [] place ≡ NO_INODE
unfolding next_in
next-none place = refl

pub next-here : (member : ℕ) (members : List ℕ) (place : ℕ) → member ≡ place → next_in (member ∷ members) place ≡ head_of members
unfolding next_in
next-here member members place same = cond-true (eqb member place) (head_of members) (next_in members place) (eq-eqb member place same)

pub next-later : (member : ℕ) (members : List ℕ) (place : ℕ) → member ≢ place → next_in (member ∷ members) place ≡ next_in members place
unfolding next_in
next-later member members place apart = cond-false (eqb member place) (head_of members) (next_in members place) (ne_eqb member place apart)

pub head-first : (member : ℕ) (members : List ℕ) → head_of (member ∷ members) ≡ member
unfolding head_of
head-first member members = refl

pub head-none : head_of [] ≡ NO_INODE
unfolding head_of
head-none = refl

-- a number that is no member is at the end
pub next_of_none : (members : List ℕ) (place : ℕ) → times place members ≡ 0 → next_in members place ≡ NO_INODE
next_of_none [] place none = next-none place
next_of_none (member ∷ members) place none =
    elim (cases_eq member place) [
      | inl here ↦ absurd (omega (arith, times-here place member members here))
      | inr past ↦ next-later member members place past ∙ next_of_none members place (omega (arith, times-later place member members past))
    ]

-- ---- lists in which no member stands twice

abbrev pub IsOnce : List ℕ → Type 0
IsOnce members = (x : ℕ) → times x members ≤ 1

once_behind : (member : ℕ) (members : List ℕ) → IsOnce (member ∷ members) → IsOnce members
once_behind member members once x = omega (arith, once x, times-cons x member members)

pub not_twice : (member : ℕ) (members : List ℕ) → IsOnce (member ∷ members) → Contains members member → ⊥
not_twice member members once behind = omega (arith, once member, times-here member member members refl, times_of_member members member behind)

-- ---- lists and chains

pub chain_of : (next : ℕ → ℕ) (members : List ℕ) → IsOnce members → ((x : ℕ) → Contains members x → next x ≡ next_in members x) → IsChain next (head_of members) members NO_INODE
chain_of next [] once follow = head-none
chain_of next (member ∷ members) once follow =
    let behind : IsChain next (head_of members) members NO_INODE =
    chain_of next members (once_behind member members once)
    (λ x listed.
    let apart : member ≢ x = λ e. not_twice member members once (subst (λ (y : ℕ). Contains members y) (sym e) listed) in
    follow x (contains_more member x members listed) ∙ next-later member members x apart) in
    let first : next member ≡ head_of members = follow member (contains_first member members) ∙ next-here member members member refl in
    (head-first member members, subst (λ (from : ℕ). IsChain next from members NO_INODE) (sym first) behind)

pub chain_head : (next : ℕ → ℕ) (from : ℕ) (members : List ℕ) → IsChain next from members NO_INODE → from ≡ head_of members
chain_head next from [] chain = chain ∙ sym head-none
chain_head next from (member ∷ members) chain = chain.0 ∙ sym (head-first member members)

pub chain_next : (next : ℕ → ℕ) (from : ℕ) (members : List ℕ) (x : ℕ) → IsChain next from members NO_INODE → Contains members x → next x ≡ next_in members x
chain_next next from [] x chain listed = absurd (contains_none x listed)
chain_next next from (member ∷ members) x chain listed =
    elim (cases_eq member x) [
      | inl here ↦ ap next (sym here) ∙ chain_head next (next member) members chain.1 ∙ sym (next-here member members x here)
      | inr past ↦
          let behind : Contains members x = elim (contains_cases member x members listed) [ inl same ↦ absurd (past same) | inr later ↦ later ] in
          chain_next next (next member) members x chain.1 behind ∙ sym (next-later member members x past)
    ]

-- ---- lists without a member

without-here : (member : ℕ) (members : List ℕ) (agino : ℕ) → member ≡ agino → without (member ∷ members) agino ≡ without members agino
without-here member members agino same =
    ap (λ (b : Bool). cond (not b) (member ∷ without members agino) (without members agino)) (eq-eqb member agino same)

without-later : (member : ℕ) (members : List ℕ) (agino : ℕ) → member ≢ agino → without (member ∷ members) agino ≡ member ∷ without members agino
without-later member members agino apart =
    ap (λ (b : Bool). cond (not b) (member ∷ without members agino) (without members agino)) (ne_eqb member agino apart)

pub times_gone : (members : List ℕ) (agino : ℕ) → times agino (without members agino) ≡ 0
times_gone [] agino = times-nil agino
times_gone (member ∷ members) agino =
    elim (cases_eq member agino) [
      | inl here ↦ ap (times agino) (without-here member members agino here) ∙ times_gone members agino
      | inr past ↦ ap (times agino) (without-later member members agino past) ∙ times-later agino member (without members agino) past ∙ times_gone members agino
    ]

pub member_without : (members : List ℕ) (agino x : ℕ) → x ≢ agino → Contains members x → Contains (without members agino) x
member_without [] agino x apart listed = absurd (contains_none x listed)
member_without (member ∷ members) agino x apart listed =
    elim (cases_eq member agino) [
      | inl here ↦
          let behind : Contains members x = elim (contains_cases member x members listed) [ inl same ↦ absurd (apart (sym same ∙ here)) | inr later ↦ later ] in
          subst (λ (l : List ℕ). Contains l x) (sym (without-here member members agino here)) (member_without members agino x apart behind)
      | inr past ↦
          subst (λ (l : List ℕ). Contains l x) (sym (without-later member members agino past))
          (elim (contains_cases member x members listed) [
            | inl same ↦ (zero, omega arith, same)
            | inr later ↦ contains_more member x (without members agino) (member_without members agino x apart later)
          ])
    ]
