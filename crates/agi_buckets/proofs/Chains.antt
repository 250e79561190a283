-- Chains: at most one leads from a pointer to the end mark, and no member stands in it twice. M is the mark, which is no member.
use Rattle.std.proofs.Common.{◌≡◌, ◌≢◌, ◌<◌, ◌⊎◌, ℕ, List, [], ◌∷◌, length, Contains, refl, sym, ap, subst, ◌∙◌, inl, inr, arith}
use Rattle.std.specs.List.{AllByRecursion}
use Rattle.agi_buckets.specs.Buckets.{IsChain}
use Rattle.agi_buckets.proofs.Lists.{IsDistinct, contains_cases, contains_more, contains_first, contains_none}

-- no member is the mark
abbrev pub NoMark : ℕ → List ℕ → Type 0
NoMark M xs = AllByRecursion (λ (x : ℕ). x ≢ M) xs

pub chain_moved : (next : ℕ → ℕ) (f g M : ℕ) (xs : List ℕ) → f ≡ g → IsChain next f xs M → IsChain next g xs M
chain_moved next f g M xs same chain = subst (λ (h : ℕ). IsChain next h xs M) same chain

-- at most one list is a chain from a pointer to the mark
pub one_chain : (next : ℕ → ℕ) (f M : ℕ) (xs ys : List ℕ) → NoMark M xs → NoMark M ys → IsChain next f xs M → IsChain next f ys M → xs ≡ ys
one_chain next f M [] [] nx ny cx cy = refl
one_chain next f M [] (y ∷ ys) nx ny cx cy = absurd (ny.0 (sym cy.0 ∙ cx))
one_chain next f M (x ∷ xs) [] nx ny cx cy = absurd (nx.0 (sym cx.0 ∙ cy))
one_chain next f M (x ∷ xs) (y ∷ ys) nx ny cx cy =
    let same : x ≡ y = sym cx.0 ∙ cy.0 in
    let rest = one_chain next (next y) M xs ys nx.1 ny.1 (chain_moved next (next x) (next y) M xs (ap next same) cx.1) cy.1 in
    cc

-- what stands behind a member is a chain, and shorter
pub behind : (next : ℕ → ℕ) (f M : ℕ) (xs : List ℕ) (x : ℕ) → NoMark M xs → IsChain next f xs M → Contains xs x
    → (rest : List ℕ) × IsChain next (next x) rest M × NoMark M rest × (length rest < length xs)
behind next f M [] x none chain member = absurd (contains_none x member)
behind next f M (y ∷ ys) x none chain member =
    elim (contains_cases y x ys member) [
      | inl same ↦ (ys, chain_moved next (next y) (next x) M ys (ap next same) chain.1, none.1, omega arith)
      | inr later ↦ let s = behind next (next y) M ys x none.1 chain.1 later in (s.0, s.1, s.2, omega (arith, s.3))
    ]

-- the first member does not stand behind itself
pub not_behind : (next : ℕ → ℕ) (x M : ℕ) (xs : List ℕ) → NoMark M xs → IsChain next (next x) xs M → Contains xs x → ⊥
not_behind next x M xs none chain member =
    let s = behind next (next x) M xs x none chain member in
    let same = ap length (one_chain next (next x) M xs s.0 none s.2 chain s.1) in
    omega (arith, s.3, same)

-- no member stands twice
pub chain_distinct : (next : ℕ → ℕ) (f M : ℕ) (xs : List ℕ) → NoMark M xs → IsChain next f xs M → IsDistinct xs
chain_distinct next f M [] none chain = tt
chain_distinct next f M (x ∷ xs) none chain = (not_behind next x M xs none.1 chain.1, chain_distinct next (next x) M xs none.1 chain.1)

-- a member's next pointer is a member, or the mark
pub next_listed : (next : ℕ → ℕ) (f M : ℕ) (xs : List ℕ) (x : ℕ) → IsChain next f xs M → Contains xs x → Contains xs (next x) ⊎ (next x ≡ M)
next_listed next f M [] x chain member = absurd (contains_none x member)
next_listed next f M (y ∷ []) x chain member =
    elim (contains_cases y x [] member) [ inl same ↦ inr (ap next (sym same) ∙ chain.1) | inr later ↦ absurd (contains_none x later) ]
next_listed next f M (y ∷ (z ∷ ys)) x chain member =
    elim (contains_cases y x (z ∷ ys) member) [
      | inl same ↦ inl (subst (λ (w : ℕ). Contains (y ∷ (z ∷ ys)) w) (sym chain.1.0 ∙ ap next same) (contains_more y z (z ∷ ys) (contains_first z ys)))
      | inr later ↦ elim (next_listed next (next y) M (z ∷ ys) x chain.1 later) [
        | inl listed ↦ inl (contains_more y (next x) (z ∷ ys) listed)
        | inr mark ↦ inr mark
      ]
    ]

-- the pointer that a chain begins with is its first member, or the mark
pub first_listed : (next : ℕ → ℕ) (f M : ℕ) (xs : List ℕ) → IsChain next f xs M → Contains xs f ⊎ (f ≡ M)
first_listed next f M [] chain = inr chain
first_listed next f M (x ∷ xs) chain = inl (subst (λ (w : ℕ). Contains (x ∷ xs) w) (sym chain.0) (contains_first x xs))

-- a chain of which each member keeps its next pointer is one still
pub chain_kept : (next new : ℕ → ℕ) (f M : ℕ) (xs : List ℕ) → ((x : ℕ) → Contains xs x → new x ≡ next x) → IsChain next f xs M → IsChain new f xs M
chain_kept next new f M [] kept chain = chain
chain_kept next new f M (x ∷ xs) kept chain =
    (chain.0, chain_moved new (next x) (new x) M xs (sym (kept x (contains_first x xs))) (chain_kept next new (next x) M xs (λ y member. kept y (contains_more x y xs member)) chain.1))

-- no member leads to the pointer that the chain begins with
pub none_before_first : (next : ℕ → ℕ) (f M : ℕ) (xs : List ℕ) (x : ℕ) → NoMark M xs → IsChain next f xs M → Contains xs x → next x ≡ f → ⊥
none_before_first next f M xs x none chain member points =
    let s = behind next f M xs x none chain member in
    let same = ap length (one_chain next f M xs s.0 none s.2 chain (chain_moved next (next x) f M s.0 points s.1)) in
    omega (arith, s.3, same)

-- two members that lead to the same pointer are one
pub one_before : (next : ℕ → ℕ) (f M : ℕ) (xs : List ℕ) (y z : ℕ) → NoMark M xs → IsChain next f xs M → Contains xs y → Contains xs z → next y ≡ next z → y ≡ z
one_before next f M [] y z none chain in_y in_z same = absurd (contains_none y in_y)
one_before next f M (x ∷ xs) y z none chain in_y in_z same =
    elim (contains_cases x y xs in_y) [
      | inl first_y ↦ elim (contains_cases x z xs in_z) [
        | inl first_z ↦ sym first_y ∙ first_z
        | inr later_z ↦ absurd (none_before_first next (next x) M xs z none.1 chain.1 later_z (sym same ∙ ap next (sym first_y)))
      ]
      | inr later_y ↦ elim (contains_cases x z xs in_z) [
        | inl first_z ↦ absurd (none_before_first next (next x) M xs y none.1 chain.1 later_y (same ∙ ap next (sym first_z)))
        | inr later_z ↦ one_before next (next x) M xs y z none.1 chain.1 later_y later_z same
      ]
    ]
