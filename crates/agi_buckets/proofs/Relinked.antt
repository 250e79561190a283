-- A chain whose pointer to one member leads past it is a chain without that member.
use Rattle.std.proofs.Common.{◌≡◌, ◌≢◌, ◌==◌, ℕ, Bool, if◌then◌else◌, cond, not, List, [], ◌∷◌, length, Contains, sym, ap, subst, ◌∙◌, inl, inr, arith}
use Rattle.std.proofs.lemmas.Bool.{cases_eq, eq-eqb, ne_eqb}
use Rattle.agi_buckets.specs.Buckets.{IsChain, without}
use Rattle.agi_buckets.proofs.Lists.{contains_more, contains_first}
use Rattle.agi_buckets.proofs.Chains.{NoMark, chain_moved, one_chain}

-- a pointer that leads past an inode
abbrev pub past : (ℕ → ℕ) → ℕ → ℕ → ℕ
past next agino f = if f == agino then next agino else f

pub past_at : (next : ℕ → ℕ) (agino f : ℕ) → f ≡ agino → past next agino f ≡ next agino
past_at next agino f same = ap (λ (b : Bool). cond b (next agino) f) (eq-eqb f agino same)

pub past_other : (next : ℕ → ℕ) (agino f : ℕ) → (f ≡ agino → ⊥) → past next agino f ≡ f
past_other next agino f other = ap (λ (b : Bool). cond b (next agino) f) (ne_eqb f agino other)

pub without_at : (x : ℕ) (xs : List ℕ) (agino : ℕ) → x ≡ agino → without (x ∷ xs) agino ≡ without xs agino
without_at x xs agino same = ap (λ (b : Bool). cond (not b) (x ∷ without xs agino) (without xs agino)) (eq-eqb x agino same)

pub without_other : (x : ℕ) (xs : List ℕ) (agino : ℕ) → (x ≡ agino → ⊥) → without (x ∷ xs) agino ≡ x ∷ without xs agino
without_other x xs agino other = ap (λ (b : Bool). cond (not b) (x ∷ without xs agino) (without xs agino)) (ne_eqb x agino other)

-- no inode is the one behind itself
pub not_own_next : (next : ℕ → ℕ) (x M : ℕ) (xs : List ℕ) → NoMark M xs → x ≢ M → IsChain next (next x) xs M → next x ≡ x → ⊥
not_own_next next x M xs none other chain same =
    let twice : IsChain next (next x) (x ∷ xs) M = (same, chain) in
    let equal = ap length (one_chain next (next x) M xs (x ∷ xs) none (other, none) chain twice) in
    omega (arith, equal)

pub relinked : (next new : ℕ → ℕ) (agino f M : ℕ) (xs : List ℕ) → NoMark M xs → agino ≢ M → IsChain next f xs M
    → ((x : ℕ) → Contains xs x → next x ≡ agino → new x ≡ next agino)
    → ((x : ℕ) → Contains xs x → x ≢ agino → (next x ≡ agino → ⊥) → new x ≡ next x)
    → IsChain new (past next agino f) (without xs agino) M
relinked next new agino f M [] none mark chain before others = past_other next agino f (λ same. mark (sym same ∙ chain)) ∙ chain
relinked next new agino f M (x ∷ xs) none mark chain before others =
    let rest : IsChain new (past next agino (next x)) (without xs agino) M =
    relinked next new agino (next x) M xs none.1 mark chain.1
    (λ y member. before y (contains_more x y xs member)) (λ y member. others y (contains_more x y xs member)) in
    elim (cases_eq x agino) [
      | inl same ↦
          let away : next x ≡ agino → ⊥ = λ e. not_own_next next x M xs none.1 none.0 chain.1 (e ∙ sym same) in
          let from : past next agino (next x) ≡ past next agino f = past_other next agino (next x) away ∙ ap next same ∙ sym (past_at next agino f (chain.0 ∙ same)) in
          subst (λ (ys : List ℕ). IsChain new (past next agino f) ys M) (sym (without_at x xs agino same)) (chain_moved new _ _ M (without xs agino) from rest)
      | inr other ↦
          let first : past next agino f ≡ x = past_other next agino f (λ e. other (sym chain.0 ∙ e)) ∙ chain.0 in
          let to : past next agino (next x) ≡ new x = elim (cases_eq (next x) agino) [
            | inl e ↦ past_at next agino (next x) e ∙ sym (before x (contains_first x xs) e)
            | inr e ↦ past_other next agino (next x) e ∙ sym (others x (contains_first x xs) other e)
          ] in
          subst (λ (ys : List ℕ). IsChain new (past next agino f) ys M) (sym (without_other x xs agino other)) (first, chain_moved new _ _ M (without xs agino) to rest)
    ]
