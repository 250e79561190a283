-- How many steps a walk has to go: the measure of the loops.
use Rattle.std.proofs.Common.{◌≡◌, ◌==◌, ◌≤◌, ℕ, zero, suc, Bool, if◌then◌else◌, cond, List, [], ◌∷◌, length, refl, sym, ap, ◌∙◌, arith}
use Rattle.std.proofs.lemmas.Bool.{eq-eqb, ne_eqb}
use Rattle.agi_buckets.specs.Buckets.{IsChain}
use Rattle.agi_buckets.proofs.Chains.{NoMark, chain_moved}

-- the steps from a pointer to the mark, at most so many
unfoldable pub steps : (ℕ → ℕ) → ℕ → ℕ → ℕ → ℕ
steps next M zero f = 0
steps next M (suc k) f = if f == M then 0 else suc (steps next M k (next f))

pub steps_of : (next : ℕ → ℕ) (M k f : ℕ) (xs : List ℕ) → NoMark M xs → IsChain next f xs M → length xs ≤ k → steps next M k f ≡ length xs
unfolding steps
steps_of next M zero f [] none chain few = refl
steps_of next M zero f (x ∷ xs) none chain few = absurd (omega arith)
steps_of next M (suc k) f [] none chain few = ap (λ (b : Bool). cond b 0 (suc (steps next M k (next f)))) (eq-eqb f M chain)
steps_of next M (suc k) f (x ∷ xs) none chain few =
    ap (λ (b : Bool). cond b 0 (suc (steps next M k (next f)))) (ne_eqb f M (λ e. none.0 (sym chain.0 ∙ e)))
    ∙ ap suc (steps_of next M k (next f) xs none.1 (chain_moved next (next x) (next f) M xs (ap next (sym chain.0)) chain.1) (omega arith))
