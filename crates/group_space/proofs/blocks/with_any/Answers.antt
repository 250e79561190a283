use Rattle.std.proofs.Common.{◌≡◌, ℕ, List, [], ◌∷◌, length, refl, sym, subst, ◌∙◌, arith}
use Rattle.std.proofs.lemmas.Bool.{eqb-true}
use Rattle.group_space.specs.Taken.{IsWith}
use Rattle.group_space.proofs.FreeSets.{with_none}
use Rattle.group_space.proofs.blocks.with_any.Goals as goal

empty : (xs : List ℕ) → length xs ≡ 0 → xs ≡ []
empty [] none = refl
empty (x ∷ xs) none = absurd (omega arith)

pub returns-then-is_empty-clause-map : goal.returns-then-is_empty-clause-map
returns-then-is_empty-clause-map c =
    let none : length c.args.blocks.now ≡ 0 = eqb-true (length c.args.blocks.now) 0 (sym c.is_empty.ensures ∙ c.if-is_empty.true) in
    subst (λ (some : List ℕ). IsWith c.args.map.now some c.args.map.now) (sym (empty c.args.blocks.now none)) (with_none c.args.map.now [])
