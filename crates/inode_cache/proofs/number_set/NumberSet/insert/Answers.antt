use Rattle.std.proofs.Common.{List, ℕ, refl, ap, ◌∙◌, arith}
use Rattle.inode_cache.specs.Numbers.{has_number}
use Rattle.inode_cache.proofs.Bits.{inserted_here, inserted_others}
use Rattle.inode_cache.proofs.number_set.NumberSet.insert.Goals as goal

pub returns-clause-here : goal.returns-clause-here
returns-clause-here c = inserted_here c.self.inside.words c.args.number _ (omega (arith, c.requires, c.self.invariant))

pub returns-clause-others : goal.returns-clause-others
returns-clause-others c = λ n ne.
    inserted_others c.self.inside.words c.args.number _ (omega (arith, c.requires, c.self.invariant)) refl n ne
    ∙ ap (λ (l : List ℕ). has_number l n) c.self.view_is
