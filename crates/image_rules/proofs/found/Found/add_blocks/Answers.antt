use Rattle.std.proofs.Common.{ℕ, Some, sym, subst}
use Rattle.image_rules.specs.Taking.{Adds, all, crowded}
use Rattle.image_rules.proofs.found.Found.add_blocks.Goals as goal

pub returns-then-not-take_all-clause-blocks : goal.returns-then-not-take_all-clause-blocks
returns-then-not-take_all-clause-blocks c =
    let s = c.args.self.now in
    subst (λ (n : ℕ). Adds s.map s.shared c.args.at c.args.blocks.now c.take_all.new.map (Some n)) (sym c.unwrap_or.ensures)
    (crowded c.take_all.new.map (c.take_all.ensures.crowded c.if-not-take_all.true))

pub returns-else-not-take_all-clause-blocks : goal.returns-else-not-take_all-clause-blocks
returns-else-not-take_all-clause-blocks c = all c.take_all.new.map (c.take_all.ensures.all c.if-not-take_all.false) c.take_all.ensures.long
