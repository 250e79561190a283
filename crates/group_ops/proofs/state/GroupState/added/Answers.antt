use Rattle.std.proofs.Common.{◌≡◌, ◌+◌, ◌%◌, ℕ, ap, ◌∙◌, subst}
use Rattle.group_ops.proofs.Parts.{added_after}
use Rattle.group_ops.proofs.state.GroupState.added.Goals as goal

pub returns-else-start-index : goal.returns-else-start-index
returns-else-start-index c =
    added_after c.args.self.now c.args.delta.now c.args.chunk.now c.args.index c.at.result c.hold.ensures.inside c.requires.chunk
    (subst (λ (n : ℕ). n % 64 ≡ 0) c.start.ensures.own c.start.ensures.aligned) c.requires.index c.at.ensures
    (λ same. c.if-start-index.false (ap (λ (n : ℕ). n + c.args.index) c.start.ensures.own ∙ same))
