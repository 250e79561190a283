use Rattle.std.proofs.Common.{sym, ap, ◌∙◌, arith}
use Rattle.commit_queue.proofs.Moves.{pushes}
use Rattle.commit_queue.proofs.committer.Committer.push.Goals as goal

pub push_as-requires-clause-rule : goal.push_as-requires-clause-rule
push_as-requires-clause-rule g c = λ n. pushes n _ _ _ _ _ c.self.invariant.1.knows (c.requires ∙ sym (ap (λ s. s.group) c.self.view_is)) (omega (arith, c.self.invariant.1.length_is, c.if-self.false))
