use Rattle.std.proofs.Common.{ap}
use Rattle.commit_queue.proofs.Moves.{merges}
use Rattle.commit_queue.proofs.taker.Taker.take_in.Goals as goal

pub absorb-requires-clause-rule : goal.absorb-requires-clause-rule
absorb-requires-clause-rule c = merges _ _ _ _ (ap (λ v. v.takes) c.self.invariant.1.knows)
