use Rattle.std.proofs.Common.{ap}
use Rattle.commit_queue.proofs.Moves.{pops, learns}
use Rattle.commit_queue.proofs.taker.Taker.pop.Goals as goal

pub pop_as-requires-clause-rule : goal.pop_as-requires-clause-rule
pop_as-requires-clause-rule g c = let takes = ap (λ v. v.takes) c.self.invariant.1.knows in (pops _ _ takes, learns _ _ takes)
