use Rattle.commit_queue.proofs.Moves.{begins}
use Rattle.commit_queue.proofs.make.make_taker.Goals as goal

pub with_rule-requires : goal.with_rule-requires
with_rule-requires c = begins
