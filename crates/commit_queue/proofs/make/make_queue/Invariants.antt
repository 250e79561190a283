use Rattle.commit_queue.specs.Ends.{AreNewEnds}
use Rattle.commit_queue.proofs.make.make_queue.Given as goal

abbrev pub invariant-loop-group : goal.invariant-loop-group
invariant-loop-group l = AreNewEnds l.group l.committers.items l.taker
