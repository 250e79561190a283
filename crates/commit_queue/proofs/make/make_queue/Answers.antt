use Rattle.std.proofs.Common.{sym, subst, List, ◌+◌}
use Rattle.commit_queue.specs.Ends.{CommitterState, AreNewEnds}
use Rattle.commit_queue.proofs.Making.{one_more_end}
use Rattle.commit_queue.proofs.make.make_queue.Goals as goal

pub loop-group-preserved : goal.loop-group-preserved
loop-group-preserved c =
    subst (λ (l : List CommitterState). AreNewEnds (c.loop-group.group + 1) l c.make_next.new.self) (sym c.in_ok-push.ensures.items)
    (one_more_end _ _ _ _ _ c.loop-group.invariant c.in_ok-committer.ensures.0 c.in_ok-committer.ensures.1)
