use Rattle.std.proofs.Common.{◌-◌}
use Rattle.recovery.specs.Follow.{IsFollowed}
use Rattle.recovery.proofs.chain.follow.Given as goal

abbrev pub invariant-loop-position : goal.invariant-loop-position
invariant-loop-position l = IsFollowed l.ring l.anchor l.last l.head.first l.position l.number l.images

abbrev pub decreases-loop-position : goal.decreases-loop-position
decreases-loop-position l = l.end - l.position
