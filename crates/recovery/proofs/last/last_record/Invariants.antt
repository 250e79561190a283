use Rattle.recovery.specs.Last.{IsSeen}
use Rattle.recovery.proofs.last.last_record.Given as goal

abbrev pub invariant-loop-place : goal.invariant-loop-place
invariant-loop-place l = IsSeen l.ring l.fn.position l.place l.least l.last
