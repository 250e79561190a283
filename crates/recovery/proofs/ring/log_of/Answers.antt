use Rattle.recovery.proofs.Breaks.{found_empty}
use Rattle.recovery.proofs.ring.log_of.Goals as goal

pub returns-in_default-clause-found : goal.returns-in_default-clause-found
returns-in_default-clause-found c =
    let start = c.args.start.now in
    let empty = found_empty c.args.ring.now c.args.anchor start.position start.next_commit (rw c.in_default.is at c.requires.last) in
    rw c.new.ensures empty
