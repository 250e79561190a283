use Rattle.group_ops.proofs.Sights.{shown_at}
use Rattle.group_ops.proofs.reading.read_sector.Goals as goal

pub returns-clause-shown : goal.returns-clause-shown
returns-clause-shown g c known = shown_at (g.V.View.image c.args.view.now) c.args.at c.read.new.into (c.in_ok-read.ensures.read known)
