use Rattle.image_rules.proofs.Sights.{shown_at}
use Rattle.image_rules.proofs.reading.read_sector.Goals as goal

pub returns-clause-shown : goal.returns-clause-shown
returns-clause-shown g c known = shown_at (g.V.View.image c.args.view.now) c.args.at c.read.new.into (c.in_ok-read.ensures.read known)
