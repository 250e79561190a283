use Rattle.mount.proofs.Inserts.{one_agrees, one_grows, one_has}
use Rattle.mount.proofs.Sights.{shown_at}
use Rattle.mount.proofs.keeping.keep_sector.Goals as goal

pub returns-clause-shown : goal.returns-clause-shown
returns-clause-shown g c known = shown_at (g.V.View.image c.args.view.now) c.args.at c.read.new.into (c.in_ok-read.ensures.read known)

pub returns-clause-agrees : goal.returns-clause-agrees
returns-clause-agrees g c known =
    one_agrees (g.V.View.image c.args.view.now) c.args.kept.now c.insert.new.self c.args.at c.read.new.into c.in_ok-insert.ensures.updates
    (shown_at (g.V.View.image c.args.view.now) c.args.at c.read.new.into (c.in_ok-read.ensures.read known))

pub returns-clause-grows : goal.returns-clause-grows
returns-clause-grows g c = one_grows c.args.kept.now c.insert.new.self c.args.at c.read.new.into c.in_ok-insert.ensures.updates

pub returns-clause-has : goal.returns-clause-has
returns-clause-has g c = one_has c.args.kept.now c.insert.new.self c.args.at c.read.new.into c.in_ok-insert.ensures.updates
