use Rattle.std.proofs.Common.{sym, subst, ◌∙◌}
use Rattle.actor_holds.specs.Holds.{AreHolds}
use Rattle.actor_holds.proofs.Noted.{noted_one}
use Rattle.actor_holds.proofs.holds.ActorHolds.note.Goals as goal

pub returns-clause-noted : goal.returns-clause-noted
returns-clause-noted c entries are steady =
    noted_one entries c.args.entry.now c.in-Some.key c.self.inside.held c.insert.new.self (subst (AreHolds entries) (sym c.self.view_is) are) steady (sym c.key_taken.ensures ∙ c.in-Some.is)
    c.in_ok-insert.ensures.updates c.insert.ensures.ordered
