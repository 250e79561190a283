use Rattle.std.proofs.Common.{ap}
use Rattle.group_core.proofs.Histories.{history_after}
use Rattle.group_core.proofs.group.Group.note.Goals as goal

pub returns-clause-replays : goal.returns-clause-replays
returns-clause-replays g c = λ first legal.
    let now = c.args.self.now in
    let after = c.push.new.self in
    let table = g.S.GroupTable.table now.state in
    history_after (g.S.GroupTable.group now.state) (g.S.GroupTable.group after.state) first table table (g.S.GroupTable.table after.state) now.history after.history c.args.entry
    (ap g.S.GroupTable.group c.push.ensures.state) (ap g.S.GroupTable.table c.push.ensures.state) c.push.ensures.history c.requires.legal c.requires.own legal
