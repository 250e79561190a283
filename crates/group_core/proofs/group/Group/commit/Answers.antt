use Rattle.std.proofs.Common.{◌≡◌, ◌++◌, ◌∷◌, [], List, ap, sym, subst, ◌∙◌}
use Rattle.life_table.specs.declared.types.Entry.{Entry}
use Rattle.group_core.specs.Value.{GroupValue}
use Rattle.group_core.proofs.Histories.{history_after}
use Rattle.group_core.proofs.group.Group.commit.Goals as goal

pub returns-clause-replays : goal.returns-clause-replays
returns-clause-replays g c = λ first legal.
    let now = c.args.self.now in
    let after = c.push.new.self in
    let state : c.self.inside.state ≡ now.state = ap (λ (v : GroupValue _). v.state) c.self.view_is in
    let history : c.self.inside.history.items ≡ now.history = ap (λ (v : GroupValue _). v.history) c.self.view_is in
    let given = c.requires.legal in
    history_after (g.S.GroupTable.group now.state) (g.S.GroupTable.group after.state) first (g.S.GroupTable.table now.state) given.0 (g.S.GroupTable.table after.state)
    now.history after.history c.args.entry
    (ap g.S.GroupTable.group c.push.ensures.state ∙ c.apply.ensures.group ∙ ap g.S.GroupTable.group state)
    (ap g.S.GroupTable.table c.push.ensures.state ∙ c.apply.ensures.table given.0 (subst (λ s. g.S.GroupTable.takes s c.args.next given.0) (sym state) given.1))
    (c.push.ensures.history ∙ ap (λ (es : List Entry). es ++ c.args.entry ∷ []) history)
    given.2 c.requires.own legal
