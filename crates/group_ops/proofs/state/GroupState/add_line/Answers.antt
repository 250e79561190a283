use Rattle.std.proofs.Common.{◌≡◌, ◌++◌, ℕ, List, sym, ap, ◌∙◌}
use Rattle.std.proofs.lemmas.List.{append-nil}
use Rattle.std.proofs.lemmas.Option.{none-some}
use Rattle.geometry.specs.Places.{number_in}
use Rattle.group_ops.specs.declared.rows.RowLine.{RowLine}
use Rattle.group_ops.proofs.RowLines.{line_seen, no_line_seen, not_false, not_true}
use Rattle.group_ops.proofs.state.GroupState.add_line.Goals as goal

pub returns-in_default : goal.returns-in_default
returns-in_default c t layouts inode is there =
    let told = rw there at (c.in_default.ensures.told t layouts is) in
    absurd (none-some _ told)

pub returns-then-not-core : goal.returns-then-not-core
returns-then-not-core c t layouts inode is there =
    let told = rw there at (c.in-Some.ensures.told t layouts is) in
    let none = no_line_seen layouts c.args.self.now.group c.args.agino (number_in c.args.self.now.group c.args.agino) inode c.in-Some.core told (not_true c.in-Some.core.live c.if-not-core.true) in
    sym (ap (λ (l : List RowLine). c.args.lines.now.items ++ l) none ∙ append-nil c.args.lines.now.items)

pub returns : goal.returns
returns c t layouts inode is there =
    let told = rw there at (c.in-Some.ensures.told t layouts is) in
    let seen = line_seen layouts c.args.self.now.group c.args.agino (number_in c.args.self.now.group c.args.agino) inode c.in-Some.core told (not_false c.in-Some.core.live c.if-not-core.false) in
    let pushed = c.in_ok-push.ensures.items in
    let numbered : c.number.result ≡ number_in c.args.self.now.group c.args.agino = c.number.ensures ∙ ap (λ (g : ℕ). number_in g c.args.agino) c.group.ensures.own in
    cc (seen, pushed, numbered)
