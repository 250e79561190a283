use Rattle.std.proofs.Common.{◌&&◌, eqb, sym, ap, ◌∙◌, Bool}
use Rattle.group_ops.proofs.Told.{no_row_seen, row_seen}
use Rattle.group_ops.proofs.state.GroupState.find.Goals as goal

pub returns-then-core : goal.returns-then-core
returns-then-core c t layouts is =
    ap (λ (b : Bool). b && eqb c.in-Some.core.generation c.args.key.generation) (sym c.if-core.true)
    ∙ row_seen t layouts c.args.key c.args.self.now.group c.agino_of.result c.in-Some.core c.requires c.agino_of.ensures.own (c.in-Some.ensures.told t layouts is)

pub returns-else-core : goal.returns-else-core
returns-else-core c t layouts is =
    c.if-core.false
    ∙ ap (λ (b : Bool). b && eqb c.in-Some.core.generation c.args.key.generation) (sym c.if-core.false)
    ∙ row_seen t layouts c.args.key c.args.self.now.group c.agino_of.result c.in-Some.core c.requires c.agino_of.ensures.own (c.in-Some.ensures.told t layouts is)

pub returns-in-None : goal.returns-in-None
returns-in-None c t layouts is =
    no_row_seen t layouts c.args.key c.args.self.now.group c.agino_of.result c.requires c.agino_of.ensures.own (c.in-None.ensures.told t layouts is)
