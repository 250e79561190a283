use Rattle.std.proofs.Common.{◌<◌, false, eqb, length, refl, ap, sym, subst, ◌∙◌, arith}
use Rattle.std.proofs.lemmas.Bool.{eq-eqb, ne_eqb}
use Rattle.sound_image.specs.Encoding.{Layouts}
use Rattle.group_ops.specs.Relinks.{Relinks, next_of}
use Rattle.group_ops.proofs.Relisting.{listed_again, listed_first}
use Rattle.group_ops.proofs.Shown.{ends_elsewhere}
use Rattle.group_ops.proofs.state.GroupState.relink_made.Goals as goal

pub returns-then-links-eq0-clause-pointers : goal.returns-then-links-eq0-clause-pointers
returns-then-links-eq0-clause-pointers c t layouts is out =
    let s = c.args.self.now in
    subst (λ (l : Layouts). Relinks s t layouts l c.args.agino c.put_first.result.head c.put_first.result.prior)
    (sym (listed_first layouts s.group c.args.agino false (eqb c.args.links 0) refl (eq-eqb c.args.links 0 c.if-links-eq0.true)))
    (c.put_first.ensures.pointers t layouts is out)

pub returns-clause-next : goal.returns-clause-next
returns-clause-next c t layouts is out =
    let s = c.args.self.now in
    let low : s.group < length t.groups = omega (arith, c.hold.ensures.inside, is.groups) in
    sym (ap (λ (l : Layouts). next_of l s.group c.args.agino) (listed_again layouts s.group c.args.agino false (eqb c.args.links 0) (sym (ne_eqb c.args.links 0 (λ e. c.if-links-eq0.false e))))
    ∙ ends_elsewhere s t layouts is low c.args.agino out)
