use Rattle.std.proofs.Common.{◌+◌, ℕ, Some, ap, sym, subst, ◌∙◌}
use Rattle.image_rules.specs.Listing.{Noted}
use Rattle.image_rules.proofs.Noting.{Noted-pointing}
use Rattle.image_rules.proofs.links.Links.note.Goals as goal

pub returns-then-core-clause-noted : goal.returns-then-core-clause-noted
returns-then-core-clause-noted c g image group row same found links was =
    let a = c.args in
    let s = a.self.now in
    subst (λ (n : ℕ). Noted g image group (a.agino + 1) s.orphans.entries (Some n)) (sym c.unwrap_or.ensures)
    (Noted-pointing g image group a.agino s.orphans.entries s.pointing row found (λ zero. c.if-core-eq0.false (sym links ∙ zero)) (λ end. c.if-core.true (ap (λ core. core.next) (sym same) ∙ end)) was)
