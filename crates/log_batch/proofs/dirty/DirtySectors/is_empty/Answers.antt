use Rattle.std.proofs.Common.{◌≡◌, length, ap, sym, ◌∙◌}
use Rattle.log_batch.specs.Dirty.{Dirty, held}
use Rattle.log_batch.proofs.Held.{held_none, none_held}
use Rattle.log_batch.proofs.dirty.DirtySectors.is_empty.Goals as goal

pub returns : goal.returns
returns c =
    let entries = c.self.inside.sectors.entries in
    let seen : held entries ≡ c.args.self.now.images = ap (λ (d : Dirty). d.images) c.self.view_is in
    (λ empty. ap length (sym seen) ∙ held_none entries (c.is_empty.ensures.0 empty), λ none. c.is_empty.ensures.1 (none_held entries (ap length seen ∙ none)))
