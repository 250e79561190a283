use Rattle.std.proofs.Common.{ap, ◌∙◌}
use Rattle.log_batch.specs.Dirty.{Dirty}
use Rattle.log_batch.proofs.Held.{held_same}
use Rattle.log_batch.proofs.dirty.DirtySectors.reserve.Goals as goal

pub returns-in_err-reserve-2-clause-images : goal.returns-in_err-reserve-2-clause-images
returns-in_err-reserve-2-clause-images c =
    held_same c.self.inside.sectors.entries c.reserve.new.self.entries c.reserve.ensures.entries.2 ∙ ap (λ (d : Dirty). d.images) c.self.view_is

pub returns-clause-images : goal.returns-clause-images
returns-clause-images c =
    held_same c.self.inside.sectors.entries c.reserve.new.self.entries c.reserve.ensures.entries.2 ∙ ap (λ (d : Dirty). d.images) c.self.view_is
