use Rattle.std.proofs.Common.{ap, ◌∙◌}
use Rattle.log_image.specs.Overlay.{newest}
use Rattle.recovery.proofs.Entries.{newest-images_in}
use Rattle.recovery.proofs.homes.HomeImages.get.Goals as goal

pub returns : goal.returns
returns c = c.get.ensures.value ∙ newest-images_in 0 c.args.home c.self.inside.sectors.entries c.self.invariant ∙ ap (newest c.args.home) c.self.view_is
