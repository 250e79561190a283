use Rattle.whole_image.proofs.Standing.{blank}
use Rattle.whole_image.proofs.laws.blank_images_are_damaged.Goals as goal

pub returns : goal.returns
returns c = blank
