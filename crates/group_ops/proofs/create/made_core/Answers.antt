use Rattle.std.proofs.Common.{refl}
use Rattle.sound_image.specs.Encoding.{core_for}
use Rattle.group_ops.proofs.create.made_core.Goals as goal

pub returns : goal.returns
unfolding core_for
returns c = refl
