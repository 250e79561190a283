use Rattle.std.proofs.Common.{Bool, List, ap, ◌∙◌}
use Rattle.free_map.specs.Bitmap.{bitmap}
use Rattle.group_space.specs.Space.{Space}
use Rattle.group_space.proofs.space.GroupSpace.write_map.Goals as goal

pub returns : goal.returns
returns c blocks chunks is = c.write_map.ensures ∙ ap (λ (m : List Bool). bitmap m) (ap (λ (s : Space). s.free) c.self.view_is ∙ is.free)
