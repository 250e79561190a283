use Rattle.std.proofs.Common.{Bool, List, ap, ◌∙◌}
use Rattle.free_map.specs.Bitmap.{bitmap}
use Rattle.group_space.proofs.space.GroupSpace.write_changed_map.Goals as goal

pub returns : goal.returns
returns c blocks chunks is = c.write_map.ensures ∙ ap (λ (m : List Bool). bitmap m) (c.free_after.ensures ∙ is.free)
