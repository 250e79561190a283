use Rattle.std.proofs.Common.{Bool, List, length, ap, ◌∙◌}
use Rattle.free_map.specs.Blocks.{map_free_blocks}
use Rattle.group_space.specs.Space.{Space}
use Rattle.group_space.proofs.FreeSets.{free_blocks_of_set}
use Rattle.group_space.proofs.space.GroupSpace.free_count.Goals as goal

pub returns : goal.returns
returns c blocks chunks is =
    c.free.ensures ∙ ap (λ (m : List Bool). length (map_free_blocks m)) (ap (λ (s : Space). s.free) c.self.view_is ∙ is.free) ∙ ap length (free_blocks_of_set blocks chunks)
