use Rattle.std.proofs.Common.{ap, sym, ◌∙◌, List, Bool, length}
use Rattle.free_map.specs.Blocks.{map_free_blocks}
use Rattle.free_map.specs.Words.{map_blocks}
use Rattle.free_map.proofs.Maps.{length-free_blocks}
use Rattle.free_map.proofs.map.FreeMap.free.Goals as goal

pub returns : goal.returns
returns c =
    c.self.invariant.count ∙ sym (length-free_blocks (map_blocks c.self.inside.words c.self.inside.blocks))
    ∙ ap (λ (m : List Bool). length (map_free_blocks m)) c.self.view_is
