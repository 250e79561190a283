use Rattle.std.proofs.Common.{ap, sym, ◌∙◌, length}
use Rattle.free_map.proofs.Maps.{length-blocks_of}
use Rattle.free_map.proofs.map.FreeMap.blocks.Goals as goal

pub returns-clause-count : goal.returns-clause-count
returns-clause-count c = sym (length-blocks_of c.self.inside.words c.self.inside.blocks) ∙ ap length c.self.view_is
