use Rattle.std.proofs.Common.{ap, sym, ◌∙◌, length, take, arith, ◌*◌}
use Rattle.free_map.specs.Blocks.{map_free_blocks}
use Rattle.free_map.proofs.Maps.{free_blocks_kept}
use Rattle.free_map.proofs.map.FreeMap.lowest.Goals as goal

pub returns : goal.returns
returns c =
    c.in_ok-lowest_set.ensures
    ∙ ap (take c.args.n) (
    sym (free_blocks_kept c.self.inside.words c.self.inside.blocks c.self.inside.free (64 * length c.self.inside.words) c.self.invariant (omega (arith, c.self.invariant.whole, c.self.invariant.few)))
    ∙ ap map_free_blocks c.self.view_is)
