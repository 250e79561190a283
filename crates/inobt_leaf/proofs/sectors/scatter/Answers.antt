use Rattle.inobt_leaf.proofs.Gathering.{scatter_more}
use Rattle.inobt_leaf.proofs.sectors.scatter.Goals as goal
use Rattle.std.proofs.Common.{arith}

pub loop-index-preserved : goal.loop-index-preserved
loop-index-preserved c =
    scatter_more c.loop-index.page c.args.bytes.now c.copy_from_slice.new.self c.loop-index.index (omega arith) c.copy_from_slice.ensures.after c.loop-index.invariant
