use Rattle.inode_cache.proofs.Bits.{looked_none, looked_more}
use Rattle.inode_cache.proofs.number_set.NumberSet.first_from.Goals as goal

pub loop-index-init : goal.loop-index-init
loop-index-init c = looked_none c.self.inside.words c.args.from

pub loop-index-preserved : goal.loop-index-preserved
loop-index-preserved c =
    looked_more c.self.inside.words c.args.from c.loop-index.index c.loop-index.place c.loop-index.invariant (λ k le. c.in_default.ensures.none k le)
