use Rattle.std.proofs.Common.{arith}
use Rattle.free_map.proofs.Loading.{store_more}
use Rattle.free_map.proofs.stored.store.Goals as goal

pub loop-index-preserved : goal.loop-index-preserved
loop-index-preserved c =
    store_more c.loop-index.into c.args.words.now c.write_u64_into.new.dst c.loop-index.index (omega arith) (omega (arith, c.requires)) c.write_u64_into.ensures c.loop-index.invariant
