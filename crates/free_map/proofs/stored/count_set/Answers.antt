use Rattle.std.proofs.Common.{◌<◌, ◌^◌, get_or, arith}
use Rattle.std.proofs.lemmas.Nat.{ones-le}
use Rattle.free_map.proofs.Counting.{count_step}
use Rattle.free_map.proofs.stored.count_set.Goals as goal

pub loop-word-preserved : goal.loop-word-preserved
loop-word-preserved c =
    let fits : get_or c.args.words.now c.loop-word.word-index 0 < 2 ^ 64 = omega (arith, c.type_inv.words c.loop-word.word-index) in
    record {
      so_far = count_step c.args.words.now c.loop-word.word-index c.loop-word.count fits c.loop-word.invariant.so_far;
      few = omega (arith, c.loop-word.invariant.few, ones-le 64 _ fits);
    }
