use Rattle.std.proofs.Common.{arith}
use Rattle.disk_model.specs.Disk.{settled}
use Rattle.disk_model.proofs.Picked.{Walked-more}
use Rattle.disk_model.proofs.outcome.walked.Goals as goal

pub loop-entry-preserved : goal.loop-entry-preserved
loop-entry-preserved c = record {
  few = omega arith;
  walked = Walked-more c.args.at c.args.index _ (settled c.args.first.now) _ _ c.args.entries.now c.loop-entry.entry-index _ c.loop-entry-test.true c.entry-item.is
      (c.next-walk.ensures.walked _ c.loop-entry.invariant.walked);
}
