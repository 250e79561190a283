use Rattle.disk_model.specs.MemoryEntry.{changes_of}
use Rattle.disk_model.proofs.Picked.{picked-more, others-more, picked-all}
use Rattle.disk_model.proofs.outcome.settle.Goals as goal

pub loop-at-preserved : goal.loop-at-preserved
loop-at-preserved c = record {
  done = rw (c.outcome-next.ensures.value, c.outcome-next.ensures.rest)
      (picked-more c.args.choice c.loop-at.rest c.loop-at.at (changes_of c.args.entries.now) c.args.first.now c.loop-at.first _ c.loop-at-test.true c.loop-at.auto.first c.loop-at.invariant.others c.loop-at.invariant.done);
  others = others-more c.loop-at.at c.args.first.now c.loop-at.first c.outcome-next.result.0 c.outcome-next.result.0 c.loop-at-test.true c.loop-at.auto.first c.loop-at.invariant.others;
}

pub returns : goal.returns
returns c = picked-all c.args.choice c.loop-at.rest c.loop-at.at (changes_of c.args.entries.now) c.args.first.now c.loop-at.first c.loop-at-test.false c.loop-at.auto.first c.loop-at.invariant.done
