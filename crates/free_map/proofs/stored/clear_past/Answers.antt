use Rattle.std.proofs.Common.{◌<◌, ◌/◌, ◌≢◌, length, inl, inr, arith, get_or-set_other}
use Rattle.std.proofs.lemmas.Bool.{cases_lt}
use Rattle.free_map.proofs.Loading.{cleared_bit, clear_more, uncleared_bit}
use Rattle.free_map.proofs.stored.clear_past.Goals as goal

pub loop-index-preserved : goal.loop-index-preserved
loop-index-preserved c =
    let within : c.loop-index.index < length c.loop-index.words = omega arith in
    record {
      done = clear_more c.loop-index.words c.args.words.now c.args.blocks c.loop-index.index _ _ within c.saturating_sub.ensures c.low_ones.ensures c.loop-index.invariant.done (c.loop-index.invariant.rest c.loop-index.index (omega arith));
      rest = λ k h.
          let other : k ≢ c.loop-index.index = omega arith in
          rw (get_or-set_other c.loop-index.words c.loop-index.index k _ 0 other) (c.loop-index.invariant.rest k (omega arith));
    }

pub returns : goal.returns
returns c b =
    elim (cases_lt (b / 64) c.loop-index.index) [
      | inl in' ↦ cleared_bit c.loop-index.words c.args.words.now c.args.blocks b (c.loop-index.invariant.done (b / 64) in')
      | inr past ↦ uncleared_bit c.loop-index.words c.args.words.now c.args.blocks b (omega arith) (omega arith)
    ]
