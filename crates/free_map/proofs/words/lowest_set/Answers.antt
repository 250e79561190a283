use Rattle.std.proofs.Common.{◌*◌, ℕ, ◌≡◌, length, arith, ap, ◌∙◌, take, filter}
use Rattle.std.specs.List.{range_with_len}
use Rattle.free_map.specs.Words.{block_bit}
use Rattle.free_map.proofs.Bits.{lowest_step, lowest_enough}
use Rattle.free_map.proofs.words.lowest_set.Goals as goal
use Rattle.free_map.proofs.words.lowest_set.Goals.{else-loop-index-test, then-loop-index-test+then-len-n}

pub loop-index-preserved : goal.loop-index-preserved
loop-index-preserved c = lowest_step c.args.words.now c.loop-index.found.items _ c.args.n c.loop-index.index c.loop-index.invariant (omega arith) (c.in_ok-push_places.ensures.ok)

pub returns : goal.returns
returns c = elim c.loop-index-test.branch [
  | else-loop-index-test w ↦
      let end : c.loop-index.index ≡ length c.args.words.now = omega arith in
      c.loop-index.invariant ∙ ap (λ (i : ℕ). take c.args.n (filter (block_bit c.args.words.now) (range_with_len 0 (64 * i)))) end
  | then-loop-index-test+then-len-n w ↦ lowest_enough c.args.words.now c.loop-index.found.items c.args.n c.loop-index.index c.loop-index.invariant (omega arith) (omega arith)
]
