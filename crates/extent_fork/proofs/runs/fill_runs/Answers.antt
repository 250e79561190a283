use Rattle.std.proofs.Common.{◌≡◌, ◌+◌, ◌++◌, List, [], ◌∷◌, length, get_or, drop, take, refl, ap, sym, ◌∙◌, arith, append_assoc}
use Rattle.std.proofs.Math.ListN.{length-set}
use Rattle.extent_fork.specs.declared.extent.Extent.{Extent}
use Rattle.extent_fork.specs.Runs.{single, runs_from}
use Rattle.extent_fork.proofs.LongestRuns.{goes_on, begins, next_small, took, filled_for_fork}
use Rattle.extent_fork.proofs.runs.fill_runs.Goals as goal

pub loop-block-preserved-then-block-run : goal.loop-block-preserved-then-block-run
loop-block-preserved-then-block-run c =
    let so_far = c.loop-block.invariant in
    let on = goes_on c.loop-block.run c.in-Some.rest.now c.loop-block.block-index 0 c.loop-block-test.true c.if-block-run.true in
    record {
      whole = ap (λ (l : List Extent). take c.loop-block.filled c.loop-block.into ++ l) (sym on) ∙ so_far.whole;
      within = so_far.within;
      low = omega (arith, next_small c.in-Some.first.now c.in-Some.rest.now c.args.blocks.now c.loop-block.block-index c.in-Some.ensures.cases.0 c.requires c.loop-block-test.true, c.if-block-run.true);
    }

pub loop-block-preserved : goal.loop-block-preserved
loop-block-preserved c =
    let so_far = c.loop-block.invariant in
    let block = get_or c.in-Some.rest.now c.loop-block.block-index 0 in
    let others = drop (c.loop-block.block-index + 1) c.in-Some.rest.now in
    let new = begins c.loop-block.run c.in-Some.rest.now c.loop-block.block-index 0 c.loop-block-test.true c.if-block-run.false in
    let put = c.in_ok-filled.ensures.put in
    let room = c.in_ok-filled.ensures.room.0 refl in
    let taken : take c.in_ok-filled.filled c.put_run.new.into ≡ take c.loop-block.filled c.loop-block.into ++ c.loop-block.run ∷ [] = took c.loop-block.into c.put_run.new.into c.loop-block.filled c.in_ok-filled.filled c.loop-block.run room put.0 put.1 in
    record {
      whole = ap (λ (l : List Extent). l ++ runs_from (single block) others) taken ∙ append_assoc (take c.loop-block.filled c.loop-block.into) (c.loop-block.run ∷ []) (runs_from (single block) others)
          ∙ ap (λ (l : List Extent). take c.loop-block.filled c.loop-block.into ++ l) (sym new) ∙ so_far.whole;
      within = omega (arith, ap (length {A = Extent}) put.1, length-set {A = Extent}, room, put.0);
      low = omega (arith, next_small c.in-Some.first.now c.in-Some.rest.now c.args.blocks.now c.loop-block.block-index c.in-Some.ensures.cases.0 c.requires c.loop-block-test.true);
    }

pub returns-clause-for_fork : goal.returns-clause-for_fork
returns-clause-for_fork c = λ data_blocks.
    filled_for_fork c.put_run-2.result c.loop-block.into c.put_run-2.new.into c.loop-block.filled c.loop-block.run c.in-Some.rest.now c.loop-block.block-index c.args.blocks.now c.put_run-2.ensures.room.0 c.put_run-2.ensures.put
    c.loop-block-test.false c.loop-block.invariant.whole c.requires data_blocks
