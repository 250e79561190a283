use Rattle.std.proofs.Common.{◌<◌, ◌+◌, ◌*◌, ℕ, List, Bool, subst, sym, arith, below_more, get_or}
use Rattle.free_map.specs.Blocks.{IsFreeRun}
use Rattle.free_map.specs.Words.{IsFull}
use Rattle.free_map.proofs.Runs.{run_from_full, lowest_run, no_run}
use Rattle.free_map.proofs.map.FreeMap.aligned_run.Goals as goal

pub returns-in-Some-clause-run : goal.returns-in-Some-clause-run
returns-in-Some-clause-run c =
    subst (λ (m : List Bool). IsFreeRun m (64 * c.loop-index.index + 8 * c.in-Some.byte)) c.self.view_is
    (run_from_full c.self.inside.words c.self.inside.blocks c.self.inside.free c.loop-index.index c.in-Some.byte c.self.invariant c.in-Some.ensures.some.0 c.in-Some.ensures.some.1)

pub returns-in-Some-clause-lowest : goal.returns-in-Some-clause-lowest
returns-in-Some-clause-lowest c b run =
    lowest_run c.self.inside.words c.self.inside.blocks c.self.inside.free c.loop-index.index c.in-Some.byte c.self.invariant c.in-Some.ensures.some.0 c.loop-index.invariant c.in-Some.ensures.lowest b
    (subst (λ (m : List Bool). IsFreeRun m b) (sym c.self.view_is) run)

pub loop-index-preserved : goal.loop-index-preserved
loop-index-preserved c = let P : ℕ → Type 0 = λ w. (k : ℕ) → k < 8 → ¬ IsFull (get_or c.self.inside.words w 0) k in
    below_more P _ c.loop-index.invariant c.in_default.ensures.none

pub returns-clause-none : goal.returns-clause-none
returns-clause-none c b run =
    no_run c.self.inside.words c.self.inside.blocks c.self.inside.free c.self.invariant (λ v h. c.loop-index.invariant v (omega (arith, h, c.loop-index-test.false))) b
    (subst (λ (m : List Bool). IsFreeRun m b) (sym c.self.view_is) run)
