use Rattle.std.proofs.Common.{◌≡◌, ◌+◌, ℕ, [], length, arith, Bool, List, take, sym, subst, ap, ◌∙◌}
use Rattle.std.proofs.Math.Seq.{take-length}
use Rattle.group_space.specs.Taken.{IsWith}
use Rattle.group_space.proofs.FreeSets.{with_none, can_give_next, with_more}
use Rattle.group_space.proofs.blocks.with.Goals as goal

pub loop-block-init : goal.loop-block-init
loop-block-init c = subst (λ (m : List Bool). IsWith c.args.map.now [] m) (sym c.copied-copy.ensures) (with_none c.args.map.now [])

pub give-requires-clause-below : goal.give-requires-clause-below
give-requires-clause-below c = (can_give_next c.args.map.now c.loop-block.copy c.args.blocks.now c.loop-block.block-index c.loop-block-test.true c.requires c.loop-block.invariant).0

pub give-requires-clause-taken : goal.give-requires-clause-taken
give-requires-clause-taken c = (can_give_next c.args.map.now c.loop-block.copy c.args.blocks.now c.loop-block.block-index c.loop-block-test.true c.requires c.loop-block.invariant).1

pub loop-block-preserved : goal.loop-block-preserved
loop-block-preserved c =
    subst (IsWith c.args.map.now (take (c.loop-block.block-index + 1) c.args.blocks.now)) (sym c.give.ensures)
    (with_more c.args.map.now c.loop-block.copy c.args.blocks.now c.loop-block.block-index c.loop-block-test.true c.requires c.loop-block.invariant)

pub returns : goal.returns
returns c =
    let all : c.loop-block.block-index ≡ length c.args.blocks.now = let low = c.loop-block.auto.block-index-end in omega (arith, c.loop-block-test.false) in
    subst (λ (some : List ℕ). IsWith c.args.map.now some c.loop-block.copy) (ap (λ (n : ℕ). take n c.args.blocks.now) all ∙ take-length c.args.blocks.now) c.loop-block.invariant
