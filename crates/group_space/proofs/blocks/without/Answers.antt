use Rattle.std.proofs.Common.{◌≡◌, ◌+◌, ℕ, [], length, arith, Bool, List, take, sym, subst, ap, ◌∙◌}
use Rattle.std.proofs.Math.Seq.{take-length}
use Rattle.group_space.specs.Taken.{IsWithout}
use Rattle.group_space.proofs.FreeSets.{without_none, can_take_next, without_more}
use Rattle.group_space.proofs.blocks.without.Goals as goal

pub loop-block-init : goal.loop-block-init
loop-block-init c = subst (λ (m : List Bool). IsWithout c.args.map.now [] m) (sym c.copied-copy.ensures) (without_none c.args.map.now [])

pub take-requires : goal.take-requires
take-requires c = can_take_next c.args.map.now c.loop-block.copy c.args.blocks.now c.loop-block.block-index c.loop-block-test.true c.requires c.loop-block.invariant

pub loop-block-preserved : goal.loop-block-preserved
loop-block-preserved c =
    subst (IsWithout c.args.map.now (take (c.loop-block.block-index + 1) c.args.blocks.now)) (sym c.take.ensures)
    (without_more c.args.map.now c.loop-block.copy c.args.blocks.now c.loop-block.block-index c.loop-block-test.true c.requires c.loop-block.invariant)

pub returns : goal.returns
returns c =
    let all : c.loop-block.block-index ≡ length c.args.blocks.now = let low = c.loop-block.auto.block-index-end in omega (arith, c.loop-block-test.false) in
    subst (λ (some : List ℕ). IsWithout c.args.map.now some c.loop-block.copy) (ap (λ (n : ℕ). take n c.args.blocks.now) all ∙ take-length c.args.blocks.now) c.loop-block.invariant
