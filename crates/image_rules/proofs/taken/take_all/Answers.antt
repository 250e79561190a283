use Rattle.std.proofs.Common.{◌+◌, Bool, false, List, length, take, get_or, refl, sym, ap, subst, ◌∙◌}
use Rattle.std.proofs.Math.ListN.{length-set}
use Rattle.image_rules.specs.Taking.{TakesAll}
use Rattle.image_rules.proofs.Takes.{TakesAll-none, TakesAll-more, crowded_at}
use Rattle.image_rules.proofs.taken.take_all.Goals as goal

pub loop-block-init : goal.loop-block-init
loop-block-init c = record { long = refl; takes = TakesAll-none c.args.map.now }

pub returns-then-not-is_free-clause-crowded : goal.returns-then-not-is_free-clause-crowded
returns-then-not-is_free-clause-crowded c _ =
    crowded_at c.args.map.now c.loop-block.map c.args.blocks.now c.loop-block.block-index c.loop-block-test.true c.loop-block.invariant.takes (sym c.is_free.ensures ∙ c.if-not-is_free.true)

pub loop-block-preserved : goal.loop-block-preserved
loop-block-preserved c = record {
  long = ap (λ (m : List Bool). length m) c.take.ensures ∙ length-set c.loop-block.map (get_or c.args.blocks.now c.loop-block.block-index 0) false ∙ c.loop-block.invariant.long;
  takes = subst (TakesAll c.args.map.now (take (c.loop-block.block-index + 1) c.args.blocks.now)) (sym c.take.ensures)
      (TakesAll-more c.args.map.now c.loop-block.map c.args.blocks.now c.loop-block.block-index c.loop-block-test.true c.loop-block.invariant.takes (sym c.is_free.ensures ∙ c.if-not-is_free.false));
}
