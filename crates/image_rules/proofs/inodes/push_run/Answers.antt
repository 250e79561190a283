use Rattle.std.proofs.Common.{◌≡◌, ◌+◌, ◌-◌, ◌++◌, ◌∷◌, [], ℕ, List, arith, ap, sym, ◌∙◌, append_assoc}
use Rattle.std.specs.List.{range_with_len}
use Rattle.image_rules.proofs.Blocking.{range_more}
use Rattle.image_rules.proofs.inodes.push_run.Goals as goal

pub loop-block-preserved : goal.loop-block-preserved
loop-block-preserved c =
    let start : ℕ = c.args.run.now.start in
    let block : ℕ = c.loop-block.block in
    let next : block + 1 - start ≡ (block - start) + 1 = omega (arith, c.loop-block.auto.block) in
    c.in_ok-push.ensures.items
    ∙ ap (λ (xs : List ℕ). xs ++ block ∷ []) c.loop-block.invariant
    ∙ append_assoc c.args.blocks.now.items (range_with_len start (block - start)) (block ∷ [])
    ∙ ap (λ (xs : List ℕ). c.args.blocks.now.items ++ xs) (sym (range_more start (block - start) block (omega (arith, c.loop-block.auto.block))) ∙ ap (range_with_len start) (sym next))
