use Rattle.std.proofs.Common.{◌≡◌, ◌≤◌, ◌+◌, ◌-◌, ◌++◌, ℕ, List, [], ◌∷◌, ap, sym, ◌∙◌, arith, append_assoc}
use Rattle.std.specs.List.{range_with_len}
use Rattle.std.proofs.lemmas.List.{append-nil}
use Rattle.group_ops.proofs.Pushing.{range_more}
use Rattle.group_ops.proofs.sectors.push_blocks.Goals as goal

pushed : (old now new : List ℕ) (a block : ℕ) → a ≤ block → now ≡ old ++ range_with_len a (block - a) → new ≡ now ++ block ∷ [] → new ≡ old ++ range_with_len a (block + 1 - a)
pushed old now new a block low inv put =
    let e : block + 1 - a ≡ block - a + 1 = omega arith in
    put ∙ ap (λ (l : List ℕ). l ++ block ∷ []) inv ∙ append_assoc old (range_with_len a (block - a)) (block ∷ [])
    ∙ ap (λ (l : List ℕ). old ++ l) (sym (range_more a (block - a) block (omega arith))) ∙ ap (λ (n : ℕ). old ++ range_with_len a n) (sym e)

pub loop-block-init : goal.loop-block-init
loop-block-init c =
    let e : c.args.run.now.start - c.args.run.now.start ≡ 0 = omega arith in
    sym (ap (λ (n : ℕ). c.args.blocks.now.items ++ range_with_len c.args.run.now.start n) e ∙ append-nil c.args.blocks.now.items)

pub loop-block-preserved : goal.loop-block-preserved
loop-block-preserved c =
    pushed c.args.blocks.now.items c.loop-block.blocks.items c.push.new.self.items c.args.run.now.start c.loop-block.block (omega arith) c.loop-block.invariant c.in_ok-push.ensures.items

pub returns : goal.returns
returns c =
    let e : c.loop-block.block - c.args.run.now.start ≡ c.args.run.now.count = omega arith in
    c.loop-block.invariant ∙ ap (λ (n : ℕ). c.args.blocks.now.items ++ range_with_len c.args.run.now.start n) e
