use Rattle.std.proofs.Common.{◌≡◌, ◌++◌, ◌∷◌, [], true, false, filter, sym, ap, ◌∙◌, arith}
use Rattle.std.specs.List.{range_with_len}
use Rattle.life_table.specs.Space.{is_free_block}
use Rattle.plain_table.proofs.Spaces.{filter-more, free_blocks-is}
use Rattle.plain_table.proofs.space.list_free_blocks.Goals as goal
use Rattle.plain_table.proofs.space.list_free_blocks.Goals.{then-block_is_free+in_ok-push, else-block_is_free}

pub loop-block-preserved : goal.loop-block-preserved
loop-block-preserved c =
    elim c.if-block_is_free.branch [
      | then-block_is_free+in_ok-push w ↦
          (λ i. (w.free-is i).items) ∙ w.in_ok-push.ensures.items ∙ ap (λ xs. xs ++ c.loop-block.block ∷ []) c.loop-block.invariant
          ∙ sym (filter-more (is_free_block c.args.blocks c.args.group.now) c.loop-block.block true (sym c.block_is_free.ensures ∙ w.if-block_is_free.true))
      | else-block_is_free w ↦
          (λ i. (w.free-is i).items) ∙ c.loop-block.invariant
          ∙ sym (filter-more (is_free_block c.args.blocks c.args.group.now) c.loop-block.block false (sym c.block_is_free.ensures ∙ w.if-block_is_free.false))
    ]

pub returns : goal.returns
returns c =
    let end : c.loop-block.block ≡ c.args.blocks = omega arith in
    c.loop-block.invariant ∙ ap (λ n. filter (is_free_block c.args.blocks c.args.group.now) (range_with_len 0 n)) end ∙ sym (free_blocks-is c.args.blocks c.args.group.now)
