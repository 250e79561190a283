use Rattle.std.proofs.Common.{◌≡◌, true, sym, ◌∙◌, subst, arith}
use Rattle.std.specs.List.{list_all, range_with_len}
use Rattle.life_table.specs.Space.{is_free_block}
use Rattle.plain_table.proofs.Spaces.{begins-other, begins-not, begins-all, all-more}
use Rattle.plain_table.proofs.space.run_begins.Goals as goal

pub returns-then-block-ne0 : goal.returns-then-block-ne0
returns-then-block-ne0 c = sym (begins-other c.args.blocks c.args.group.now c.args.block c.if-block-ne0.true)

pub returns-then-not-block_is_free : goal.returns-then-not-block_is_free
returns-then-not-block_is_free c =
    sym (begins-not c.args.blocks c.args.group.now c.args.block c.loop-place.place (omega arith) (sym c.block_is_free.ensures ∙ c.if-not-block_is_free.true))

pub loop-place-preserved : goal.loop-place-preserved
loop-place-preserved c =
    all-more (is_free_block c.args.blocks c.args.group.now) c.args.block c.loop-place.place c.loop-place.invariant (sym c.block_is_free.ensures ∙ c.if-not-block_is_free.false)

pub returns : goal.returns
returns c =
    let end : c.loop-place.place ≡ 8 = omega arith in
    sym (begins-all c.args.blocks c.args.group.now c.args.block (omega arith) (subst (λ n. list_all (is_free_block c.args.blocks c.args.group.now) (range_with_len c.args.block n) ≡ true) end c.loop-place.invariant))
