use Rattle.std.proofs.Common.{◌≡◌, sym, ◌∙◌, subst, None, find, arith}
use Rattle.std.specs.List.{range_with_len}
use Rattle.life_table.specs.Space.{begins_run}
use Rattle.plain_table.proofs.Spaces.{place-full, place-found, find-more, place-none}
use Rattle.plain_table.proofs.space.place_for_chunk.Goals as goal

pub returns-then-group-clause-lowest : goal.returns-then-group-clause-lowest
returns-then-group-clause-lowest c = sym (place-full c.args.blocks c.args.group.now (omega arith))

pub returns-then-run_begins-clause-lowest : goal.returns-then-run_begins-clause-lowest
returns-then-run_begins-clause-lowest c =
    sym (place-found c.args.blocks c.args.group.now c.loop-block.block (omega arith) (omega arith) c.loop-block.invariant (sym c.run_begins.ensures ∙ c.if-run_begins.true))

pub loop-block-preserved : goal.loop-block-preserved
loop-block-preserved c = find-more (begins_run c.args.blocks c.args.group.now) c.loop-block.block c.loop-block.invariant (sym c.run_begins.ensures ∙ c.if-run_begins.false)

pub returns-clause-lowest : goal.returns-clause-lowest
returns-clause-lowest c =
    let end : c.loop-block.block ≡ c.args.blocks = omega arith in
    sym (place-none c.args.blocks c.args.group.now (omega arith) (subst (λ n. find (begins_run c.args.blocks c.args.group.now) (range_with_len 0 n) ≡ None) end c.loop-block.invariant))
