use Rattle.std.proofs.Common.{◌≡◌, ◌+◌, ◌*◌, Some, slice_get, sym, ◌∙◌, arith}
use Rattle.std.proofs.lemmas.Grind.{common_steps}
use Rattle.std.proofs.lemmas.Option.{gets}
use Rattle.life_table.specs.Space.{keys_from}
use Rattle.life_limits.specs.declared.TheConstants.{GROUP_NUMBERS}
use Rattle.plain_table.proofs.Spaces.{lowest-here, lowest-step, lowest-past, none_from, some_from}
use Rattle.plain_table.proofs.space.find_lowest_key.Goals as goal

pub returns-then-is_some : goal.returns-then-is_some
returns-then-is_some c =
    let at : slice_get c.args.group.now c.loop-chunk.chunk-index ≡ Some c.chunk-item.result = grind (arith, common_steps, gets) in
    let number : c.from.result * c.from-2.result + c.from-in-loop-chunk.result ≡ c.args.g * GROUP_NUMBERS + c.chunk-item.result.start = cc in
    let key : c.first_key-key.result ≡ slice_get (keys_from (c.args.g * GROUP_NUMBERS + c.chunk-item.result.start) c.chunk-item.result.inodes) 0 =
    c.first_key-key.ensures ∙ (λ i. slice_get (keys_from (number i) (c.as_slice.ensures i)) 0) in
    let some = some_from c.first_key-key.result (sym c.is_some.ensures ∙ c.if-is_some.true) in
    some.1 ∙ sym (lowest-here c.args.g c.loop-chunk.chunk-index c.args.group.now c.chunk-item.result some.0 at (sym key ∙ some.1)) ∙ c.loop-chunk.invariant

pub loop-chunk-preserved : goal.loop-chunk-preserved
loop-chunk-preserved c =
    let at : slice_get c.args.group.now c.loop-chunk.chunk-index ≡ Some c.chunk-item.result = grind (arith, common_steps, gets) in
    let number : c.from.result * c.from-2.result + c.from-in-loop-chunk.result ≡ c.args.g * GROUP_NUMBERS + c.chunk-item.result.start = cc in
    let key : c.first_key-key.result ≡ slice_get (keys_from (c.args.g * GROUP_NUMBERS + c.chunk-item.result.start) c.chunk-item.result.inodes) 0 =
    c.first_key-key.ensures ∙ (λ i. slice_get (keys_from (number i) (c.as_slice.ensures i)) 0) in
    sym (lowest-step c.args.g c.loop-chunk.chunk-index c.args.group.now c.chunk-item.result at (sym key ∙ none_from c.first_key-key.result (sym c.is_some.ensures ∙ c.if-is_some.false))) ∙ c.loop-chunk.invariant

pub returns : goal.returns
returns c = sym (lowest-past c.args.g c.loop-chunk.chunk-index c.args.group.now (omega arith)) ∙ c.loop-chunk.invariant
