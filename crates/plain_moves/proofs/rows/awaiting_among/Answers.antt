use Rattle.std.proofs.Common.{◌≡◌, ◌+◌, ◌++◌, List, Some, drop, slice_get, ap, ◌∙◌, arith}
use Rattle.std.proofs.lemmas.Grind.{common_steps}
use Rattle.std.proofs.lemmas.Option.{gets}
use Rattle.life_table.specs.declared.key.Key.{Key}
use Rattle.actor_world.specs.Moves.{awaiting_from}
use Rattle.plain_moves.specs.Parts.{awaiting_among}
use Rattle.plain_moves.proofs.Ahead.{among-next, among-past}
use Rattle.plain_moves.proofs.rows.awaiting_among.Goals as goal

pub loop-chunk-preserved : goal.loop-chunk-preserved
loop-chunk-preserved c =
    let at : slice_get c.args.group.now c.loop-chunk.chunk-index ≡ Some c.chunk-item.result = grind (arith, common_steps, gets) in
    ap (λ (keys : List Key). keys ++ awaiting_among c.args.first (drop (c.loop-chunk.chunk-index + 1) c.args.group.now))
    (c.in_ok-push_awaiting.ensures ∙ (λ j. c.loop-chunk.keys.items ++ awaiting_from (c.args.first + c.from.ensures j) (c.as_slice.ensures j)))
    ∙ among-next c.loop-chunk.keys.items _ c.args.first c.loop-chunk.chunk-index c.args.group.now c.chunk-item.result at c.loop-chunk.invariant

pub returns : goal.returns
returns c =
    among-past c.loop-chunk.keys.items _ c.args.first c.loop-chunk.chunk-index c.args.group.now (omega arith) c.loop-chunk.invariant
