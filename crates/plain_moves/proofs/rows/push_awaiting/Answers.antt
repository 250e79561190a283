use Rattle.std.proofs.Common.{◌≡◌, ◌+◌, ◌++◌, List, Some, drop, slice_get, sym, ap, ◌∙◌, arith}
use Rattle.std.proofs.lemmas.Grind.{common_steps}
use Rattle.std.proofs.lemmas.Option.{gets}
use Rattle.life_table.specs.declared.key.Key.{Key}
use Rattle.actor_world.specs.Moves.{awaiting_from}
use Rattle.plain_moves.proofs.Ahead.{awaiting-found, awaiting-passed, awaiting-past}
use Rattle.plain_moves.proofs.rows.push_awaiting.Goals as goal
use Rattle.plain_moves.proofs.rows.push_awaiting.Goals.{then-is_awaiting_row+in_ok-push, else-is_awaiting_row}

pub loop-place-preserved : goal.loop-place-preserved
loop-place-preserved c =
    let at : slice_get c.args.inodes.now c.loop-place.place ≡ Some c.index-inodes-place.result = grind (arith, common_steps, gets) in
    elim c.if-is_awaiting_row.branch [
      | then-is_awaiting_row+in_ok-push w ↦
          ap (λ (keys : List Key). keys ++ awaiting_from (c.args.first + (c.loop-place.place + 1)) (drop (c.loop-place.place + 1) c.args.inodes.now))
          ((λ j. (w.keys-is j).items) ∙ w.in_ok-push.ensures.items)
          ∙ awaiting-found c.loop-place.keys.items _ c.args.first c.loop-place.place c.args.inodes.now c.index-inodes-place.result at
          (sym c.is_awaiting_row.ensures ∙ w.if-is_awaiting_row.true) c.loop-place.invariant
      | else-is_awaiting_row w ↦
          ap (λ (keys : List Key). keys ++ awaiting_from (c.args.first + (c.loop-place.place + 1)) (drop (c.loop-place.place + 1) c.args.inodes.now))
          (λ j. (w.keys-is j).items)
          ∙ awaiting-passed c.loop-place.keys.items _ c.args.first c.loop-place.place c.args.inodes.now c.index-inodes-place.result at
          (sym c.is_awaiting_row.ensures ∙ w.if-is_awaiting_row.false) c.loop-place.invariant
    ]

pub returns : goal.returns
returns c =
    awaiting-past c.loop-place.keys.items _ c.args.first c.loop-place.place c.args.inodes.now (omega arith) c.loop-place.invariant
