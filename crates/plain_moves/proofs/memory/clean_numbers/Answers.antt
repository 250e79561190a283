use Rattle.std.proofs.Common.{◌+◌, ◌++◌, ℕ, List, drop, sym, ap, ◌∙◌, arith}
use Rattle.std.proofs.lemmas.Option.{slice_get-get_or}
use Rattle.actor_world.specs.Caches.{clean_numbers}
use Rattle.plain_moves.proofs.Ahead.{clean-found, clean-passed, clean-past}
use Rattle.plain_moves.proofs.memory.clean_numbers.Goals as goal
use Rattle.plain_moves.proofs.memory.clean_numbers.Goals.{then-is_clean+in_ok-push, else-is_clean}

pub loop-place-preserved : goal.loop-place-preserved
loop-place-preserved c =
    elim c.if-is_clean.branch [
      | then-is_clean+in_ok-push w ↦
          ap (λ (numbers : List ℕ). numbers ++ clean_numbers (c.args.first + (c.loop-place.place + 1)) (drop (c.loop-place.place + 1) c.args.slots.now))
          ((λ j. (w.numbers-is j).items) ∙ w.in_ok-push.ensures.items)
          ∙ clean-found c.loop-place.numbers.items _ c.args.first c.loop-place.place c.args.slots.now _
          (slice_get-get_or c.args.slots.now c.loop-place.place _ c.loop-place-test.true)
          (sym c.is_clean.ensures ∙ w.if-is_clean.true) c.loop-place.invariant
      | else-is_clean w ↦
          ap (λ (numbers : List ℕ). numbers ++ clean_numbers (c.args.first + (c.loop-place.place + 1)) (drop (c.loop-place.place + 1) c.args.slots.now))
          (λ j. (w.numbers-is j).items)
          ∙ clean-passed c.loop-place.numbers.items _ c.args.first c.loop-place.place c.args.slots.now _
          (slice_get-get_or c.args.slots.now c.loop-place.place _ c.loop-place-test.true)
          (sym c.is_clean.ensures ∙ w.if-is_clean.false) c.loop-place.invariant
    ]

pub returns : goal.returns
returns c =
    clean-past c.loop-place.numbers.items _ c.args.first c.loop-place.place c.args.slots.now (omega arith) c.loop-place.invariant
