use Rattle.std.proofs.Common.{ℕ, ◌-◌, ◌<◌, ◌^◌, ◌∙◌, ap, arith}
use Rattle.word_table.specs.Known.{looked, unpinned}
use Rattle.word_table.proofs.Parts.{closes}
use Rattle.word_table.proofs.Calls.{same_but}
use Rattle.word_table.proofs.StepsKeep.{unpins}
use Rattle.word_table.proofs.steps.unpin.Goals as goal

pub fetch_sub-requires : goal.fetch_sub-requires
fetch_sub-requires c = (
  c.requires.seat,
  omega (arith, c.requires.inside, c.requires.words),
  unpins c.each_number_is_one_word.ensures _ _ _ _ _ _ c.requires.inside c.requires.pin,
)

pub returns-clause-step : goal.returns-clause-step
returns-clause-step c =
    let step = c.fetch_sub.ensures.2 in
    let held = step.holds c.args.generation c.requires.pin in
    let small : c.fetch_sub.result < 2 ^ 64 = omega arith in
    let found = c.fetch_sub.result in (
      _,
      record {
        slots = step.slots;
        held = held;
        step_is = (closes c.each_number_is_one_word.ensures found c.args.generation small held).step_is;
        view = step.view ∙ ap (λ (g : ℕ). unpinned c.args.place g (looked c.args.place (found - 1) (looked c.args.place found c.args.seat.now.me.0))) held.same;
      },
    )

pub returns-clause-stays : goal.returns-clause-stays
returns-clause-stays c =
    let step = c.fetch_sub.ensures.2 in
    let held = step.holds c.args.generation c.requires.pin in
    let found = c.fetch_sub.result in
    same_but (unpinned c.args.place c.args.generation c.args.seat.now.me.0) _ _ (step.view ∙ ap (λ (g : ℕ). unpinned c.args.place g (looked c.args.place (found - 1) (looked c.args.place found c.args.seat.now.me.0))) held.same)
