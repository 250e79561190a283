use Rattle.std.proofs.Common.{◌<◌, ◌^◌, arith}
use Rattle.word_table.proofs.Parts.{marks}
use Rattle.word_table.proofs.Calls.{same_but}
use Rattle.word_table.proofs.StepsKeep.{marks_it}
use Rattle.word_table.proofs.steps.set_mark.Goals as goal

pub fetch_or-requires : goal.fetch_or-requires
fetch_or-requires c = (
  c.requires.seat,
  omega (arith, c.requires.inside, c.requires.words),
  marks_it c.each_number_is_one_word.ensures _ _ _ _ _ _ c.requires.inside c.requires.keeps c.requires.pin,
)

pub returns-clause-step : goal.returns-clause-step
returns-clause-step c =
    let step = c.fetch_or.ensures.2 in
    let held = step.holds c.args.generation c.requires.pin in
    let small : c.fetch_or.result < 2 ^ 64 = omega arith in
    let made = marks c.each_number_is_one_word.ensures c.args.generation c.fetch_or.result small held in
    (_, record { slots = step.slots; held = held; tells = step.tells c.requires.keeps; step_is = made.step_is; view = step.view })

pub returns-clause-stays : goal.returns-clause-stays
returns-clause-stays c = same_but c.args.seat.now.me.0 _ _ c.fetch_or.ensures.2.view
