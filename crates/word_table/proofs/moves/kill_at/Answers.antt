use Rattle.std.proofs.Common.{eq-eqb, arith}
use Rattle.word_table.proofs.Parts.{kills, kill_changes}
use Rattle.word_table.proofs.Calls.{killed_by, killed_is, killed_stays}
use Rattle.word_table.proofs.moves.kill_at.Goals as goal

pub change-requires-clause-next : goal.change-requires-clause-next
change-requires-clause-next c =
    kill_changes _ _ _ c.look-seen.ensures.step.right (kills c.each_number_is_one_word.ensures c.look-seen.result _ c.in-Some.next (omega arith) c.in-Some.ensures)

pub returns-clause-killed : goal.returns-clause-killed
returns-clause-killed c = killed_is _ _ _ _ _ _ _ _ _ c.requires.keeps c.look-seen.ensures.step c.in-Some.ensures
    (kills c.each_number_is_one_word.ensures c.look-seen.result _ c.in-Some.next (omega arith) c.in-Some.ensures) c.change.ensures.step

pub returns-clause-awaited : goal.returns-clause-awaited
returns-clause-awaited c = λ _. eq-eqb _ _ (killed_by _ _ _ _ _ _ _ _ _ c.requires.keeps c.look-seen.ensures.step
    (kills c.each_number_is_one_word.ensures c.look-seen.result _ c.in-Some.next (omega arith) c.in-Some.ensures) c.change.ensures.step)

pub returns-clause-stays : goal.returns-clause-stays
returns-clause-stays c = killed_stays c.args.place c.args.generation c.args.seat.now.me.0 _ _ (killed_is _ _ _ _ _ _ _ _ _ c.requires.keeps c.look-seen.ensures.step c.in-Some.ensures
    (kills c.each_number_is_one_word.ensures c.look-seen.result _ c.in-Some.next (omega arith) c.in-Some.ensures) c.change.ensures.step)
