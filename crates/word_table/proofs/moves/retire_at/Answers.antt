use Rattle.std.proofs.Common.{arith}
use Rattle.word_table.proofs.Parts.{retires, retire_changes}
use Rattle.word_table.proofs.Calls.{retired_by, retired_stays}
use Rattle.word_table.proofs.moves.retire_at.Goals as goal

pub change-requires-clause-next : goal.change-requires-clause-next
change-requires-clause-next c =
    retire_changes _ _ c.look-seen.ensures.step.right (retires c.each_number_is_one_word.ensures c.look-seen.result c.in-Some.next (omega arith) c.in-Some.ensures)

pub returns-clause-retired : goal.returns-clause-retired
returns-clause-retired c = retired_by _ _ _ _ _ _ _ _ c.requires.keeps c.look-seen.ensures.step c.in-Some.ensures c.change.ensures.step

pub returns-clause-stays : goal.returns-clause-stays
returns-clause-stays c = retired_stays c.args.place c.args.seat.now.me.0 _ _ (retired_by _ _ _ _ _ _ _ _ c.requires.keeps c.look-seen.ensures.step c.in-Some.ensures c.change.ensures.step)
