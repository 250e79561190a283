use Rattle.std.proofs.Common.{arith}
use Rattle.word_table.proofs.Parts.{installs, install_can}
use Rattle.word_table.proofs.Calls.{brought}
use Rattle.word_table.proofs.moves.bring_in.Goals as goal

pub put_in-requires-clause-next : goal.put_in-requires-clause-next
put_in-requires-clause-next c =
    install_can _ _ _ _ c.look-seen.ensures.step.right (installs c.each_number_is_one_word.ensures c.look-seen.result _ _ c.in-Some.next (omega arith) (omega arith) c.in-Some.ensures)

pub returns-clause-held : goal.returns-clause-held
returns-clause-held c =
    brought _ _ _ _ _ _ _ _ _ _ c.requires.keeps c.requires.away c.look-seen.ensures.step c.in-Some.ensures
    (installs c.each_number_is_one_word.ensures c.look-seen.result _ _ c.in-Some.next (omega arith) (omega arith) c.in-Some.ensures) c.put_in.ensures.step
