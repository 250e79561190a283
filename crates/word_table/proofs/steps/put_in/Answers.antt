use Rattle.std.proofs.Common.{arith}
use Rattle.word_table.proofs.StepsKeep.{puts_in}
use Rattle.word_table.proofs.steps.put_in.Goals as goal

pub compare_exchange-requires : goal.compare_exchange-requires
compare_exchange-requires c =
    (c.requires.seat, omega (arith, c.requires.inside, c.requires.words), puts_in _ _ _ _ _ _ _ c.requires.inside c.requires.keeps c.requires.next)
