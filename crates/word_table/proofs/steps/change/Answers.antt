use Rattle.std.proofs.Common.{arith}
use Rattle.word_table.proofs.StepsKeep.{changes}
use Rattle.word_table.proofs.steps.change.Goals as goal

pub compare_exchange-requires : goal.compare_exchange-requires
compare_exchange-requires c =
    (c.requires.seat, omega (arith, c.requires.inside, c.requires.words), changes _ _ _ _ _ _ _ c.requires.inside c.requires.keeps c.requires.next)
