use Rattle.std.proofs.Common.{refl, arith}
use Rattle.version_table.proofs.StepsKeep.{enters}
use Rattle.version_table.proofs.steps.count_entry.Goals as goal

pub compare_exchange_with-requires : goal.compare_exchange_with-requires
compare_exchange_with-requires c =
    (c.requires.seat, omega (arith, c.requires.inside, c.requires.words), enters _ _ _ _ _ _ _ c.requires.inside c.requires.keeps c.requires.length)

pub returns-clause-entered : goal.returns-clause-entered
returns-clause-entered c = c.compare_exchange_with.ensures.2.view _ refl
