use Rattle.std.proofs.Common.{ap}
use Rattle.word_table.proofs.Calls.{taken_by, taken_stays}
use Rattle.word_table.proofs.moves.take_over.Goals as goal

pub returns-clause-taken : goal.returns-clause-taken
returns-clause-taken c = taken_by _ _ _ _ _ _ _ (ap (λ m. m.0) c.carry.ensures.to) c.requires.keeps c.look.ensures.step

pub returns-clause-stays : goal.returns-clause-stays
returns-clause-stays c = taken_stays _ _ _ _ (taken_by _ _ _ _ _ _ _ (ap (λ m. m.0) c.carry.ensures.to) c.requires.keeps c.look.ensures.step)
