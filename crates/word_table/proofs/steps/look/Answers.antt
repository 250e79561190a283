use Rattle.std.proofs.Common.{arith}
use Rattle.word_table.proofs.StepsKeep.{looks}
use Rattle.word_table.proofs.steps.look.Goals as goal

pub load-requires : goal.load-requires
load-requires c = (c.requires.seat, omega (arith, c.requires.inside, c.requires.words), looks _ _ _ _ _ c.requires.inside)
