use Rattle.std.proofs.Common.{arith}
use Rattle.version_table.proofs.StepsKeep.{loads}
use Rattle.version_table.proofs.steps.load.Goals as goal

pub load-requires : goal.load-requires
load-requires c = (c.requires.seat, omega (arith, c.requires.inside, c.requires.words), loads _ _ _ _ _ c.requires.inside)
