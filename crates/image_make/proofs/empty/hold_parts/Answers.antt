use Rattle.std.proofs.Common.{arith}
use Rattle.image_make.proofs.Parts.{parts}
use Rattle.image_make.proofs.empty.hold_parts.Goals as goal

pub returns : goal.returns
returns c = λ k lt. parts c.args.sectors.now k (λ j low. c.loop-sector.invariant j (omega arith)) lt
