use Rattle.std.proofs.Common.{arith}
use Rattle.sound_image.proofs.Held.{parts_held}
use Rattle.sound_image.proofs.parts.sectors_hold_parts.Goals as goal

pub returns : goal.returns
returns c = λ k lt. parts_held c.args.sectors.now k (λ j low. c.loop-sector.invariant j (omega arith)) lt
