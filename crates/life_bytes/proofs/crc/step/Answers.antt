use Rattle.std.proofs.Common.{arith}
use Rattle.life_bytes.proofs.Steps.{step_is}
use Rattle.life_bytes.proofs.crc.step.Goals as goal

pub returns : goal.returns
returns c = rw (c.look_up.ensures, c.from.ensures) (step_is c.args.register c.args.byte (omega arith))
