use Rattle.std.proofs.Common.{arith}
use Rattle.life_bytes.proofs.Steps.{block_is}
use Rattle.life_bytes.proofs.crc.step_block.Goals as goal

pub returns : goal.returns
returns c =
    rw (c.look_up.ensures, c.look_up-2.ensures, c.look_up-3.ensures, c.look_up-4.ensures, c.look_up-5.ensures, c.look_up-6.ensures, c.look_up-7.ensures, c.look_up-8.ensures, c.to_le_bytes-low.ensures)
    (block_is c.args.register c.args.block.now (omega arith) c.requires)
