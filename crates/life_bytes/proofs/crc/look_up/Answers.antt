use Rattle.std.proofs.Common.{arith}
use Rattle.life_bytes.proofs.Tables.{row_at}
use Rattle.life_bytes.proofs.crc.look_up.Goals as goal

pub returns : goal.returns
returns c = row_at c.args.row c.args.byte c.requires (omega arith)
