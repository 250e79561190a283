use Rattle.std.proofs.Common.{ap}
use Rattle.std.specs.Int.{w32, bit_not}
use Rattle.life_bytes.specs.Crc.{crc32c}
use Rattle.life_bytes.proofs.crc.crc32c.Goals as goal

pub returns : goal.returns
unfolding crc32c
returns c = ap (bit_not w32) c.feed.ensures
