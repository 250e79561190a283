use Rattle.std.proofs.Common.{arith}
use Rattle.group_ops.proofs.load.load_chunk.Goals as goal

pub read_sectors-requires-clause-within : goal.read_sectors-requires-clause-within
read_sectors-requires-clause-within g c =
    let low = c.requires.shape.blocks.0 in
    let room = c.sector_at-at.ensures.room 64 (omega (arith, low, c.if-g-start.false)) in
    omega (arith, c.from.ensures, c.requires.size, room)
