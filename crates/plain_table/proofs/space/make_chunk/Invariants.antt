use Rattle.std.proofs.Common.{◌≡◌, None, replicate}
use Rattle.plain_table.proofs.space.make_chunk.Given as goal

abbrev pub invariant-loop : goal.invariant-loop
invariant-loop l = l.inodes.items ≡ replicate l.counter (record { generation = 1; row = None })
