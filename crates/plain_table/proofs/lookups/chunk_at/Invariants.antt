use Rattle.std.proofs.Common.{take}
use Rattle.plain_table.specs.Parts.{IsAbsent}
use Rattle.plain_table.proofs.lookups.chunk_at.Given as goal

abbrev pub invariant-loop-place : goal.invariant-loop-place
invariant-loop-place l = IsAbsent l.start (take l.place l.group)
