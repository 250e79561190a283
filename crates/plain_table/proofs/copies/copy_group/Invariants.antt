use Rattle.std.proofs.Common.{◌≡◌, take}
use Rattle.plain_table.proofs.copies.copy_group.Given as goal

abbrev pub invariant-loop-chunk : goal.invariant-loop-chunk
invariant-loop-chunk l = l.copy.items ≡ take l.chunk-index l.group
