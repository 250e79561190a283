use Rattle.std.proofs.Common.{◌≡◌, take}
use Rattle.std.specs.Prelude.{sum_by}
use Rattle.group_space.proofs.Unused.{free_of}
use Rattle.group_space.proofs.numbers.sum_free.Given as goal

abbrev pub invariant-loop-chunk : goal.invariant-loop-chunk
invariant-loop-chunk l = l.sum ≡ sum_by free_of (take l.chunk-index l.records)
