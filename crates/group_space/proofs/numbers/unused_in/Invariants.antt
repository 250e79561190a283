use Rattle.group_space.proofs.Unused.{NoneBefore}
use Rattle.group_space.proofs.numbers.unused_in.Given as goal

abbrev pub invariant-loop-chunk : goal.invariant-loop-chunk
invariant-loop-chunk l = NoneBefore l.from l.records l.chunk-index
