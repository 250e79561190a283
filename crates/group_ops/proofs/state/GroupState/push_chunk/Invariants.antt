use Rattle.std.specs.List.{range_with_len}
use Rattle.group_ops.specs.Staging.{PushesPart}
use Rattle.group_ops.proofs.state.GroupState.push_chunk.Given as goal

abbrev pub invariant-loop-index : goal.invariant-loop-index
invariant-loop-index l = PushesPart l.self l.delta (range_with_len l.start l.index) l.fn.staging l.staging
