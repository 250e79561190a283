use Rattle.group_ops.proofs.UnusedChunks.{Fills}
use Rattle.group_ops.proofs.state.GroupState.unused_chunk.Given as goal

abbrev pub invariant-loop-index : goal.invariant-loop-index
invariant-loop-index l = Fills l.self.group l.self.geometry.uuid l.start l.sectors.items l.index
