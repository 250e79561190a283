use Rattle.std.proofs.Common.{◌<◌, ℕ, get_or}
use Rattle.inobt_leaf.specs.declared.chunk.ChunkRec.{ChunkRec}
use Rattle.inobt_leaf.specs.Chunks.{IsChunkRecord}
use Rattle.inobt_leaf.proofs.reading.is_leaf.Given as goal

abbrev pub invariant-loop-index : goal.invariant-loop-index
invariant-loop-index l = record {
  each : (k : ℕ) (d : ChunkRec) → k < l.index → IsChunkRecord (get_or l.chunks k d);
  ascends : (i j : ℕ) (d : ChunkRec) → i < j → j < l.index → (get_or l.chunks i d).start < (get_or l.chunks j d).start;
}
