use Rattle.std.proofs.Common.{◌≡◌, ◌<◌, ℕ, IsTrue, Some, slice_get}
use Rattle.inobt_leaf.specs.declared.chunk.ChunkRec.{ChunkRec}
use Rattle.mount.specs.Kept.{Grows, HasChunk, StillAgrees}
use Rattle.mount.proofs.keeping.keep_chunks.Given as goal

abbrev pub invariant-loop-record : goal.invariant-loop-record
invariant-loop-record g l = record {
  read : g.V.View.only_read l.fn.view l.view;
  agrees : IsTrue g.V.View.known → StillAgrees (g.V.View.image l.fn.view) l.fn.kept l.kept;
  has : (k : ℕ) (r : ChunkRec) → k < l.record-index → slice_get l.records k ≡ Some r → HasChunk l.g l.kept l.group r.start;
  grows : Grows l.fn.kept l.kept;
}
