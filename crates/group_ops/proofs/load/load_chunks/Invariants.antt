use Rattle.std.proofs.Common.{◌≡◌, All, IsTrue, map, take}
use Rattle.inobt_leaf.specs.declared.chunk.ChunkRec.{ChunkRec}
use Rattle.group_ops.specs.Buffers.{AreBuffers, Buffers}
use Rattle.group_ops.specs.Loading.{ShowChunks}
use Rattle.group_ops.proofs.load.load_chunks.Given as goal

abbrev pub invariant-loop-record : goal.invariant-loop-record
invariant-loop-record g l = record {
  read : g.V.View.only_read l.fn.view l.view;
  starts : map (λ (chunk : Buffers). chunk.start) l.chunks.items ≡ map (λ (chunk : ChunkRec). chunk.start) (take l.record-index l.records);
  whole : All (λ (chunk : Buffers). AreBuffers chunk.start chunk.sectors) l.chunks.items;
  shown : IsTrue g.V.View.known → ShowChunks l.g (g.V.View.image l.fn.view) l.group l.chunks.items;
}
