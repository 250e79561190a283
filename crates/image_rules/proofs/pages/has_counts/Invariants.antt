use Rattle.std.proofs.Common.{◌≡◌, ◌≤◌, ◌*◌, ◌^◌, take}
use Rattle.std.specs.Prelude.{sum_by}
use Rattle.inobt_leaf.specs.declared.chunk.ChunkRec.{ChunkRec}
use Rattle.image_rules.proofs.pages.has_counts.Given as goal

abbrev pub invariant-loop-chunk : goal.invariant-loop-chunk
invariant-loop-chunk l = record {
  sum : l.free ≡ sum_by (λ (chunk : ChunkRec). chunk.free) (take l.chunk-index l.chunks);
  small : l.free ≤ l.chunk-index * 2 ^ 32;
}
