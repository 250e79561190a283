use Rattle.std.proofs.Common.{arith, get_or}
use Rattle.inobt_leaf.specs.declared.chunk.ChunkRec.{ChunkRec}
use Rattle.inobt_leaf.specs.Chunks.{IsChunkRecord}
use Rattle.inobt_leaf.proofs.Ordering.{each_more, ascends_more}
use Rattle.inobt_leaf.proofs.reading.is_leaf.Goals as goal
use Rattle.inobt_leaf.proofs.reading.is_leaf.Goals.{else-index-gt0-via-then-index-gt0+else-chunks-index, else-index-gt0-via-else-index-gt0}

abbrev blank : ChunkRec
blank = record { start = 0; free = 0; mask = 0 }

pub loop-index-preserved : goal.loop-index-preserved
loop-index-preserved c =
    let chunks = c.args.chunks.now in
    let i = c.loop-index.index in
    let here : IsChunkRecord (get_or chunks i blank) = c.is_chunk.ensures.0 c.if-not-is_chunk.false in
    elim c.else-index-gt0.branch [
      | else-index-gt0-via-then-index-gt0+else-chunks-index w ↦ record {
        each = each_more chunks i blank c.loop-index-test.true c.loop-index.invariant.each here;
        ascends = ascends_more chunks i blank c.loop-index-test.true c.loop-index.invariant.ascends (λ _. w.if-chunks-index.false);
      }
      | else-index-gt0-via-else-index-gt0 w ↦ record {
        each = each_more chunks i blank c.loop-index-test.true c.loop-index.invariant.each here;
        ascends = ascends_more chunks i blank c.loop-index-test.true c.loop-index.invariant.ascends (λ some. absurd (omega (arith, some, w.if-index-gt0.false)));
      }
    ]
