use Rattle.std.proofs.Common.{ℕ, List, All, subst, ◌∙◌, arith}
use Rattle.std.proofs.lemmas.List.{take_all}
use Rattle.std.proofs.lemmas.List.Elements.{All-more}
use Rattle.inobt_leaf.specs.declared.chunk.ChunkRec.{ChunkRec}
use Rattle.image_rules.specs.Taking.{Misses}
use Rattle.image_rules.proofs.Takes.{All-front, All-last}
use Rattle.image_rules.proofs.taken.occupy_chunks.Goals as goal

abbrev blank : ChunkRec
blank = record { start = 0; free = 0; mask = 0 }

pub loop-chunk-preserved : goal.loop-chunk-preserved
loop-chunk-preserved c =
    let inv = c.loop-chunk.invariant in
    let chunks : List ChunkRec = c.args.chunks.now in
    let i : ℕ = c.loop-chunk.chunk-index in
    let low = c.loop-chunk-test.true in
    record {
      long = c.occupy_chunk.ensures.long ∙ inv.long;
      free = λ b free.
          let here = c.occupy_chunk.ensures.free b free in
          let before = inv.free b here.0 in
          (before.0, All-more (Misses b) chunks i blank low before.1 here.1);
      kept = λ b free all. c.occupy_chunk.ensures.kept b (inv.kept b free (All-front (Misses b) chunks i blank low all)) (All-last (Misses b) chunks i blank low all);
    }

pub returns-clause-free : goal.returns-clause-free
returns-clause-free c b free =
    let whole = take_all c.loop-chunk.chunk-index c.args.chunks.now (omega arith) in
    let before = c.loop-chunk.invariant.free b free in
    (before.0, subst (λ (cs : List ChunkRec). All (Misses b) cs) whole before.1)
