use Rattle.std.proofs.Common.{sym}
use Rattle.std.proofs.lemmas.Bool.{false_from_ne_true}
use Rattle.inobt_leaf.specs.declared.chunk.ChunkRec.{ChunkRec}
use Rattle.inobt_leaf.specs.Chunks.{chunk_holds}
use Rattle.inobt_leaf.proofs.Places.{find-at, find-none, before_holds}
use Rattle.inobt_leaf.proofs.records.find_chunk.Goals as goal

pub returns-in-Some : goal.returns-in-Some
returns-in-Some c =
    let h = c.in-Some.ensures.some in
    let d : ChunkRec = record { start = 0; free = 0; mask = 0 } in
    sym (find-at (chunk_holds c.args.agino) c.args.chunks.now c.in-Some.place d h.0 (h.1 d) (before_holds c.args.chunks.now c.args.agino c.in-Some.place d c.requires h.0 (h.1 d)))

pub returns-in-None : goal.returns-in-None
returns-in-None c = sym (find-none (chunk_holds c.args.agino) c.args.chunks.now record { start = 0; free = 0; mask = 0 } (λ j h. false_from_ne_true _ (c.in-None.ensures.none j _ h)))
