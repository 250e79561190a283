use Rattle.std.proofs.Common.{arith, ap, sym, ◌∙◌, ◌+◌, ◌*◌, ◌++◌, ◌∷◌, [], ℕ, List, map}
use Rattle.std.specs.List.{range_with_len}
use Rattle.std.proofs.lemmas.List.FromFn.{map-range_with_len_more}
use Rattle.inobt_leaf.specs.declared.writing.TheConstants.{LEAF_RECORDS_AT}
use Rattle.inobt_leaf.specs.declared.chunk.ChunkRec.{ChunkRec}
use Rattle.inobt_leaf.specs.Pages.{chunk_at}
use Rattle.inobt_leaf.proofs.reading.read_records.Goals as goal

pub loop-index-preserved : goal.loop-index-preserved
loop-index-preserved c =
    let i : ℕ = c.loop-index.index in
    let f : ℕ → ChunkRec = λ k. chunk_at c.args.bytes.now (LEAF_RECORDS_AT + 16 * k) in
    c.in_ok-push.ensures.items
    ∙ ap (λ (xs : List ChunkRec). xs ++ c.read_record.result ∷ []) c.loop-index.invariant
    ∙ ap (λ (r : ChunkRec). map f (range_with_len 0 i) ++ r ∷ []) c.read_record.ensures
    ∙ sym (map-range_with_len_more f 0 i i (omega arith))
