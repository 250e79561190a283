use Rattle.std.proofs.Common.{◌≡◌, ◌+◌, ◌*◌, ℕ, List, length, arith, ap, sym, subst, ◌∙◌}
use Rattle.std.proofs.lemmas.Bool.{false≢true}
use Rattle.std.proofs.lemmas.List.FromFn.{length-map-range_with_len}
use Rattle.life_bytes.specs.Fields.{field}
use Rattle.inobt_leaf.specs.declared.writing.TheConstants.{LEAF_RECORDS_AT}
use Rattle.inobt_leaf.specs.declared.chunk.ChunkRec.{ChunkRec}
use Rattle.inobt_leaf.specs.Chunks.{IsLeaf}
use Rattle.inobt_leaf.specs.Pages.{leaf_encoding, chunk_at}
use Rattle.inobt_leaf.proofs.Whole.{count_says, read_again}
use Rattle.inobt_leaf.proofs.reading.read_leaf.Goals as goal

pub returns-then-count-gt-LEAF_CHUNKS-clause-only : goal.returns-then-count-gt-LEAF_CHUNKS-clause-only
returns-then-count-gt-LEAF_CHUNKS-clause-only c chunks leaf encoded =
    let a = c.args in
    let says : field 2 6 c.gather-bytes.result ≡ length chunks =
    ap (field 2 6) (c.gather-bytes.ensures ∙ encoded) ∙ count_says a.siblings chunks a.group a.at a.uuid.now c.told-uuid leaf.few in
    absurd (omega (arith, says, c.field_u16.ensures, c.from-count.ensures, c.if-count-gt-LEAF_CHUNKS.true, leaf.few))

pub is_page_of-requires : goal.is_page_of-requires
is_page_of-requires c =
    let f : ℕ → ChunkRec = λ i. chunk_at c.gather-bytes.result (LEAF_RECORDS_AT + 16 * i) in
    let many : length c.in_ok-chunks.chunks.items ≡ c.from-count.result = ap length c.in_ok-chunks.ensures ∙ length-map-range_with_len f 0 c.from-count.result in
    omega (arith, ap length c.deref.ensures.value, many, c.if-count-gt-LEAF_CHUNKS.false)

pub returns-then-is_page_of-clause-only : goal.returns-then-is_page_of-clause-only
returns-then-is_page_of-clause-only c chunks leaf encoded =
    let a = c.args in
    c.of.ensures
    ∙ read_again a.siblings chunks c.in_ok-chunks.chunks.items c.gather-bytes.result c.from-count.result a.group a.at a.uuid.now leaf c.told-uuid
    (c.gather-bytes.ensures ∙ encoded) (c.from-count.ensures ∙ c.field_u16.ensures) c.in_ok-chunks.ensures

pub returns-else-is_page_of-clause-only : goal.returns-else-is_page_of-clause-only
returns-else-is_page_of-clause-only c chunks leaf encoded =
    let a = c.args in
    let same : c.deref.result.now ≡ chunks =
    c.deref.ensures.value
    ∙ read_again a.siblings chunks c.in_ok-chunks.chunks.items c.gather-bytes.result c.from-count.result a.group a.at a.uuid.now leaf c.told-uuid
    (c.gather-bytes.ensures ∙ encoded) (c.from-count.ensures ∙ c.field_u16.ensures) c.in_ok-chunks.ensures in
    absurd (false≢true (sym c.if-is_page_of.false ∙ c.is_page_of.ensures.complete (subst IsLeaf (sym same) leaf)
    (c.gather-bytes.ensures ∙ encoded ∙ ap (λ (cs : List ChunkRec). leaf_encoding a.siblings cs a.group a.at a.uuid.now) (sym same))))
