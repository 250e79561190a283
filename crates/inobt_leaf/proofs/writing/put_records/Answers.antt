use Rattle.std.proofs.Common.{refl, ap, ◌∙◌, ◌+◌, ◌*◌, get_or}
use Rattle.life_bytes.specs.Pieces.{placed}
use Rattle.inobt_leaf.specs.declared.writing.TheConstants.{LEAF_RECORDS_AT}
use Rattle.inobt_leaf.specs.Pages.{chunk_rows}
use Rattle.inobt_leaf.proofs.Tables.{records_more}
use Rattle.inobt_leaf.proofs.writing.put_records.Goals as goal

pub loop-index-init : goal.loop-index-init
unfolding placed
loop-index-init c = refl

pub loop-index-preserved : goal.loop-index-preserved
loop-index-preserved c =
    let i = c.loop-index.index in
    let chunk = get_or c.args.chunks.now i record { start = 0; free = 0; mask = 0 } in
    c.put_record.ensures ∙ ap (placed (chunk_rows (LEAF_RECORDS_AT + 16 * i) chunk)) c.loop-index.invariant
    ∙ records_more c.args.chunks.now i record { start = 0; free = 0; mask = 0 } c.args.bytes.now c.loop-index-test.true
