use Rattle.std.proofs.Common.{ap, sym, ◌∙◌, length}
use Rattle.life_bytes.specs.Pieces.{placed, sealed}
use Rattle.inobt_leaf.specs.declared.writing.TheConstants.{LEAF_CRC_AT, LEAF_RECORDS_AT}
use Rattle.inobt_leaf.specs.Pages.{page_header, chunk_records, leaf_encoding, blank_page}
use Rattle.inobt_leaf.proofs.Tables.{placed-append}
use Rattle.inobt_leaf.proofs.writing.encode.Goals as goal

pub returns : goal.returns
unfolding leaf_encoding
returns c =
    let a = c.args in
    c.put_crc.ensures
    ∙ ap (sealed LEAF_CRC_AT) (
    c.put_records.ensures
    ∙ ap (placed (chunk_records LEAF_RECORDS_AT a.chunks.now)) (c.put_header.ensures ∙ ap (placed (page_header a.siblings (length a.chunks.now) a.group a.at a.uuid.now)) c.blank_page-bytes.ensures)
    ∙ sym (placed-append (page_header a.siblings (length a.chunks.now) a.group a.at a.uuid.now) (chunk_records LEAF_RECORDS_AT a.chunks.now) blank_page))
