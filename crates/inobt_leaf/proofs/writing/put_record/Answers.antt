use Rattle.std.proofs.Common.{ap, ◌∙◌, ◌+◌}
use Rattle.life_bytes.specs.Fields.{with_field}
use Rattle.life_bytes.specs.Pieces.{placed}
use Rattle.inobt_leaf.proofs.writing.put_record.Goals as goal

pub returns : goal.returns
unfolding placed
returns c =
    let p = c.args.place in
    let chunk = c.args.chunk.now in
    c.put_u64.ensures ∙ ap (with_field 8 (p + 8) chunk.mask) (c.put_u32-2.ensures ∙ ap (with_field 4 (p + 4) chunk.free) c.put_u32.ensures)
