use Rattle.std.proofs.Common.{ℕ, ap, ◌∙◌}
use borrow.Rule.Slice.PartMut.{put_mid}
use Rattle.life_bytes.specs.Fields.{with_field, with_piece}
use Rattle.life_bytes.specs.Pieces.{placed}
use Rattle.life_bytes.specs.PieceLaws.{with_piece_as_part}
use Rattle.inobt_leaf.specs.Pages.{sibling_number}
use Rattle.inobt_leaf.proofs.writing.put_header.Goals as goal

pub returns : goal.returns
unfolding placed
returns c =
    let a = c.args in
    let b1 = c.put_u32.ensures in
    let b2 = c.put_u16.ensures ∙ ap (with_field 2 6 a.count) b1 in
    let b3 = c.put_u32-2.ensures ∙ ap (λ (n : ℕ). with_field 4 8 n c.put_u16.new.bytes) c.sibling_number.ensures ∙ ap (with_field 4 8 (sibling_number a.siblings.left)) b2 in
    let b4 = c.put_u32-3.ensures ∙ ap (λ (n : ℕ). with_field 4 12 n c.put_u32-2.new.bytes) c.sibling_number-2.ensures ∙ ap (with_field 4 12 (sibling_number a.siblings.right)) b3 in
    let b5 = c.put_u64.ensures ∙ ap (with_field 8 16 a.at) b4 in
    let b6 = ap (put_mid 32 16 c.put_u64.new.bytes) c.copy_from_slice.ensures.after ∙ with_piece_as_part 16 32 a.uuid.now c.put_u64.new.bytes ∙ ap (with_piece 16 32 a.uuid.now) b5 in
    c.put_u32-4.ensures ∙ ap (with_field 4 48 a.group) b6
