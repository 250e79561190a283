use Rattle.std.proofs.Common.{◌≡◌, ap, ◌∙◌}
use borrow.Rule.Slice.PartMut.{put_mid}
use Rattle.life_bytes.specs.Fields.{with_field, with_piece}
use Rattle.life_bytes.specs.Pieces.{placed, sealed, blank}
use Rattle.life_bytes.specs.PieceLaws.{with_piece_as_part}
use Rattle.life_bytes.specs.TableLaws.{bytes_of_zero_sector}
use Rattle.geometry.specs.declared.superblock.TheConstants.{SUPERBLOCK_CRC_AT}
use Rattle.geometry.specs.Superblock.{superblock, superblock_encoding, superblock_magic}
use Rattle.geometry.proofs.superblock.write_super.Goals as goal

pub returns : goal.returns
unfolding superblock_encoding placed
returns c =
    let g = c.args.g.now in
    let zeros : c.zero-new.result.bytes ≡ blank = bytes_of_zero_sector c.zero-new.result c.zero-new.ensures in
    let b1 : c.put_u32.new.bytes ≡ with_field 4 0 superblock_magic blank = c.put_u32.ensures ∙ ap (with_field 4 0 superblock_magic) zeros in
    let b2 : c.put_u32-2.new.bytes ≡ with_field 4 4 g.version (with_field 4 0 superblock_magic blank) = c.put_u32-2.ensures ∙ ap (with_field 4 4 g.version) b1 in
    let b3 : c.put_u32-3.new.bytes ≡ with_field 4 8 g.groups (with_field 4 4 g.version (with_field 4 0 superblock_magic blank)) = c.put_u32-3.ensures ∙ ap (with_field 4 8 g.groups) b2 in
    let b4 : c.put_u32-4.new.bytes ≡ with_field 4 12 g.blocks (with_field 4 8 g.groups (with_field 4 4 g.version (with_field 4 0 superblock_magic blank))) = c.put_u32-4.ensures ∙ ap (with_field 4 12 g.blocks) b3 in
    let b5 : c.put_u32-5.new.bytes ≡ with_field 4 16 g.ring (with_field 4 12 g.blocks (with_field 4 8 g.groups (with_field 4 4 g.version (with_field 4 0 superblock_magic blank)))) =
    c.put_u32-5.ensures ∙ ap (with_field 4 16 g.ring) b4 in
    let plain : put_mid 24 16 c.put_u32-5.new.bytes c.copy_from_slice.new.self ≡ placed (superblock g) blank =
    ap (put_mid 24 16 c.put_u32-5.new.bytes) c.copy_from_slice.ensures.after ∙ with_piece_as_part 16 24 g.uuid c.put_u32-5.new.bytes ∙ ap (with_piece 16 24 g.uuid) b5 in
    c.put_crc.ensures ∙ ap (sealed SUPERBLOCK_CRC_AT) plain
