use Rattle.std.proofs.Common.{◌≡◌, ℕ, List, ap, ◌∙◌}
use Rattle.life_bytes.specs.Fields.{with_field}
use Rattle.life_bytes.specs.Pieces.{blank, placed, sealed}
use Rattle.life_bytes.specs.TableLaws.{bytes_of_zero_sector}
use Rattle.life_bytes.specs.declared.sector.Sector.{Sector}
use Rattle.log_image.specs.Anchor.{anchor_rows, anchor_sector, anchor_magic}
use Rattle.log_image.proofs.anchor.write_anchor.Goals as goal

pub returns : goal.returns
unfolding anchor_sector placed
returns c =
    let a = c.args.anchor.now in
    let zeros : c.zero-new.result.bytes ≡ blank = bytes_of_zero_sector c.zero-new.result c.zero-new.ensures in
    let b1 : c.put_u32.new.bytes ≡ with_field 4 0 anchor_magic blank = c.put_u32.ensures ∙ ap (with_field 4 0 anchor_magic) zeros in
    let b2 : c.put_u64.new.bytes ≡ with_field 8 8 a.position (with_field 4 0 anchor_magic blank) = c.put_u64.ensures ∙ ap (with_field 8 8 a.position) b1 in
    let b3 : c.put_u64-2.new.bytes ≡ placed (anchor_rows a.position a.next_commit) blank = c.put_u64-2.ensures ∙ ap (with_field 8 16 a.next_commit) b2 in
    let of : List ℕ → Sector = λ b. record { bytes = b } in
    ap of (c.put_crc.ensures ∙ ap (sealed 4) b3)
