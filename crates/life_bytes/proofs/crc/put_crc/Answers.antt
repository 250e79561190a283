use Rattle.std.proofs.Common.{◌+◌, ◌-◌, ◌++◌, ℕ, drop, ap, ◌∙◌}
use borrow.Rule.Slice.PartMut.{put_mid, mid_of}
use Rattle.byteorder.specs.Endian.{little_bytes}
use Rattle.life_bytes.specs.Crc.{crc32c, holed}
use Rattle.life_bytes.specs.Pieces.{sealed}
use Rattle.life_bytes.specs.PieceLaws.{with_piece_in_part}
use Rattle.life_bytes.proofs.crc.put_crc.Goals as goal

pub returns : goal.returns
unfolding sealed
returns c =
    let at = c.args.at in
    let bytes = c.args.bytes.now in
    let width = at + 4 - at in
    ap (put_mid at width bytes) (c.write_u32.ensures ∙ ap (λ (crc : ℕ). little_bytes 4 crc ++ drop 4 (mid_of at width bytes)) c.crc_holed-crc.ensures)
    ∙ with_piece_in_part 4 at (little_bytes 4 (crc32c (holed at bytes))) bytes c.requires
