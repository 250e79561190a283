use Rattle.std.proofs.Common.{ap, ◌∙◌}
use Rattle.life_bytes.specs.Pieces.{sealed}
use Rattle.ag_header.specs.declared.agi.TheConstants.{AGI_CRC_AT}
use Rattle.ag_header.specs.Headers.{header_encoding}
use Rattle.ag_header.proofs.writing.write_agi.Goals as goal

pub returns : goal.returns
unfolding header_encoding
returns c =
    let made = c.with_fields-new.ensures in
    record { allowed = c.requires; fits = made.fits; sector = c.put_crc.ensures ∙ ap (sealed AGI_CRC_AT) made.bytes }
