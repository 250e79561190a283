use Rattle.ag_header.specs.Headers.{with_root}
use Rattle.ag_header.proofs.Encoded.{set_root}
use Rattle.ag_header.proofs.setting.set_root.Goals as goal

pub returns-clause-set : goal.returns-clause-set
returns-clause-set c = λ agi encoded.
    let is = c.requires in
    set_root agi c.args.root c.args.level c.args.sector.now.bytes c.put_u32.new.bytes c.put_u32-2.new.bytes c.put_crc.new.bytes
    (record { root = (is.root_low, is.root_high); level = (is.level_low, is.level_high) }) encoded c.put_u32.ensures c.put_u32-2.ensures c.put_crc.ensures

pub returns-clause-header : goal.returns-clause-header
returns-clause-header c =
    let agi = c.requires.header.0 in
    (with_root agi c.args.root c.args.level, returns-clause-set c agi c.requires.header.1)
