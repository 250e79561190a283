use Rattle.std.proofs.Common.{arith}
use Rattle.ag_header.specs.Headers.{with_head}
use Rattle.ag_header.proofs.Encoded.{set_head}
use Rattle.ag_header.proofs.setting.set_head.Goals as goal

pub returns-clause-set : goal.returns-clause-set
returns-clause-set c = λ agi encoded.
    set_head agi c.args.bucket c.args.agino c.args.sector.now.bytes c.put_u32.new.bytes c.put_crc.new.bytes c.requires.bucket_small (omega arith) encoded c.put_u32.ensures c.put_crc.ensures

pub returns-clause-header : goal.returns-clause-header
returns-clause-header c =
    let agi = c.requires.header.0 in
    (with_head agi c.args.bucket c.args.agino, returns-clause-set c agi c.requires.header.1)
