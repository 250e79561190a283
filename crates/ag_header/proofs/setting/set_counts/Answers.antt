use Rattle.std.proofs.Common.{arith}
use Rattle.ag_header.specs.Headers.{with_counts}
use Rattle.ag_header.proofs.Encoded.{set_counts}
use Rattle.ag_header.proofs.setting.set_counts.Goals as goal

pub returns-clause-set : goal.returns-clause-set
returns-clause-set c = λ agi encoded.
    set_counts agi c.args.count c.args.free c.args.sector.now.bytes c.put_u32.new.bytes c.put_u32-2.new.bytes c.put_crc.new.bytes (omega arith) (omega arith) encoded c.put_u32.ensures c.put_u32-2.ensures c.put_crc.ensures

pub returns-clause-header : goal.returns-clause-header
returns-clause-header c =
    let agi = c.requires.0 in
    (with_counts agi c.args.count c.args.free, returns-clause-set c agi c.requires.1)
