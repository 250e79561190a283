use Rattle.std.proofs.Common.{rules}
use Rattle.ag_header.proofs.HeadBytes.{first_bytes, more_bytes, all_bytes}
use Rattle.ag_header.proofs.heads.bytes_of.Goals as goal

pub loop-index-init : goal.loop-index-init
loop-index-init c = first_bytes c.args.heads.now

pub loop-index-preserved : goal.loop-index-preserved
loop-index-preserved c =
    more_bytes c.args.heads.now c.loop-index.index 0 c.loop-index.bytes c.put_u32.new.bytes c.loop-index-test.true (search rules) c.loop-index.invariant c.put_u32.ensures

pub returns-clause-bytes : goal.returns-clause-bytes
returns-clause-bytes c = all_bytes c.args.heads.now c.loop-index.index c.loop-index.bytes (search rules) c.loop-index-test.false c.loop-index.invariant
