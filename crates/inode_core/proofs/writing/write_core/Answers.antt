use Rattle.std.proofs.Common.{take, drop, rules}
use Rattle.inode_core.specs.declared.shape.TheConstants.{FORK_AT}
use Rattle.inode_core.proofs.Encoded.{IsWritten, is_written, whole_fork}
use Rattle.inode_core.proofs.writing.write_core.Goals as goal

written : (c : goal.After-put_crc) → IsWritten c.args.core.now c.args.number c.args.uuid.now c.args.into.now.bytes c.put_crc.new.bytes
written c =
    let old = c.args.into.now.bytes in
    is_written c.args.core.now c.args.number c.args.uuid.now old c.with_fields-new.result.bytes (take 336 (drop FORK_AT old)) c.put_bytes.new.bytes c.put_crc.new.bytes
    (search rules) (search rules) c.requires.allowed c.requires.fork c.with_fields-new.ensures (whole_fork old (search rules)) c.put_bytes.ensures c.put_crc.ensures

pub returns-clause-encoded : goal.returns-clause-encoded
returns-clause-encoded c = (written c).encoded

pub returns-clause-same_fork : goal.returns-clause-same_fork
returns-clause-same_fork c = (written c).same_fork
