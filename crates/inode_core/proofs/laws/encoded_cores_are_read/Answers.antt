use Rattle.inode_core.proofs.Encoded.{cores_are_read}
use Rattle.inode_core.proofs.laws.encoded_cores_are_read.Goals as goal

pub returns : goal.returns
returns c = cores_are_read
