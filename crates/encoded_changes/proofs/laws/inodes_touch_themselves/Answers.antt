use Rattle.encoded_changes.proofs.Inodes.{inode_touches}
use Rattle.encoded_changes.proofs.laws.inodes_touch_themselves.Goals as goal

pub returns : goal.returns
returns c = inode_touches
