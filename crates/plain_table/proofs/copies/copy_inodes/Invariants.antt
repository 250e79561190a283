use Rattle.std.proofs.Common.{◌≡◌, take}
use Rattle.plain_table.proofs.copies.copy_inodes.Given as goal

abbrev pub invariant-loop-inode : goal.invariant-loop-inode
invariant-loop-inode l = l.copy.items ≡ take l.inode-index l.inodes
