use Rattle.std.proofs.Common.{rules}
use Rattle.life_table.specs.Table.{with_inode}
use Rattle.plain_table.proofs.lookups.with_inode.Goals as goal

pub returns : goal.returns
unfolding with_inode
returns c = search rules
