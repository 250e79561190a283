use Rattle.std.proofs.Common.{rules}
use Rattle.life_table.specs.Table.{inode_of}
use Rattle.plain_table.proofs.lookups.inode_of.Goals as goal

pub returns : goal.returns
unfolding inode_of
returns c = search rules
