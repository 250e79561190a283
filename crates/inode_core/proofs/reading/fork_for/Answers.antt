use Rattle.inode_core.specs.CoreLaws.{fork_of_zero_sector}
use Rattle.inode_core.proofs.reading.fork_for.Goals as goal

pub returns-else-core-clause-free : goal.returns-else-core-clause-free
returns-else-core-clause-free c = λ _. fork_of_zero_sector c.zero.result c.zero.ensures
