use Rattle.inode_core.specs.CoreLaws.{fork_of_zero_sector}
use Rattle.tests_formats.proofs.cores.free_inode_is_read.Goals as goal

pub write_core-requires-clause-fork : goal.write_core-requires-clause-fork
write_core-requires-clause-fork g c = λ _. fork_of_zero_sector c.zero-sector.result c.zero-sector.ensures
