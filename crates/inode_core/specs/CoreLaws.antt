-- Laws of cores and forks.
use Rattle.std.specs.Prelude.{◌≡◌}
use Rattle.std.proofs.Common.{ap, ◌∙◌}
use Rattle.life_bytes.specs.declared.sector.Sector.{Sector}
use Rattle.life_bytes.specs.Sectors.{zero_sector}
use Rattle.life_bytes.specs.TableLaws.{bytes_of_zero_sector, drop-zeros}
use Rattle.inode_core.specs.declared.shape.TheConstants.{FORK_AT}
use Rattle.inode_core.specs.Cores.{fork_of, no_fork}

-- a sector of zeros has no fork
pub fork_of_zero_sector : (s : Sector) → s ≡ zero_sector → fork_of s.bytes ≡ no_fork
fork_of_zero_sector s e = ap fork_of (bytes_of_zero_sector s e) ∙ drop-zeros FORK_AT 512
