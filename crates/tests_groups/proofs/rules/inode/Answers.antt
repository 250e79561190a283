use Rattle.std.proofs.Common.{◌≡◌, ℕ, List, drop, replicate, ap, ◌∙◌}
use Rattle.std.proofs.lemmas.List.{drop-replicate}
use Rattle.life_bytes.specs.declared.sector.Sector.{Sector}
use Rattle.life_bytes.specs.Pieces.{zeros}
use Rattle.inode_core.specs.declared.shape.TheConstants.{FORK_AT}
use Rattle.tests_groups.proofs.rules.inode.Goals as goal

no_bytes : drop FORK_AT (replicate 512 0) ≡ zeros 336
unfolding zeros
no_bytes = drop-replicate FORK_AT 512 0

pub write_core-requires-clause-fork : goal.write_core-requires-clause-fork
write_core-requires-clause-fork c free = ap (λ (sector : Sector). drop FORK_AT sector.bytes) c.zero-sector.ensures ∙ no_bytes
