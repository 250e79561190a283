use Rattle.life_table.proofs.Frees.{recovery_frees, frees_recover}
use Rattle.life_table.proofs.Recovery.{inode_of-recovered, none_without_links, recovered-twice}
use Rattle.life_table.proofs.laws.recovery_frees_once.Goals as goal

pub returns-clause-each : goal.returns-clause-each
returns-clause-each c = inode_of-recovered

pub returns-clause-by_frees : goal.returns-clause-by_frees
returns-clause-by_frees c = recovery_frees

pub returns-clause-any_order : goal.returns-clause-any_order
returns-clause-any_order c t u actor keys leads none = frees_recover t actor keys u leads none

pub returns-clause-none_left : goal.returns-clause-none_left
returns-clause-none_left c = none_without_links

pub returns-clause-twice : goal.returns-clause-twice
returns-clause-twice c = recovered-twice
