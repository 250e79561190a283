use Rattle.life_table.specs.declared.types.Event.TheVariants.{Called, Freed}
use Rattle.life_table.proofs.Frees.{IsTable-closed, IsTable-recovered}
use Rattle.life_table.proofs.Tables.{IsTable-empty}
use Rattle.life_table.proofs.WellKept.{IsTable-happens, IsTable-leads}
use Rattle.life_table.proofs.laws.tables_stay_well_formed.Goals as goal

pub returns-clause-call : goal.returns-clause-call
returns-clause-call c t u called answer ok legal = IsTable-happens t (Called called answer) u ok legal

pub returns-clause-free : goal.returns-clause-free
returns-clause-free c t u key ok frees = IsTable-happens t (Freed key) u ok frees

pub returns-clause-history : goal.returns-clause-history
returns-clause-history c t u entries ok leads = IsTable-leads t entries u ok leads

pub returns-clause-without_holds : goal.returns-clause-without_holds
returns-clause-without_holds c = IsTable-closed

pub returns-clause-recovery : goal.returns-clause-recovery
returns-clause-recovery c = IsTable-recovered

pub returns-clause-empty : goal.returns-clause-empty
returns-clause-empty c = IsTable-empty
