use Rattle.log_store.proofs.Stepping.{step_at_end, step_done, step_ends, step_fails, step_goal, step_rises}
use Rattle.log_store.specs.declared.fault.Progress.{Progress}
use Rattle.log_store.specs.declared.fault.StoreFault.{StoreFault}
use Rattle.log_store.specs.Actions.{IsStep}
use Rattle.log_store.proofs.laws.steps_go_on.Goals as goal
use Rattle.std.proofs.Common.{Result, subst}

pub returns-clause-position_end : goal.returns-clause-position_end
returns-clause-position_end g c = λ result old new step. (
  λ is. step_at_end g.D.Disk.known g.D.Disk.cells g.D.Disk.sector_count g.D.Disk.arming g.D.Disk.fault_count old new
      (subst (λ (r : Result Progress StoreFault). IsStep g.D.Disk.known g.D.Disk.cells g.D.Disk.sector_count g.D.Disk.arming g.D.Disk.fault_count r old new) is step),
  λ ends. step_ends g.D.Disk.known g.D.Disk.cells g.D.Disk.sector_count g.D.Disk.arming g.D.Disk.fault_count result old new step ends,
)

pub returns-clause-rises : goal.returns-clause-rises
returns-clause-rises g c = λ result old new store step.
    step_rises g.D.Disk.known g.D.Disk.cells g.D.Disk.sector_count g.D.Disk.arming g.D.Disk.fault_count (g.D.Disk.sector_count old.disk) result old new store.sound step

pub returns-clause-goal : goal.returns-clause-goal
returns-clause-goal g c = λ old new store step.
    step_goal g.D.Disk.known g.D.Disk.cells g.D.Disk.sector_count g.D.Disk.arming g.D.Disk.fault_count (g.D.Disk.sector_count old.disk) old new store.sound step

pub returns-clause-done : goal.returns-clause-done
returns-clause-done g c = λ old new store step.
    step_done g.D.Disk.known g.D.Disk.cells g.D.Disk.sector_count g.D.Disk.arming g.D.Disk.fault_count (g.D.Disk.sector_count old.disk) old new store.sound step

pub returns-clause-fault : goal.returns-clause-fault
returns-clause-fault g c = λ fault old new store step.
    step_fails g.D.Disk.known g.D.Disk.cells g.D.Disk.sector_count g.D.Disk.arming g.D.Disk.fault_count (g.D.Disk.sector_count old.disk) fault old new store.sound step
