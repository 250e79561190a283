use Rattle.log_store.proofs.Ends.{step_lowers}
use Rattle.log_store.proofs.laws.jobs_end.Goals as goal

pub returns : goal.returns
returns g c = λ old new store step.
    step_lowers g.D.Disk.known g.D.Disk.cells g.D.Disk.sector_count g.D.Disk.arming g.D.Disk.fault_count (g.D.Disk.sector_count old.disk) old new store.sound step
