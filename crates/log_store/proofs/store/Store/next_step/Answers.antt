use Rattle.log_store.specs.declared.store.Job.TheVariants.{Idle}
use Rattle.log_store.proofs.Sound.{job_free}
use Rattle.log_store.proofs.Ways.{goes_job}
use Rattle.std.proofs.Common.{refl, rules}
use Rattle.log_store.specs.Steps.{Covering}
use Rattle.log_store.proofs.Done.{covering_step}
use Rattle.log_store.proofs.store.Store.next_step.Goals as goal

pub returns-in-Idle-clause-goes : goal.returns-in-Idle-clause-goes
returns-in-Idle-clause-goes g c = goes_job g.D.Disk.known g.D.Disk.cells g.D.Disk.sector_count g.D.Disk.moment g.D.Disk.left_since c.args.self.now Idle c.requires.store (job_free c.args.self.now.stage Idle c.requires.stage) tt

-- ---- what was done

pub returns-in-Clear-clause-step : goal.returns-in-Clear-clause-step
returns-in-Clear-clause-step g c =
    let covers : Covering c.args.self.now.job = search rules in
    covering_step g.D.Disk.known g.D.Disk.cells g.D.Disk.sector_count g.D.Disk.arming g.D.Disk.fault_count c.args.self.now.job _ c.args.self.now _ c.requires.stage refl covers c.clear_step.ensures.done
