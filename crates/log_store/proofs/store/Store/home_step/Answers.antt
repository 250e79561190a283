use Rattle.log_store.specs.declared.store.Job.TheVariants.{Idle}
use Rattle.log_store.proofs.Sound.{job_free}
use Rattle.log_store.proofs.Ways.{goes_job}
use Rattle.log_store.specs.Actions.{end_job}
use Rattle.log_store.proofs.store.Store.home_step.Goals as goal

pub returns-clause-goes : goal.returns-clause-goes
returns-clause-goes g c = goes_job g.D.Disk.known g.D.Disk.cells g.D.Disk.sector_count g.D.Disk.moment g.D.Disk.left_since c.args.self.now Idle c.requires.store (job_free c.args.self.now.stage Idle c.requires.stage) tt

-- ---- what was done

pub returns-then-not-is_empty-clause-done : goal.returns-then-not-is_empty-clause-done
returns-then-not-is_empty-clause-done g c = c.write_home.ensures.done end_job

pub returns-then-self-clause-done : goal.returns-then-self-clause-done
returns-then-self-clause-done g c = c.flush_home.ensures.done end_job
