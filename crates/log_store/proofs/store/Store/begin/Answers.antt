use Rattle.std.proofs.Common.{subst}
use Rattle.log_store.specs.declared.store.Job.{Job}
use Rattle.log_store.specs.Steps.{JobFits}
use Rattle.log_store.proofs.Ways.{any_job, goes_job}
use Rattle.log_store.proofs.store.Store.begin.Goals as goal

pub returns-clause-goes : goal.returns-clause-goes
returns-clause-goes g c =
    goes_job g.D.Disk.known g.D.Disk.cells g.D.Disk.sector_count g.D.Disk.moment g.D.Disk.left_since c.args.self.now c.args.job c.requires.store
    (any_job c.args.self.now.stage c.args.job (subst (λ (j : Job). JobFits c.args.self.now.stage j) c.requires.idle c.requires.store.sound.job)) c.requires.asks
