use Rattle.std.proofs.Common.{◌≡◌, ℕ, sym, subst}
use Rattle.log_store.specs.declared.store.Stage.{Stage}
use Rattle.log_store.specs.declared.store.Stage.TheVariants.{Down}
use Rattle.log_store.specs.declared.store.Job.TheVariants.{Idle}
use Rattle.log_store.specs.Steps.{JobFits}
use Rattle.log_store.proofs.Ways.{goes_job}
use Rattle.log_store.proofs.store.Store.advance.Goals as goal

down_idle : (stage : Stage) (fault : ℕ) → stage ≡ Down fault → JobFits stage Idle
down_idle stage fault is = subst (λ (st : Stage). JobFits st Idle) (sym is) tt

pub returns-in-Down-clause-goes : goal.returns-in-Down-clause-goes
returns-in-Down-clause-goes g c = goes_job g.D.Disk.known g.D.Disk.cells g.D.Disk.sector_count g.D.Disk.moment g.D.Disk.left_since c.args.self.now Idle c.requires.store (down_idle c.args.self.now.stage c.in-Down.fault c.in-Down.is) tt
