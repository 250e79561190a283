use Rattle.log_store.specs.declared.store.Stage.TheVariants.{Down, Free}
use Rattle.std.proofs.Common.{◌≡◌, ◌≤◌, ℕ}
use Rattle.log_store.specs.Outcome.{CoverEndsPast, Rises, PositionsStay, covers_of, goal_of, steps_left}
use Rattle.disk_model.specs.Disk.{IsAfterWrites}
use Rattle.log_store.specs.declared.store.Job.TheVariants.{Home, WriteBack}
use Rattle.log_store.specs.Actions.{GoesOn, HasNothing}
use Rattle.log_store.specs.State.{state_of}
use Rattle.log_store.specs.Steps.{Goes}
use Rattle.log_store.proofs.store.Store.run.Given as goal

abbrev pub invariant-loop : goal.invariant-loop
invariant-loop g l = record {
  goes : Goes g.D.Disk.known g.D.Disk.cells g.D.Disk.sector_count g.D.Disk.moment g.D.Disk.left_since l.fn.self l.self;
  goal : goal_of l.self.job ≡ goal_of l.fn.self.job;
  faults : g.D.Disk.fault_count l.fn.self.disk ≤ g.D.Disk.fault_count l.self.disk;
  sectors : g.D.Disk.sector_count l.self.disk ≡ g.D.Disk.sector_count l.fn.self.disk;
  rises : Rises (covers_of l.fn.self.job) (covers_of l.self.job) (state_of l.fn.self) (state_of l.self);
  back : l.fn.self.job ≡ WriteBack → PositionsStay (state_of l.fn.self) (state_of l.self);
  home : l.fn.self.job ≡ Home → PositionsStay (state_of l.fn.self) (state_of l.self);
  at_end : l.fn.self.job ≡ Home → l.fn.self.stage ≡ Free → CoverEndsPast (state_of l.fn.self) → l.self ≡ l.fn.self;
  arming : IsAfterWrites (g.D.Disk.arming l.fn.self.disk) (g.D.Disk.arming l.self.disk);
  steps : (n : ℕ) × GoesOn g.D.Disk.known g.D.Disk.cells g.D.Disk.sector_count g.D.Disk.arming g.D.Disk.fault_count n l.fn.self l.self;
  up : (fault : ℕ) → l.self.stage ≡ Down fault → l.fn.self.stage ≡ Down fault;
  nothing : HasNothing l.fn.self.job (state_of l.fn.self) → l.fn.self.stage ≡ Free → l.self ≡ l.fn.self;
  down : (fault : ℕ) → l.fn.self.stage ≡ Down fault → l.self ≡ l.fn.self;
}

abbrev pub decreases-loop : goal.decreases-loop
decreases-loop g l = steps_left (state_of l.self) l.self.job
