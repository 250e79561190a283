use Rattle.std.proofs.Common.{Result, subst, ◌≡◌, ◌+◌, refl, sym, ap, ◌∙◌, arith, Ok, Err, ℕ}
use Rattle.std.specs.Prelude.{IfErr, OnErr}
use Rattle.disk_model.specs.DiskLaws.{IsAfterWrites-both, IsAfterWrites-none}
use Rattle.log_store.specs.declared.store.Store.{Store}
use Rattle.log_store.proofs.Ways.{goes_both, goes_job}
use Rattle.log_store.specs.declared.store.Job.{Job}
use Rattle.log_store.specs.declared.store.Job.TheVariants.{Clear, Force, Home, Idle, Nothing, WriteBack}
use Rattle.log_store.specs.declared.fault.Progress.TheVariants.{Ended, More}
use Rattle.log_store.specs.declared.fault.Progress.{Progress}
use Rattle.log_store.specs.declared.fault.StoreFault.{StoreFault}
use Rattle.log_store.specs.declared.fault.StoreFault.TheVariants.{PositionEnd}
use Rattle.log_store.specs.declared.fault.StoreFault.TheVariants as faults
use Rattle.log_store.specs.Actions.{HasNothing, IsStep, IsWholeJob, last_answer}
use Rattle.log_store.specs.OnDisk.{HasCover}
use Rattle.log_store.specs.Outcome.{CoverEndsPast, Covered, IsDone, IsFault, PositionsStay, Rises, covers_of, goal_of}
use Rattle.log_store.specs.State.{State, state_of}
use Rattle.log_store.proofs.Ends.{step_lowers}
use Rattle.log_store.proofs.Jobs.{armed_made, rises_both, rises_none, stays_both, stays_none}
use Rattle.log_store.proofs.Stepping.{back_step, down_step, fault_along, fault_stays, goes_home, home_images, home_step_ends, home_step_moves, home_step_stays, step_done, step_down, step_fails, step_goal, step_rises, writes_back}
use Rattle.log_store.proofs.Whole.{answered, counts_rise, last_one, none_down, nothing_step, one_more, up_after}
use Rattle.log_store.proofs.store.Store.run.Goals as goal

ok_err : {T E : Type 0} {x : T} {e : E} → Ok x ≡ Err e → ⊥
ok_err same = cc

more_ended : (result : Result Progress StoreFault) → result ≡ Ok More → result ≡ Ok Ended → ⊥
more_ended result more ended = cc

same_fault : (fault other : StoreFault) → ◌≡◌ {A = Result Progress StoreFault} (Err fault) (Err other) → ◌≡◌ {A = Result Unit StoreFault} (Err fault) (Err other)
same_fault fault other is =
    let same : fault ≡ other = cc in
    ap (λ (e : StoreFault). Err e) same

-- what a job has reached is what its goal is
to_goal : (job : Job) (s : State) → IsDone job s → IsDone (goal_of job) s
to_goal Clear s done = done
to_goal Force s done = done
to_goal Home s done = done
to_goal WriteBack s done = done
to_goal Nothing s done = done
to_goal Idle s done = done

from_goal : (job : Job) (s : State) → IsDone (goal_of job) s → IsDone job s
from_goal Clear s done = done
from_goal Force s done = done
from_goal Home s done = done
from_goal WriteBack s done = done
from_goal Nothing s done = done
from_goal Idle s done = done

-- so it is that of the job that it began with
done_along : (job first : Job) (s : State) → goal_of job ≡ goal_of first → IsDone job s → IsDone first s
done_along job first s goal done = from_goal first s (subst (λ (j : Job). IsDone j s) goal (to_goal job s done))

covered_after : (a b d : State) → PositionsStay a b → Covered b d → Covered a d
covered_after a b d one two = record {
  head = two.head ∙ ap (λ (n : ℕ). n + 1) one.head;
  tail = two.tail ∙ one.head;
  durable = two.durable ∙ one.durable;
}

pub loop-init : goal.loop-init
loop-init g c = record { goes = goes_job g.D.Disk.known g.D.Disk.cells g.D.Disk.sector_count g.D.Disk.moment g.D.Disk.left_since c.args.self.now c.args.self.now.job c.requires c.requires.sound.job c.requires.sound.asks; goal = refl; faults = omega arith; sectors = refl; rises = rises_none (covers_of c.args.self.now.job) (state_of c.args.self.now); back = λ is. stays_none (state_of c.args.self.now); home = λ is. stays_none (state_of c.args.self.now); at_end = λ is free ends. refl; arming = IsAfterWrites-none (g.D.Disk.arming c.args.self.now.disk); steps = (0, refl); up = λ fault is. is; nothing = λ none free. refl; down = λ fault is. refl }

pub returns-in_err-advance-clause-goes : goal.returns-in_err-advance-clause-goes
returns-in_err-advance-clause-goes g c =
    goes_both g.D.Disk.known g.D.Disk.cells g.D.Disk.sector_count g.D.Disk.moment g.D.Disk.left_since c.args.self.now c.loop.self c.advance.new.self c.loop.invariant.goes c.advance.ensures.goes

pub loop-preserved : goal.loop-preserved
loop-preserved g c =
    let was = c.args.self.now in
    let now = c.loop.self in
    let new = c.advance.new.self in
    let sound = c.loop.invariant.goes.store.sound in
    let size : ℕ = g.D.Disk.sector_count now.disk in
    let step = subst (λ (p : Progress). IsStep g.D.Disk.known g.D.Disk.cells g.D.Disk.sector_count g.D.Disk.arming g.D.Disk.fault_count (Ok p) now new) c.in-More.is c.in_ok-advance.ensures.step in
    let back_is : was.job ≡ WriteBack → now.job ≡ WriteBack = λ is. writes_back now.job (c.loop.invariant.goal ∙ ap goal_of is) in
    let home_is : was.job ≡ Home → now.job ≡ Home = λ is. goes_home now.job (c.loop.invariant.goal ∙ ap goal_of is) in record {
      rises = rises_both (covers_of was.job) (covers_of now.job) (covers_of new.job) (state_of was) (state_of now) (state_of new) c.loop.invariant.rises
          (step_rises g.D.Disk.known g.D.Disk.cells g.D.Disk.sector_count g.D.Disk.arming g.D.Disk.fault_count size (Ok More) now new sound step);
      back = λ is. stays_both (state_of was) (state_of now) (state_of new) (c.loop.invariant.back is) (back_step g.D.Disk.known g.D.Disk.cells g.D.Disk.sector_count g.D.Disk.arming g.D.Disk.fault_count size More now new sound step (back_is is));
      home = λ is. stays_both (state_of was) (state_of now) (state_of new) (c.loop.invariant.home is) (home_step_stays g.D.Disk.known g.D.Disk.cells g.D.Disk.sector_count g.D.Disk.arming g.D.Disk.fault_count size now new sound step (home_is is));
      at_end = λ is free ends.
          let same : now ≡ was = c.loop.invariant.at_end is free ends in
          absurd (ok_err (home_step_ends g.D.Disk.known g.D.Disk.cells g.D.Disk.sector_count g.D.Disk.arming g.D.Disk.fault_count (Ok More) now new step (ap (λ (x : Store g.row.D.Denot). x.job) same ∙ is)
          (ap (λ (x : Store g.row.D.Denot). x.stage) same ∙ free) (subst (λ (x : Store g.row.D.Denot). CoverEndsPast (state_of x)) (sym same) ends)));
      arming = IsAfterWrites-both (g.D.Disk.arming was.disk) (g.D.Disk.arming now.disk) (g.D.Disk.arming new.disk) c.loop.invariant.arming
          (armed_made g.D.Disk.known g.D.Disk.cells g.D.Disk.arming _ _ now.disk new.disk step.done.call);
      goes = goes_both g.D.Disk.known g.D.Disk.cells g.D.Disk.sector_count g.D.Disk.moment g.D.Disk.left_since was now new c.loop.invariant.goes c.advance.ensures.goes;
      goal = step_goal g.D.Disk.known g.D.Disk.cells g.D.Disk.sector_count g.D.Disk.arming g.D.Disk.fault_count size now new sound step ∙ c.loop.invariant.goal;
      faults = omega (arith, c.loop.invariant.faults, step.done.count);
      sectors = step.done.size ∙ c.loop.invariant.sectors;
      steps = one_more g.D.Disk.known g.D.Disk.cells g.D.Disk.sector_count g.D.Disk.arming g.D.Disk.fault_count was now new c.loop.invariant.steps step;
      nothing = λ none free.
          let same : now ≡ was = c.loop.invariant.nothing none free in
          let still : HasNothing now.job (state_of now) = subst (λ (x : Store g.row.D.Denot). HasNothing x.job (state_of x)) (sym same) none in
          absurd (more_ended (Ok More) refl (nothing_step g.D.Disk.known g.D.Disk.cells g.D.Disk.sector_count g.D.Disk.arming g.D.Disk.fault_count (Ok More) now new step (ap (λ (x : Store g.row.D.Denot). x.stage) same ∙ free) still).0);
      up = λ fault is. absurd (up_after g.D.Disk.known g.D.Disk.cells g.D.Disk.sector_count g.D.Disk.arming g.D.Disk.fault_count More now new step fault is);
      down = λ fault is.
          absurd (ok_err (down_step g.D.Disk.known g.D.Disk.cells g.D.Disk.sector_count g.D.Disk.arming g.D.Disk.fault_count (Ok More) fault now new step (ap (λ (x : Store g.row.D.Denot). x.stage) (c.loop.invariant.down fault is) ∙ is)).0);
    }

pub loop-smaller : goal.loop-smaller
loop-smaller g c =
    let now = c.loop.self in
    let new = c.advance.new.self in
    step_lowers g.D.Disk.known g.D.Disk.cells g.D.Disk.sector_count g.D.Disk.arming g.D.Disk.fault_count (g.D.Disk.sector_count now.disk) now new c.loop.invariant.goes.store.sound
    (subst (λ (p : Progress). IsStep g.D.Disk.known g.D.Disk.cells g.D.Disk.sector_count g.D.Disk.arming g.D.Disk.fault_count (Ok p) now new) c.in-More.is c.in_ok-advance.ensures.step)

pub returns-in-Ended-clause-goes : goal.returns-in-Ended-clause-goes
returns-in-Ended-clause-goes g c =
    goes_both g.D.Disk.known g.D.Disk.cells g.D.Disk.sector_count g.D.Disk.moment g.D.Disk.left_since c.args.self.now c.loop.self c.advance.new.self c.loop.invariant.goes c.advance.ensures.goes

pub returns-in_err-advance-clause-arming : goal.returns-in_err-advance-clause-arming
returns-in_err-advance-clause-arming g c =
    IsAfterWrites-both (g.D.Disk.arming c.args.self.now.disk) (g.D.Disk.arming c.loop.self.disk) (g.D.Disk.arming c.advance.new.self.disk) c.loop.invariant.arming
    (armed_made g.D.Disk.known g.D.Disk.cells g.D.Disk.arming _ _ c.loop.self.disk c.advance.new.self.disk c.advance.ensures.step.done.call)

pub returns-in-Ended-clause-arming : goal.returns-in-Ended-clause-arming
returns-in-Ended-clause-arming g c =
    IsAfterWrites-both (g.D.Disk.arming c.args.self.now.disk) (g.D.Disk.arming c.loop.self.disk) (g.D.Disk.arming c.advance.new.self.disk) c.loop.invariant.arming
    (armed_made g.D.Disk.known g.D.Disk.cells g.D.Disk.arming _ _ c.loop.self.disk c.advance.new.self.disk c.advance.ensures.step.done.call)

pub returns-in_err-advance-clause-whole : goal.returns-in_err-advance-clause-whole
returns-in_err-advance-clause-whole g c =
    let same : Err c.in_err-advance.field-0.0 ≡ last_answer c.from_residual.result =
    sym (ap last_answer (answered c.from_residual.result c.in_err-advance.field-0.0 c.from_residual.ensures.1)) in
    subst (λ (r : Result Progress StoreFault). IsWholeJob g.D.Disk.known g.D.Disk.cells g.D.Disk.sector_count g.D.Disk.arming g.D.Disk.fault_count r c.args.self.now c.advance.new.self) same
    (last_one g.D.Disk.known g.D.Disk.cells g.D.Disk.sector_count g.D.Disk.arming g.D.Disk.fault_count (Err c.in_err-advance.field-0.0) c.args.self.now c.loop.self c.advance.new.self c.loop.invariant.steps c.in_err-advance.ensures.step)

pub returns-in-Ended-clause-whole : goal.returns-in-Ended-clause-whole
returns-in-Ended-clause-whole g c =
    last_one g.D.Disk.known g.D.Disk.cells g.D.Disk.sector_count g.D.Disk.arming g.D.Disk.fault_count (Ok Ended) c.args.self.now c.loop.self c.advance.new.self c.loop.invariant.steps
    (subst (λ (p : Progress). IsStep g.D.Disk.known g.D.Disk.cells g.D.Disk.sector_count g.D.Disk.arming g.D.Disk.fault_count (Ok p) c.loop.self c.advance.new.self) c.in-Ended.is c.in_ok-advance.ensures.step)

pub returns-in_err-advance-clause-count : goal.returns-in_err-advance-clause-count
returns-in_err-advance-clause-count g c =
    let rise = counts_rise (Err c.in_err-advance.field-0.0) (g.D.Disk.fault_count c.loop.self.disk) (g.D.Disk.fault_count c.advance.new.self.disk) c.in_err-advance.ensures.step.done.count in
    omega (arith, c.loop.invariant.faults, rise)

pub returns-in-Ended-clause-count : goal.returns-in-Ended-clause-count
returns-in-Ended-clause-count g c = omega (arith, c.loop.invariant.faults, c.in_ok-advance.ensures.step.done.count)

pub returns-in_err-advance-clause-sectors : goal.returns-in_err-advance-clause-sectors
returns-in_err-advance-clause-sectors g c = c.in_err-advance.ensures.step.done.size ∙ c.loop.invariant.sectors

pub returns-in-Ended-clause-sectors : goal.returns-in-Ended-clause-sectors
returns-in-Ended-clause-sectors g c = c.in_ok-advance.ensures.step.done.size ∙ c.loop.invariant.sectors

pub returns-in-Ended-clause-up : goal.returns-in-Ended-clause-up
returns-in-Ended-clause-up g c = none_down c.advance.new.self.stage (up_after g.D.Disk.known g.D.Disk.cells g.D.Disk.sector_count g.D.Disk.arming g.D.Disk.fault_count _ c.loop.self c.advance.new.self c.in_ok-advance.ensures.step)

pub returns-in_err-advance-clause-only_down : goal.returns-in_err-advance-clause-only_down
returns-in_err-advance-clause-only_down g c = λ fault is.
    let both = sym (answered c.from_residual.result c.in_err-advance.field-0.0 c.from_residual.ensures.1) ∙ is in
    let same : c.in_err-advance.field-0.0 ≡ faults.Down fault = cc in
    c.loop.invariant.up fault
    (step_down g.D.Disk.known g.D.Disk.cells g.D.Disk.sector_count g.D.Disk.arming g.D.Disk.fault_count fault c.loop.self c.advance.new.self
    (subst (λ (e : StoreFault). IsStep g.D.Disk.known g.D.Disk.cells g.D.Disk.sector_count g.D.Disk.arming g.D.Disk.fault_count (Err e) c.loop.self c.advance.new.self) same c.in_err-advance.ensures.step))

pub returns-in_err-advance-clause-nothing : goal.returns-in_err-advance-clause-nothing
returns-in_err-advance-clause-nothing g c = λ none free.
    let same : c.loop.self ≡ c.args.self.now = c.loop.invariant.nothing none free in
    let still : HasNothing c.loop.self.job (state_of c.loop.self) = subst (λ (x : Store g.row.D.Denot). HasNothing x.job (state_of x)) (sym same) none in
    (nothing_step g.D.Disk.known g.D.Disk.cells g.D.Disk.sector_count g.D.Disk.arming g.D.Disk.fault_count (Err c.in_err-advance.field-0.0) c.loop.self c.advance.new.self c.in_err-advance.ensures.step (ap (λ (x : Store g.row.D.Denot). x.stage) same ∙ free) still).1
    ∙ ap (λ (x : Store g.row.D.Denot). x.disk) same

pub returns-in-Ended-clause-nothing : goal.returns-in-Ended-clause-nothing
returns-in-Ended-clause-nothing g c = λ none free.
    let same : c.loop.self ≡ c.args.self.now = c.loop.invariant.nothing none free in
    let still : HasNothing c.loop.self.job (state_of c.loop.self) = subst (λ (x : Store g.row.D.Denot). HasNothing x.job (state_of x)) (sym same) none in
    (nothing_step g.D.Disk.known g.D.Disk.cells g.D.Disk.sector_count g.D.Disk.arming g.D.Disk.fault_count _ c.loop.self c.advance.new.self c.in_ok-advance.ensures.step (ap (λ (x : Store g.row.D.Denot). x.stage) same ∙ free) still).1
    ∙ ap (λ (x : Store g.row.D.Denot). x.disk) same

-- ---- what the job came to

pub returns-in_err-advance-clause-idle : goal.returns-in_err-advance-clause-idle
returns-in_err-advance-clause-idle g c = c.in_err-advance.ensures.step.done.job

pub returns-in-Ended-clause-idle : goal.returns-in-Ended-clause-idle
returns-in-Ended-clause-idle g c =
    let was = c.args.self.now in
    let now = c.loop.self in
    let new = c.advance.new.self in
    let step = subst (λ (p : Progress). IsStep g.D.Disk.known g.D.Disk.cells g.D.Disk.sector_count g.D.Disk.arming g.D.Disk.fault_count (Ok p) now new) c.in-Ended.is c.in_ok-advance.ensures.step in
    step.done.job

pub returns-in-Ended-clause-done : goal.returns-in-Ended-clause-done
returns-in-Ended-clause-done g c =
    let was = c.args.self.now in
    let now = c.loop.self in
    let new = c.advance.new.self in
    let step = subst (λ (p : Progress). IsStep g.D.Disk.known g.D.Disk.cells g.D.Disk.sector_count g.D.Disk.arming g.D.Disk.fault_count (Ok p) now new) c.in-Ended.is c.in_ok-advance.ensures.step in
    done_along now.job was.job (state_of new) c.loop.invariant.goal (step_done g.D.Disk.known g.D.Disk.cells g.D.Disk.sector_count g.D.Disk.arming g.D.Disk.fault_count (g.D.Disk.sector_count now.disk) now new c.loop.invariant.goes.store.sound step)

pub returns-in_err-advance-clause-rises : goal.returns-in_err-advance-clause-rises
returns-in_err-advance-clause-rises g c =
    let was = c.args.self.now in
    let now = c.loop.self in
    let new = c.advance.new.self in
    let fault : StoreFault = c.in_err-advance.field-0.0 in
    let step : IsStep g.D.Disk.known g.D.Disk.cells g.D.Disk.sector_count g.D.Disk.arming g.D.Disk.fault_count (Err fault) now new = c.in_err-advance.ensures.step in
    let is : c.from_residual.result ≡ Err fault = answered c.from_residual.result fault c.from_residual.ensures.1 in
    let last = step_rises g.D.Disk.known g.D.Disk.cells g.D.Disk.sector_count g.D.Disk.arming g.D.Disk.fault_count (g.D.Disk.sector_count now.disk) (Err fault) now new c.loop.invariant.goes.store.sound step in
    rises_both (covers_of was.job) (covers_of now.job) 0 (state_of was) (state_of now) (state_of new) c.loop.invariant.rises
    (subst (λ (j : Job). Rises (covers_of now.job) (covers_of j) (state_of now) (state_of new)) step.done.job last)

pub returns-in-Ended-clause-rises : goal.returns-in-Ended-clause-rises
returns-in-Ended-clause-rises g c =
    let was = c.args.self.now in
    let now = c.loop.self in
    let new = c.advance.new.self in
    let step = subst (λ (p : Progress). IsStep g.D.Disk.known g.D.Disk.cells g.D.Disk.sector_count g.D.Disk.arming g.D.Disk.fault_count (Ok p) now new) c.in-Ended.is c.in_ok-advance.ensures.step in
    let last = step_rises g.D.Disk.known g.D.Disk.cells g.D.Disk.sector_count g.D.Disk.arming g.D.Disk.fault_count (g.D.Disk.sector_count now.disk) (Ok Ended) now new c.loop.invariant.goes.store.sound step in
    rises_both (covers_of was.job) (covers_of now.job) 0 (state_of was) (state_of now) (state_of new) c.loop.invariant.rises
    (subst (λ (j : Job). Rises (covers_of now.job) (covers_of j) (state_of now) (state_of new)) step.done.job last)

pub returns-in_err-advance-clause-stays : goal.returns-in_err-advance-clause-stays
returns-in_err-advance-clause-stays g c = λ back.
    let was = c.args.self.now in
    let now = c.loop.self in
    let new = c.advance.new.self in
    let fault : StoreFault = c.in_err-advance.field-0.0 in
    let step : IsStep g.D.Disk.known g.D.Disk.cells g.D.Disk.sector_count g.D.Disk.arming g.D.Disk.fault_count (Err fault) now new = c.in_err-advance.ensures.step in
    let is : c.from_residual.result ≡ Err fault = answered c.from_residual.result fault c.from_residual.ensures.1 in
    stays_both (state_of was) (state_of now) (state_of new) (c.loop.invariant.back back) (fault_stays g.D.Disk.known g.D.Disk.cells g.D.Disk.sector_count g.D.Disk.arming g.D.Disk.fault_count fault now new step)

pub returns-in-Ended-clause-stays : goal.returns-in-Ended-clause-stays
returns-in-Ended-clause-stays g c = λ back.
    let was = c.args.self.now in
    let now = c.loop.self in
    let new = c.advance.new.self in
    let step = subst (λ (p : Progress). IsStep g.D.Disk.known g.D.Disk.cells g.D.Disk.sector_count g.D.Disk.arming g.D.Disk.fault_count (Ok p) now new) c.in-Ended.is c.in_ok-advance.ensures.step in
    stays_both (state_of was) (state_of now) (state_of new) (c.loop.invariant.back back)
    (back_step g.D.Disk.known g.D.Disk.cells g.D.Disk.sector_count g.D.Disk.arming g.D.Disk.fault_count (g.D.Disk.sector_count now.disk) Ended now new c.loop.invariant.goes.store.sound step (writes_back now.job (c.loop.invariant.goal ∙ ap goal_of back)))

pub returns-in-Ended-clause-covered : goal.returns-in-Ended-clause-covered
returns-in-Ended-clause-covered g c = λ home.
    let was = c.args.self.now in
    let now = c.loop.self in
    let new = c.advance.new.self in
    let step = subst (λ (p : Progress). IsStep g.D.Disk.known g.D.Disk.cells g.D.Disk.sector_count g.D.Disk.arming g.D.Disk.fault_count (Ok p) now new) c.in-Ended.is c.in_ok-advance.ensures.step in
    covered_after (state_of was) (state_of now) (state_of new) (c.loop.invariant.home home)
    (home_step_moves g.D.Disk.known g.D.Disk.cells g.D.Disk.sector_count g.D.Disk.arming g.D.Disk.fault_count (g.D.Disk.sector_count now.disk) now new c.loop.invariant.goes.store.sound step (goes_home now.job (c.loop.invariant.goal ∙ ap goal_of home)))

pub returns-in-Ended-clause-last : goal.returns-in-Ended-clause-last
returns-in-Ended-clause-last g c = λ home tells image left.
    let was = c.args.self.now in
    let now = c.loop.self in
    let new = c.advance.new.self in
    let step = subst (λ (p : Progress). IsStep g.D.Disk.known g.D.Disk.cells g.D.Disk.sector_count g.D.Disk.arming g.D.Disk.fault_count (Ok p) now new) c.in-Ended.is c.in_ok-advance.ensures.step in
    let still = c.loop.invariant.home home in
    let moves = c.loop.invariant.goes.moves in
    let has = home_images g.D.Disk.known g.D.Disk.cells g.D.Disk.sector_count g.D.Disk.arming g.D.Disk.fault_count c.cover_flights.ensures.last now new image c.loop.invariant.goes.store step (goes_home now.job (c.loop.invariant.goal ∙ ap goal_of home)) tells
    (sym (g.met.D.Disk.cells_fit tells now.disk)) left in
    subst (λ (n : ℕ). HasCover n was.ring was.positions.head (was.durable + 1) image) moves.anchor
    (subst (λ (n : ℕ). HasCover now.anchor n was.positions.head (was.durable + 1) image) moves.ring
    (subst (λ (n : ℕ). HasCover now.anchor now.ring n (was.durable + 1) image) still.head
    (subst (λ (n : ℕ). HasCover now.anchor now.ring now.positions.head (n + 1) image) still.durable has)))

pub returns-in_err-advance-clause-failed : goal.returns-in_err-advance-clause-failed
returns-in_err-advance-clause-failed g c = λ home.
    let was = c.args.self.now in
    let now = c.loop.self in
    let new = c.advance.new.self in
    let fault : StoreFault = c.in_err-advance.field-0.0 in
    let step : IsStep g.D.Disk.known g.D.Disk.cells g.D.Disk.sector_count g.D.Disk.arming g.D.Disk.fault_count (Err fault) now new = c.in_err-advance.ensures.step in
    let is : c.from_residual.result ≡ Err fault = answered c.from_residual.result fault c.from_residual.ensures.1 in
    subst (λ (r : Result Unit StoreFault). OnErr r (PositionsStay (state_of was) (state_of new))) (sym is)
    (stays_both (state_of was) (state_of now) (state_of new) (c.loop.invariant.home home) (fault_stays g.D.Disk.known g.D.Disk.cells g.D.Disk.sector_count g.D.Disk.arming g.D.Disk.fault_count fault now new step))

pub returns-in_err-advance-clause-at_end : goal.returns-in_err-advance-clause-at_end
returns-in_err-advance-clause-at_end g c = λ home free past.
    let was = c.args.self.now in
    let now = c.loop.self in
    let new = c.advance.new.self in
    let fault : StoreFault = c.in_err-advance.field-0.0 in
    let step : IsStep g.D.Disk.known g.D.Disk.cells g.D.Disk.sector_count g.D.Disk.arming g.D.Disk.fault_count (Err fault) now new = c.in_err-advance.ensures.step in
    let is : c.from_residual.result ≡ Err fault = answered c.from_residual.result fault c.from_residual.ensures.1 in
    let same : now ≡ was = c.loop.invariant.at_end home free past in
    let ends : ◌≡◌ {A = Result Progress StoreFault} (Err fault) (Err PositionEnd) = home_step_ends g.D.Disk.known g.D.Disk.cells g.D.Disk.sector_count g.D.Disk.arming g.D.Disk.fault_count (Err fault) now new step (ap (λ (x : Store g.row.D.Denot). x.job) same ∙ home)
    (ap (λ (x : Store g.row.D.Denot). x.stage) same ∙ free) (subst (λ (x : Store g.row.D.Denot). CoverEndsPast (state_of x)) (sym same) past) in
    is ∙ same_fault fault PositionEnd ends

pub returns-in-Ended-clause-at_end : goal.returns-in-Ended-clause-at_end
returns-in-Ended-clause-at_end g c = λ home free past.
    let was = c.args.self.now in
    let now = c.loop.self in
    let new = c.advance.new.self in
    let step = subst (λ (p : Progress). IsStep g.D.Disk.known g.D.Disk.cells g.D.Disk.sector_count g.D.Disk.arming g.D.Disk.fault_count (Ok p) now new) c.in-Ended.is c.in_ok-advance.ensures.step in
    let same : now ≡ was = c.loop.invariant.at_end home free past in
    absurd (ok_err (home_step_ends g.D.Disk.known g.D.Disk.cells g.D.Disk.sector_count g.D.Disk.arming g.D.Disk.fault_count (Ok Ended) now new step (ap (λ (x : Store g.row.D.Denot). x.job) same ∙ home)
    (ap (λ (x : Store g.row.D.Denot). x.stage) same ∙ free) (subst (λ (x : Store g.row.D.Denot). CoverEndsPast (state_of x)) (sym same) past)))

pub returns-in_err-advance-clause-fault : goal.returns-in_err-advance-clause-fault
returns-in_err-advance-clause-fault g c =
    let was = c.args.self.now in
    let now = c.loop.self in
    let new = c.advance.new.self in
    let fault : StoreFault = c.in_err-advance.field-0.0 in
    let step : IsStep g.D.Disk.known g.D.Disk.cells g.D.Disk.sector_count g.D.Disk.arming g.D.Disk.fault_count (Err fault) now new = c.in_err-advance.ensures.step in
    let is : c.from_residual.result ≡ Err fault = answered c.from_residual.result fault c.from_residual.ensures.1 in
    subst (λ (r : Result Unit StoreFault). IfErr r (λ e. IsFault e was.job (state_of new) (g.D.Disk.fault_count was.disk) (g.D.Disk.fault_count new.disk))) (sym is)
    (fault_along fault now.job was.job (state_of new) (g.D.Disk.fault_count was.disk) (g.D.Disk.fault_count now.disk) (g.D.Disk.fault_count new.disk)
    c.loop.invariant.goal c.loop.invariant.faults (step_fails g.D.Disk.known g.D.Disk.cells g.D.Disk.sector_count g.D.Disk.arming g.D.Disk.fault_count (g.D.Disk.sector_count now.disk) fault now new c.loop.invariant.goes.store.sound step))

pub returns-in_err-advance-clause-down : goal.returns-in_err-advance-clause-down
returns-in_err-advance-clause-down g c = λ since down.
    let was = c.args.self.now in
    let now = c.loop.self in
    let new = c.advance.new.self in
    let fault : StoreFault = c.in_err-advance.field-0.0 in
    let step : IsStep g.D.Disk.known g.D.Disk.cells g.D.Disk.sector_count g.D.Disk.arming g.D.Disk.fault_count (Err fault) now new = c.in_err-advance.ensures.step in
    let is : c.from_residual.result ≡ Err fault = answered c.from_residual.result fault c.from_residual.ensures.1 in
    let same : now ≡ was = c.loop.invariant.down since down in
    let both = down_step g.D.Disk.known g.D.Disk.cells g.D.Disk.sector_count g.D.Disk.arming g.D.Disk.fault_count (Err fault) since now new step (ap (λ (x : Store g.row.D.Denot). x.stage) same ∙ down) in
    (is ∙ same_fault fault (faults.Down since) both.0, both.1 ∙ ap (λ (x : Store g.row.D.Denot). x.disk) same)

pub returns-in-Ended-clause-down : goal.returns-in-Ended-clause-down
returns-in-Ended-clause-down g c = λ since down.
    let was = c.args.self.now in
    let now = c.loop.self in
    let new = c.advance.new.self in
    let step = subst (λ (p : Progress). IsStep g.D.Disk.known g.D.Disk.cells g.D.Disk.sector_count g.D.Disk.arming g.D.Disk.fault_count (Ok p) now new) c.in-Ended.is c.in_ok-advance.ensures.step in
    let same : now ≡ was = c.loop.invariant.down since down in
    absurd (ok_err (down_step g.D.Disk.known g.D.Disk.cells g.D.Disk.sector_count g.D.Disk.arming g.D.Disk.fault_count (Ok Ended) since now new step (ap (λ (x : Store g.row.D.Denot). x.stage) same ∙ down)).0)
