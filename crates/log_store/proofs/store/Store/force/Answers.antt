use Rattle.std.proofs.Common.{◌≡◌, ◌∙◌, arith, subst, sym}
use Rattle.log_store.specs.declared.store.Stage.{Stage}
use Rattle.log_store.specs.Landed.{RingFits}
use Rattle.log_store.specs.State.{State, state_of}
use Rattle.log_store.specs.Steps.{StageFits}
use Rattle.log_store.specs.declared.fault.StoreFault.{StoreFault}
use Rattle.log_store.specs.declared.fault.StoreFault.TheVariants.{FlushFault, PositionEnd, WriteFault}
use Rattle.log_store.specs.declared.store.Job.TheVariants.{Force}
use Rattle.log_store.specs.declared.store.Store.{Store}
use Rattle.log_store.specs.Outcome.{IsFault}
use Rattle.log_store.proofs.Whole.{answered}
use Rattle.log_store.proofs.store.Store.force.Goals as goal

-- each image replays, and none of the list is left
pub returns-clause-acknowledged : goal.returns-clause-acknowledged
returns-clause-acknowledged g c = λ tells image is.
    let new = c.run.new.self in
    let s : State = state_of new in
    let store = c.run.ensures.goes.store in
    let fits : RingFits s (g.D.Disk.cells new.disk) = record {
      some = omega (arith, store.sound.ring, new.positions.spare);
      place = omega (arith, store.sound.place, g.met.D.Disk.cells_fit tells new.disk);
    } in
    c.states.ensures.replays s (g.D.Disk.cells new.disk) image (store.holds tells) fits
    (λ at. (subst (λ (st : Stage). StageFits st s new.sectors.items new.count) at store.sound.stage).0) is

pub returns-in_err-run-clause-write_fault : goal.returns-in_err-run-clause-write_fault
returns-in_err-run-clause-write_fault g c = λ is.
    let both = sym (answered c.from_residual.result c.in_err-run.field-0.0 c.from_residual.ensures.1) ∙ is in
    let same : c.in_err-run.field-0.0 ≡ WriteFault = cc in
    subst (λ (e : StoreFault). IsFault e Force (state_of c.run.new.self) (g.D.Disk.fault_count c.args.self.now.disk) (g.D.Disk.fault_count c.run.new.self.disk)) same
    (subst (λ (x : Store g.row.D.Denot). IsFault c.in_err-run.field-0.0 x.job (state_of c.run.new.self) (g.D.Disk.fault_count x.disk) (g.D.Disk.fault_count c.run.new.self.disk)) c.begin.ensures.job c.in_err-run.ensures.fault)

pub returns-in_err-run-clause-flush_fault : goal.returns-in_err-run-clause-flush_fault
returns-in_err-run-clause-flush_fault g c = λ is.
    let both = sym (answered c.from_residual.result c.in_err-run.field-0.0 c.from_residual.ensures.1) ∙ is in
    let same : c.in_err-run.field-0.0 ≡ FlushFault = cc in
    subst (λ (e : StoreFault). IsFault e Force (state_of c.run.new.self) (g.D.Disk.fault_count c.args.self.now.disk) (g.D.Disk.fault_count c.run.new.self.disk)) same
    (subst (λ (x : Store g.row.D.Denot). IsFault c.in_err-run.field-0.0 x.job (state_of c.run.new.self) (g.D.Disk.fault_count x.disk) (g.D.Disk.fault_count c.run.new.self.disk)) c.begin.ensures.job c.in_err-run.ensures.fault)

pub returns-in_err-run-clause-position_end : goal.returns-in_err-run-clause-position_end
returns-in_err-run-clause-position_end g c = λ is.
    let both = sym (answered c.from_residual.result c.in_err-run.field-0.0 c.from_residual.ensures.1) ∙ is in
    let same : c.in_err-run.field-0.0 ≡ PositionEnd = cc in
    subst (λ (e : StoreFault). IsFault e Force (state_of c.run.new.self) (g.D.Disk.fault_count c.args.self.now.disk) (g.D.Disk.fault_count c.run.new.self.disk)) same
    (subst (λ (x : Store g.row.D.Denot). IsFault c.in_err-run.field-0.0 x.job (state_of c.run.new.self) (g.D.Disk.fault_count x.disk) (g.D.Disk.fault_count c.run.new.self.disk)) c.begin.ensures.job c.in_err-run.ensures.fault)
