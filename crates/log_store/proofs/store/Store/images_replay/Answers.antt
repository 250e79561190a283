use Rattle.std.proofs.Common.{subst, arith}
use Rattle.log_store.specs.declared.store.Stage.{Stage}
use Rattle.log_store.specs.Landed.{RingFits}
use Rattle.log_store.specs.State.{State, state_of}
use Rattle.log_store.specs.Steps.{StageFits}
use Rattle.log_store.proofs.store.Store.images_replay.Goals as goal

pub returns : goal.returns
returns g c = λ tells image is.
    let now = c.args.self.now in
    let s : State = state_of now in
    let fits : RingFits s (g.D.Disk.cells now.disk) = record {
      some = omega (arith, c.requires.sound.ring, now.positions.spare);
      place = omega (arith, c.requires.sound.place, g.met.D.Disk.cells_fit tells now.disk);
    } in
    c.states.ensures.replays s (g.D.Disk.cells now.disk) image (c.requires.holds tells) fits
    (λ at. (subst (λ (st : Stage). StageFits st s now.sectors.items now.count) at c.requires.sound.stage).0) is
