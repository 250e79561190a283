use Rattle.log_store.specs.State.{state_of}
use Rattle.mounted_calls.proofs.Left.{store_moves}
use Rattle.mounted_calls.proofs.Synced.{covered_now}
use Rattle.mounted_calls.proofs.device.cover_log.Goals as goal

pub returns-in-Ok-clause-goes : goal.returns-in-Ok-clause-goes
returns-in-Ok-clause-goes g c =
    let d = g.D.Disk in
    store_moves c.logs_move_on.ensures c.logs_leave_first_changes.ensures d.known d.cells d.sector_count d.moment d.left_since c.args.store.now c.cover.new.self c.cover.ensures.goes

pub returns-in-Err-clause-goes : goal.returns-in-Err-clause-goes
returns-in-Err-clause-goes g c =
    let d = g.D.Disk in
    store_moves c.logs_move_on.ensures c.logs_leave_first_changes.ensures d.known d.cells d.sector_count d.moment d.left_since c.args.store.now c.cover.new.self c.cover.ensures.goes

pub returns-in-Ok-clause-answer : goal.returns-in-Ok-clause-answer
returns-in-Ok-clause-answer g c =
    let d = g.D.Disk in
    covered_now d.known (state_of c.args.store.now) (state_of c.cover.new.self) (d.cells c.cover.new.self.disk) c.in-Ok.ensures.goes.moves.anchor c.in-Ok.ensures.goes.moves.ring c.in-Ok.ensures.covered c.in-Ok.ensures.last
