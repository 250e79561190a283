use Rattle.mounted_calls.proofs.Left.{store_moves}
use Rattle.mounted_calls.proofs.device.force_log.Goals as goal

pub returns-in-Ok-clause-goes : goal.returns-in-Ok-clause-goes
returns-in-Ok-clause-goes g c =
    let d = g.D.Disk in
    store_moves c.logs_move_on.ensures c.logs_leave_first_changes.ensures d.known d.cells d.sector_count d.moment d.left_since c.args.store.now c.force.new.self c.force.ensures.goes

pub returns-in-Err-clause-goes : goal.returns-in-Err-clause-goes
returns-in-Err-clause-goes g c =
    let d = g.D.Disk in
    store_moves c.logs_move_on.ensures c.logs_leave_first_changes.ensures d.known d.cells d.sector_count d.moment d.left_since c.args.store.now c.force.new.self c.force.ensures.goes
