use Rattle.disk_model.specs.DiskLaws.{IsAfterWrites-both}
use Rattle.log_store.specs.State.{state_of}
use Rattle.mounted_calls.proofs.Left.{store_moves, store_moves_both}
use Rattle.mounted_calls.proofs.Synced.{home_after, idle_behind, idle_home, none_dirty}
use Rattle.mounted_calls.proofs.device.bring_home.Goals as goal

pub returns-then-not-dirty-clause-answer : goal.returns-then-not-dirty-clause-answer
returns-then-not-dirty-clause-answer g c =
    let d = g.D.Disk in
    let s = c.args.store.now in
    idle_home d.known (d.cells s.disk) (state_of s) c.told_state.result (d.fault_count s.disk) (d.fault_count s.disk)
    (none_dirty s.dirty.images c.dirty.result c.if-not-dirty.true c.dirty.ensures.1) c.told_state.ensures

pub returns-in-Ok-clause-goes : goal.returns-in-Ok-clause-goes
returns-in-Ok-clause-goes g c =
    let d = g.D.Disk in
    store_moves_both d.known d.cells d.sector_count d.moment d.left_since c.args.store.now c.write_back.new.self c.cover_log.new.store
    (store_moves c.logs_move_on.ensures c.logs_leave_first_changes.ensures d.known d.cells d.sector_count d.moment d.left_since c.args.store.now c.write_back.new.self c.write_back.ensures.goes)
    c.cover_log.ensures.goes

pub returns-in-Ok-clause-answer : goal.returns-in-Ok-clause-answer
returns-in-Ok-clause-answer g c =
    let d = g.D.Disk in
    home_after d.known (d.cells c.cover_log.new.store.disk) c.cover_log.result (state_of c.args.store.now) (state_of c.write_back.new.self) (state_of c.cover_log.new.store)
    (d.fault_count c.args.store.now.disk) (d.fault_count c.write_back.new.self.disk) (d.fault_count c.cover_log.new.store.disk) c.in-Ok.ensures.count c.in-Ok.ensures.up c.cover_log.ensures.answer

pub returns-in-Ok-clause-arming : goal.returns-in-Ok-clause-arming
returns-in-Ok-clause-arming g c =
    let d = g.D.Disk in
    IsAfterWrites-both (d.arming c.args.store.now.disk) (d.arming c.write_back.new.self.disk) (d.arming c.cover_log.new.store.disk) c.write_back.ensures.arming c.cover_log.ensures.arming

pub returns-in-Err-clause-goes : goal.returns-in-Err-clause-goes
returns-in-Err-clause-goes g c =
    let d = g.D.Disk in
    store_moves c.logs_move_on.ensures c.logs_leave_first_changes.ensures d.known d.cells d.sector_count d.moment d.left_since c.args.store.now c.write_back.new.self c.write_back.ensures.goes

pub returns-then-not-dirty-clause-down_behind : goal.returns-then-not-dirty-clause-down_behind
returns-then-not-dirty-clause-down_behind g c = idle_behind (state_of c.args.store.now) c.told_state.result c.told_state.ensures
