use Rattle.run_mounts.proofs.Ended.{acknowledges_all, counted, ended_safe, put_back, same_replays, still_safe, still_up}
use Rattle.run_mounts.proofs.ending.end_mount.Goals as goal

pub returns-in-Ok-clause-safe : goal.returns-in-Ok-clause-safe
returns-in-Ok-clause-safe g c = λ tells first number past start t run.
    let d = g.D.Disk in
    let m = c.args.mounted in
    ended_safe c.ended_mounts_stand_safe.ensures c.ended_logs_leave_all_changes.ensures d.known d.cells d.sector_count first number past start t m c.acknowledging.result (d.cells c.in-Ok.disk) tells
    (acknowledges_all m.story c.acknowledging.result _ (counted d.known d.cells d.sector_count start t m c.next_commit.result run c.next_commit.ensures) c.acknowledging.ensures)
    (c.in-Ok.ensures.ended tells) run

pub returns-in-Err-clause-still : goal.returns-in-Err-clause-still
returns-in-Err-clause-still g c =
    let d = g.D.Disk in
    let keeps = c.in-Err.ensures.still in
    let is = put_back c.in-Err.still c.still_with.result c.args.mounted.story c.still_with.ensures in
    still_up c.logs_move_on.ensures d.known d.cells d.sector_count d.moment d.left_since c.args.mounted c.in-Err.still.mounted c.still_with.result.mounted
    keeps.groups keeps.geometry keeps.goes keeps.idle is

pub returns-in-Err-clause-safe : goal.returns-in-Err-clause-safe
returns-in-Err-clause-safe g c = λ tells first number past start t run.
    let d = g.D.Disk in
    let keeps = c.in-Err.ensures.still in
    let is = put_back c.in-Err.still c.still_with.result c.args.mounted.story c.still_with.ensures in
    let up = still_up c.logs_move_on.ensures d.known d.cells d.sector_count d.moment d.left_since c.args.mounted c.in-Err.still.mounted c.still_with.result.mounted
    keeps.groups keeps.geometry keeps.goes keeps.idle is in
    still_safe c.logs_leave_first_changes.ensures d.known d.cells d.sector_count first number past start t c.args.mounted c.still_with.result.mounted tells up run
    (same_replays d.cells c.in-Err.still.mounted c.still_with.result.mounted c.args.mounted.story is (c.images_replay.ensures tells))
