use Rattle.std.proofs.Common.{◌≡◌, List, Err, refl, sym, ap, subst, ◌∙◌}
use Rattle.life_bytes.specs.declared.sector.Sector.{Sector}
use Rattle.disk_model.specs.Disk.{HasOneImage, as_read, flushed}
use Rattle.disk_model.specs.DiskLaws.{HasOneImage-flushed, IsImage-as_read}
use Rattle.geometry.specs.Places.{anchor_of}
use Rattle.recovery.specs.declared.start.ReplayFault.TheVariants.{PositionEnd}
use Rattle.recovery.specs.Found.{LogIsFound}
use Rattle.recovery.specs.Replay.{IsOfReplay}
use Rattle.mount.specs.declared.recovering.Recovery.{Recovery}
use Rattle.mount.specs.Faults.{IsMountCause, of_replay}
use Rattle.mount.proofs.Recovers.{Inspected, flushed_reads, recovered_as, replay_too, replayed_back, replayed_cause, same_as}
use Rattle.mount.proofs.Results.{passed_back, passed_up, same_fault}
use Rattle.mount.proofs.recovering.recover.Goals as goal

pub replay-requires-clause-found : goal.replay-requires-clause-found
replay-requires-clause-found g c = λ known.
    let d = g.D.Disk in
    let found = c.in_ok-found.found in
    let same = flushed_reads (d.cells c.args.disk.now) (d.cells c.inspect_with_log.new.disk) (d.cells c.flush.new.self) c.in_ok-found.ensures.only_reads.cells_stay (c.in-Ok.ensures.flushed known) in
    subst (λ (l : List Sector). LogIsFound l (anchor_of found.geometry) found.geometry.ring found.log) (sym same) (c.in_ok-found.ensures.log known)

pub replay-requires-clause-one : goal.replay-requires-clause-one
replay-requires-clause-one g c = λ known.
    let d = g.D.Disk in
    subst HasOneImage (sym (c.in-Ok.ensures.flushed known)) (HasOneImage-flushed (d.cells c.inspect_with_log.new.disk))

pub returns-in_err-start-clause-every_moment : goal.returns-in_err-start-clause-every_moment
returns-in_err-start-clause-every_moment g c = λ known.
    let d = g.D.Disk in
    let a = c.args.disk.now in
    let b = c.inspect_with_log.new.disk in
    let m = c.flush.new.self in
    let e = c.replay.new.disk in
    let found = c.in_ok-found.found in
    let reads = c.in_ok-found.ensures.only_reads in
    let same = flushed_reads (d.cells a) (d.cells b) (d.cells m) reads.cells_stay (c.in-Ok.ensures.flushed known) in
    let is : Inspected (as_read (d.cells a)) found.geometry found.tables found.log =
    record { sound = c.in_ok-found.ensures.sound known; log = c.in_ok-found.ensures.log known; homes = c.in_ok-found.ensures.homes } in
    replay_too (d.moment a) (d.moment b) (d.moment m) (d.moment e) (d.left_since a) (d.left_since b) (d.left_since m) (d.left_since e) (d.cells a) (d.cells b)
    (IsOfReplay (anchor_of found.geometry) found.geometry.ring found.log (as_read (d.cells m))) (reads.time known) reads.cells_stay (c.in-Ok.ensures.time known)
    (c.in_err-start.ensures.time known)
    (λ image left. same_as c.replays_keep_the_table.ensures.left (as_read (d.cells a)) (as_read (d.cells m)) image found.geometry found.tables found.log is same left)

pub returns-in_err-start-clause-handed_back : goal.returns-in_err-start-clause-handed_back
returns-in_err-start-clause-handed_back g c = λ known.
    let d = g.D.Disk in
    let a = c.args.disk.now in
    let b = c.inspect_with_log.new.disk in
    let m = c.flush.new.self in
    let e = c.replay.new.disk in
    let found = c.in_ok-found.found in
    let reads = c.in_ok-found.ensures.only_reads in
    let flush : d.cells m ≡ flushed (d.cells b) = c.in-Ok.ensures.flushed known in
    let same = flushed_reads (d.cells a) (d.cells b) (d.cells m) reads.cells_stay flush in
    let is : Inspected (as_read (d.cells a)) found.geometry found.tables found.log =
    record { sound = c.in_ok-found.ensures.sound known; log = c.in_ok-found.ensures.log known; homes = c.in_ok-found.ensures.homes } in
    passed_back c.from_residual-in_err-start.result (of_replay c.in_err-start.field-0.0) (d.cells a) (d.cells e) c.from_residual-in_err-start.ensures.1
    (replayed_back Recovery c.in_err-start.field-0.0 (d.cells a) (d.cells m) (d.cells e) (flush ∙ ap flushed reads.cells_stay)
    (λ end. ap d.cells (c.in_err-start.ensures.untouched (ap (λ e. Err e) end)))
    (λ image left. same_as c.replays_keep_the_table.ensures.left (as_read (d.cells a)) (as_read (d.cells m)) image found.geometry found.tables found.log is same
    (c.in_err-start.ensures.left known image left)))

pub returns-in_err-start-clause-cause : goal.returns-in_err-start-clause-cause
returns-in_err-start-clause-cause g c = λ known.
    let d = g.D.Disk in
    let a = c.args.disk.now in
    let found = c.in_ok-found.found in
    let is : Inspected (as_read (d.cells a)) found.geometry found.tables found.log =
    record { sound = c.in_ok-found.ensures.sound known; log = c.in_ok-found.ensures.log known; homes = c.in_ok-found.ensures.homes } in
    passed_up c.from_residual-in_err-start.result (of_replay c.in_err-start.field-0.0) (IsMountCause (as_read (d.cells a))) c.from_residual-in_err-start.ensures.1
    (replayed_cause c.positions_are_told.ensures (as_read (d.cells a)) found.geometry found.tables found.log c.in_err-start.field-0.0 is
    (λ end. c.in_err-start.ensures.position_end.0 (ap (λ e. Err e) end))
    (λ used. same_fault c.in_err-start.field-0.0 PositionEnd (Err c.in_err-start.field-0.0) (c.in_err-start.ensures.position_end.1 used) refl))

pub returns-clause-recovered : goal.returns-clause-recovered
returns-clause-recovered g c = λ known.
    let d = g.D.Disk in
    let a = c.args.disk.now in
    let m = c.flush.new.self in
    let e = c.replay.new.disk in
    let found = c.in_ok-found.found in
    let same = flushed_reads (d.cells a) (d.cells c.inspect_with_log.new.disk) (d.cells m) c.in_ok-found.ensures.only_reads.cells_stay (c.in-Ok.ensures.flushed known) in
    let is : Inspected (as_read (d.cells a)) found.geometry found.tables found.log =
    record { sound = c.in_ok-found.ensures.sound known; log = c.in_ok-found.ensures.log known; homes = c.in_ok-found.ensures.homes } in
    recovered_as c.replays_keep_the_table.ensures.recovered (as_read (d.cells a)) (as_read (d.cells m)) found.geometry found.tables found.log c.in_ok-start.start (d.cells e) is same
    (c.in_ok-start.ensures.left known (as_read (d.cells e)) (IsImage-as_read (d.cells e))) c.in_ok-start.ensures.start (c.in_ok-start.ensures.anew known)

pub returns-clause-every_moment : goal.returns-clause-every_moment
returns-clause-every_moment g c = λ known.
    let d = g.D.Disk in
    let a = c.args.disk.now in
    let b = c.inspect_with_log.new.disk in
    let m = c.flush.new.self in
    let e = c.replay.new.disk in
    let found = c.in_ok-found.found in
    let reads = c.in_ok-found.ensures.only_reads in
    let same = flushed_reads (d.cells a) (d.cells b) (d.cells m) reads.cells_stay (c.in-Ok.ensures.flushed known) in
    let is : Inspected (as_read (d.cells a)) found.geometry found.tables found.log =
    record { sound = c.in_ok-found.ensures.sound known; log = c.in_ok-found.ensures.log known; homes = c.in_ok-found.ensures.homes } in
    replay_too (d.moment a) (d.moment b) (d.moment m) (d.moment e) (d.left_since a) (d.left_since b) (d.left_since m) (d.left_since e) (d.cells a) (d.cells b)
    (IsOfReplay (anchor_of found.geometry) found.geometry.ring found.log (as_read (d.cells m))) (reads.time known) reads.cells_stay (c.in-Ok.ensures.time known)
    (c.in_ok-start.ensures.time known)
    (λ image left. same_as c.replays_keep_the_table.ensures.left (as_read (d.cells a)) (as_read (d.cells m)) image found.geometry found.tables found.log is same left)

pub returns-clause-handed_back : goal.returns-clause-handed_back
returns-clause-handed_back g c = λ known image left.
    let d = g.D.Disk in
    let a = c.args.disk.now in
    let m = c.flush.new.self in
    let found = c.in_ok-found.found in
    let same = flushed_reads (d.cells a) (d.cells c.inspect_with_log.new.disk) (d.cells m) c.in_ok-found.ensures.only_reads.cells_stay (c.in-Ok.ensures.flushed known) in
    let is : Inspected (as_read (d.cells a)) found.geometry found.tables found.log =
    record { sound = c.in_ok-found.ensures.sound known; log = c.in_ok-found.ensures.log known; homes = c.in_ok-found.ensures.homes } in
    same_as c.replays_keep_the_table.ensures.left (as_read (d.cells a)) (as_read (d.cells m)) image found.geometry found.tables found.log is same
    (c.in_ok-start.ensures.left known image left)
