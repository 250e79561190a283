use Rattle.std.proofs.Common.{rules}
use Rattle.disk_model.proofs.Passing.{IsPartlyWritten-passes, Elapses-take}
use Rattle.disk_model.proofs.Replay.{IsPartlyWritten-none}
use Rattle.disk_model.proofs.stop_disk.StopDiskDisk.write.Goals as goal

pub returns-in_err-go_on-clause-failed : goal.returns-in_err-go_on-clause-failed
returns-in_err-go_on-clause-failed g c known = search (rules, IsPartlyWritten-none)

pub returns-in-Some-clause-failed : goal.returns-in-Some-clause-failed
returns-in-Some-clause-failed g c known =
    rw (← c.go_on.ensures.inner) (IsPartlyWritten-passes _ c.args.at c.args.pieces.now _ _ _ _ (c.stop_behind.ensures.passes known))

pub returns-in-Some-clause-time : goal.returns-in-Some-clause-time
returns-in-Some-clause-time g c known =
    rw (← c.go_on.ensures.inner) (Elapses-take _ c.args.at c.args.pieces.now _ _ _ _ _ (c.stop_behind.ensures.time known))
