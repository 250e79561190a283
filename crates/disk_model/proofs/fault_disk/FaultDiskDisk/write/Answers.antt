use Rattle.std.proofs.Common.{rules}
use Rattle.disk_model.proofs.Replay.{IsPartlyWritten-none}
use Rattle.disk_model.proofs.fault_disk.FaultDiskDisk.write.Goals as goal

pub returns-in_err-call-clause-failed : goal.returns-in_err-call-clause-failed
returns-in_err-call-clause-failed g c known = search (rules, IsPartlyWritten-none)
