use Rattle.mount.proofs.Outcomes.{no_fault_of}
use Rattle.mount.proofs.loading.load_groups.Goals as goal

pub returns-clause-read_fault : goal.returns-clause-read_fault
returns-clause-read_fault g c = no_fault_of c.load_checked.result (g.D.Disk.fault_count c.args.disk.now) (g.D.Disk.fault_count c.keep_disk.new.disk) c.load_checked.ensures.cause
