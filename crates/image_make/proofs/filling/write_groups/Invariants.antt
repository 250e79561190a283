use Rattle.std.specs.Prelude.{IsTrue}
use Rattle.life_ports.specs.Faults.{NeverFalls}
use Rattle.disk_model.specs.Disk.{CallKind, as_read}
use Rattle.image_make.specs.Empty.{AreMade}
use Rattle.image_make.specs.Outcome.{IsBlank, LeavesOnly}
use Rattle.image_make.proofs.filling.write_groups.Given as goal

abbrev pub invariant-loop-group : goal.invariant-loop-group
invariant-loop-group g l = record {
  leaves : LeavesOnly g.D.Disk.known g.D.Disk.cells g.D.Disk.sector_count g.D.Disk.moment g.D.Disk.arming g.D.Disk.left_since IsBlank l.fn.disk l.disk;
  made : IsTrue g.D.Disk.known → AreMade l.g l.group (as_read (g.D.Disk.cells l.disk));
  count : NeverFalls (g.D.Disk.fault_count l.fn.disk) (g.D.Disk.fault_count l.disk);
  kind : (kind : CallKind) → g.D.Disk.only_failed kind l.fn.disk l.disk;
}
