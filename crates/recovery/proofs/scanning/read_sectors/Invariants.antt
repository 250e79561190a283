use Rattle.std.proofs.Common.{◌≡◌, IsTrue, length, take, drop}
use Rattle.disk_model.specs.Disk.{as_read}
use Rattle.disk_model.specs.View.{OnlyRead}
use Rattle.recovery.proofs.scanning.read_sectors.Given as goal

abbrev pub invariant-loop-i : goal.invariant-loop-i
invariant-loop-i g l = record {
  only : OnlyRead g.D.Disk.known g.D.Disk.cells g.D.Disk.sector_count g.D.Disk.fault_count g.D.Disk.arming g.D.Disk.moment g.D.Disk.left_since l.fn.disk l.disk;
  size : length l.read.items ≡ l.i;
  read : IsTrue g.D.Disk.known → l.read.items ≡ take l.i (drop l.from (as_read (g.D.Disk.cells l.fn.disk)));
}
