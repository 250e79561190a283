use Rattle.tests_log.specs.Stores.{IsReady}
use Rattle.tests_log.proofs.store_stops.run.Given as goal

abbrev pub invariant-loop-at : goal.invariant-loop-at
invariant-loop-at g l = IsReady g.D.Disk.known g.D.Disk.cells g.D.Disk.sector_count l.store
