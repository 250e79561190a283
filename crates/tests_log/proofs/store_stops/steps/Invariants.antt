use Rattle.tests_log.specs.Stores.{IsSet}
use Rattle.tests_log.proofs.store_stops.steps.Given as goal

abbrev pub invariant-loop-used : goal.invariant-loop-used
invariant-loop-used g l = IsSet g.D.Disk.known g.D.Disk.cells g.D.Disk.sector_count l.store
