use Rattle.std.proofs.Common.{length, true}
use Rattle.disk_model.specs.MemoryDisk.{cells_of}
use Rattle.tests_log.specs.Stores.{IsReady}
use Rattle.tests_log.proofs.stores.a_thousand_forces_go_round_the_ring.Given as goal

abbrev pub invariant-loop-i : goal.invariant-loop-i
invariant-loop-i g l = IsReady true cells_of (λ disk. length (cells_of disk)) l.store
