use Rattle.std.proofs.Common.{ap, ◌∙◌}
use Rattle.disk_model.specs.MemoryDisk.{cells_of}
use Rattle.tests_log.proofs.stores.failing_store.Goals as goal

pub store_on-requires-clause-cells : goal.store_on-requires-clause-cells
store_on-requires-clause-cells c = λ known. ap cells_of (c.new-disk.ensures.inner ∙ c.in_ok-empty_disk.ensures)
