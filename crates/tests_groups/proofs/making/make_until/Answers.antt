use Rattle.std.proofs.Common.{◌≡◌, length, replicate, sym, subst}
use Rattle.life_bytes.specs.Sectors.{zero_sector}
use Rattle.disk_model.specs.Disk.{settled_as}
use Rattle.disk_model.specs.MemoryDisk.{DiskRecord, cells_of}
use Rattle.tests_groups.proofs.making.make_until.Goals as goal

pub make-result-requires-clause-blank : goal.make-result-requires-clause-blank
make-result-requires-clause-blank c = λ tells.
    subst (λ (d : DiskRecord). cells_of d ≡ settled_as (replicate (length (cells_of d)) zero_sector)) (sym c.new-disk.ensures.inner) c.in_ok-blank.ensures.blank
