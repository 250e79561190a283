use Rattle.std.proofs.Common.{◌≡◌, ◌+◌, ◌∙◌, ap, slice_get, IsTrue}
use Rattle.disk_model.specs.Disk.{as_read}
use Rattle.disk_file.proofs.Flushes.{reads_stay}
use Rattle.disk_file.proofs.window_disk.WindowDiskDisk.flush.Goals as goal

pub invariant_of-self : goal.invariant_of-self
invariant_of-self g c =
    let stay : IsTrue g.D.Disk.known → as_read (g.D.Disk.cells c.flush.new.self) ≡ as_read (g.D.Disk.cells c.self.inside.inner) = λ known.
    reads_stay c.flush.result (g.D.Disk.cells c.self.inside.inner) (g.D.Disk.cells c.flush.new.self) (c.flush.ensures.flushed known) c.flush.ensures.failed in (
      c.self.invariant.0,
      c.self.invariant.1,
      λ known i less.
          ap (λ image. slice_get image (c.self.inside.first + i)) (stay known) ∙ c.self.invariant.2 known i less,
    )
