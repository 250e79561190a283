use Rattle.std.proofs.Common.{sym}
use Rattle.log_store.proofs.Stepping.{home_images}
use Rattle.log_store.proofs.laws.home_ends_in_a_cover.Goals as goal

pub returns : goal.returns
returns g c = λ old new image store step is tells left.
    home_images g.D.Disk.known g.D.Disk.cells g.D.Disk.sector_count g.D.Disk.arming g.D.Disk.fault_count c.cover_flights.ensures.last old new image store step is tells
    (sym (g.met.D.Disk.cells_fit tells old.disk)) left
