use Rattle.std.proofs.Common.{◌≡◌, ◌+◌, ℕ, IsTrue, List, length}
use Rattle.life_bytes.specs.declared.sector.Sector.{Sector}
use Rattle.life_ports.specs.Faults.{NeverFalls}
use Rattle.disk_model.specs.Disk.{Elapses, HasOneImage, IsImage, as_read}
use Rattle.log_image.specs.Overlay.{overlaid}
use Rattle.recovery.specs.Homes.{images_in}
use Rattle.disk_model.specs.Disk.{after_writes}
use Rattle.recovery.specs.Put.{IsPartlyPut}
use Rattle.recovery.proofs.Puts.{AreLeft}
use Rattle.recovery.proofs.homes.HomeImages.write_home.Given as goal

abbrev pub invariant-loop-home : goal.invariant-loop-home
invariant-loop-home g l = record {
  rest : AreLeft l.self (g.D.Disk.sector_count l.disk) l.home-iterator;
  sectors : g.D.Disk.sector_count l.disk ≡ g.D.Disk.sector_count l.fn.disk;
  count : NeverFalls (g.D.Disk.fault_count l.fn.disk) (g.D.Disk.fault_count l.disk);
  armed : (made : ℕ) × (made + length l.home-iterator ≡ length l.self) × (g.D.Disk.arming l.disk ≡ after_writes made (g.D.Disk.arming l.fn.disk));
  reads : IsTrue g.D.Disk.known → overlaid (as_read (g.D.Disk.cells l.disk)) (images_in l.home-iterator) ≡ overlaid (as_read (g.D.Disk.cells l.fn.disk)) l.self;
  left : IsTrue g.D.Disk.known → HasOneImage (g.D.Disk.cells l.fn.disk) → (image : List Sector) → IsImage (g.D.Disk.cells l.disk) image
      → IsPartlyPut l.self (as_read (g.D.Disk.cells l.fn.disk)) image;
  time : IsTrue g.D.Disk.known → HasOneImage (g.D.Disk.cells l.fn.disk) → Elapses (g.D.Disk.moment l.fn.disk) (g.D.Disk.moment l.disk)
      (g.D.Disk.left_since l.fn.disk) (g.D.Disk.left_since l.disk) (IsPartlyPut l.self (as_read (g.D.Disk.cells l.fn.disk)));
}
