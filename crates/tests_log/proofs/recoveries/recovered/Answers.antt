use Rattle.std.proofs.Common.{◌≡◌, List, ap, sym, subst, ◌∙◌}
use Rattle.geometry.specs.Places.{anchor_of}
use Rattle.life_bytes.specs.declared.sector.Sector.{Sector}
use Rattle.disk_model.specs.Disk.{HasOneImage, as_read}
use Rattle.disk_model.specs.DiskLaws.{HasOneImage-flushed, as_read-flushed}
use Rattle.recovery.specs.Found.{LogIsFound}
use Rattle.tests_log.proofs.recoveries.recovered.Goals as goal

pub replay-start-requires-clause-found : goal.replay-start-requires-clause-found
replay-start-requires-clause-found g c known =
    let d = g.D.Disk in
    let same : as_read (d.cells c.flush.new.self) ≡ as_read (d.cells c.args.disk.now) =
    ap as_read (c.in-Ok-flush.ensures.flushed known) ∙ as_read-flushed (d.cells c.scan.new.disk) ∙ ap as_read c.scan.ensures.only_reads.cells_stay in
    subst (λ (l : List Sector). LogIsFound l (anchor_of c.geometry-g.result) c.geometry-g.result.ring c.in-Ok.found) (sym same) (c.in-Ok.ensures.found known)

pub replay-start-requires-clause-one : goal.replay-start-requires-clause-one
replay-start-requires-clause-one g c known =
    subst HasOneImage (sym (c.in-Ok-flush.ensures.flushed known)) (HasOneImage-flushed (g.D.Disk.cells c.scan.new.disk))
