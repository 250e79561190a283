use Rattle.std.proofs.Common.{◌∙◌, List, [], ◌∷◌, sym, ap, subst}
use Rattle.disk_model.specs.Disk.{Cell, HasOneImage, as_read}
use Rattle.disk_model.specs.DiskLaws.{HasOneImage-flushed, as_read-flushed}
use Rattle.image_make.specs.Outcome.{IsBlankOrEmpty, IsEmptyImage, LeavesOnly}
use Rattle.image_make.proofs.Leaving.{leaves_both, leaves_flush, leaves_write}
use Rattle.image_make.proofs.Super.{left, read}
use Rattle.image_make.proofs.making.finish.Goals as goal

pub returns-in_default-clause-leaves : goal.returns-in_default-clause-leaves
returns-in_default-clause-leaves g c =
    let sector = c.write_super.new.into in
    leaves_write g.D.Disk.known g.D.Disk.cells g.D.Disk.sector_count g.D.Disk.moment g.D.Disk.arming g.D.Disk.left_since (IsBlankOrEmpty c.args.g.now) c.args.disk.now c.write.new.self
    c.write.result 0 (sector ∷ []) c.write.ensures.written c.write.ensures.failed c.write.ensures.time c.write.ensures.sectors c.write.ensures.arming
    (λ tells image is. left (record { blank = c.made_images.ensures.blank; finished = c.made_images.ensures.finished }) c.args.g.now sector (g.D.Disk.cells c.args.disk.now) image c.requires.shape
    c.write_super.ensures (c.requires.one tells) (c.requires.awaits tells) is)

pub returns-in_default-flush-clause-leaves : goal.returns-in_default-flush-clause-leaves
returns-in_default-flush-clause-leaves g c =
    let sector = c.write_super.new.into in
    let first : LeavesOnly g.D.Disk.known g.D.Disk.cells g.D.Disk.sector_count g.D.Disk.moment g.D.Disk.arming g.D.Disk.left_since (IsBlankOrEmpty c.args.g.now) c.args.disk.now c.write.new.self =
    leaves_write g.D.Disk.known g.D.Disk.cells g.D.Disk.sector_count g.D.Disk.moment g.D.Disk.arming g.D.Disk.left_since (IsBlankOrEmpty c.args.g.now) c.args.disk.now c.write.new.self
    c.write.result 0 (sector ∷ []) c.write.ensures.written c.write.ensures.failed c.write.ensures.time c.write.ensures.sectors c.write.ensures.arming
    (λ tells image is. left (record { blank = c.made_images.ensures.blank; finished = c.made_images.ensures.finished }) c.args.g.now sector (g.D.Disk.cells c.args.disk.now) image c.requires.shape
    c.write_super.ensures (c.requires.one tells) (c.requires.awaits tells) is) in
    leaves_both g.D.Disk.known g.D.Disk.cells g.D.Disk.sector_count g.D.Disk.moment g.D.Disk.arming g.D.Disk.left_since (IsBlankOrEmpty c.args.g.now) c.args.disk.now c.write.new.self c.flush.new.self
    first
    (leaves_flush g.D.Disk.known g.D.Disk.cells g.D.Disk.sector_count g.D.Disk.moment g.D.Disk.arming g.D.Disk.left_since (IsBlankOrEmpty c.args.g.now) c.write.new.self c.flush.new.self
    c.flush.result c.flush.ensures.flushed c.flush.ensures.failed c.flush.ensures.time c.flush.ensures.sectors c.flush.ensures.arming first.images)

pub returns-in_default-flush-clause-flush_fault : goal.returns-in_default-flush-clause-flush_fault
returns-in_default-flush-clause-flush_fault g c = λ tells same.
    read (record { blank = c.made_images.ensures.blank; finished = c.made_images.ensures.finished }) c.args.g.now c.write_super.new.into (g.D.Disk.cells c.args.disk.now) (g.D.Disk.cells c.flush.new.self)
    c.requires.shape c.write_super.ensures (c.requires.awaits tells) (c.in_default-flush.ensures.failed ∙ c.in-Ok.ensures.written tells)

pub returns-clause-leaves : goal.returns-clause-leaves
returns-clause-leaves g c =
    let sector = c.write_super.new.into in
    let first : LeavesOnly g.D.Disk.known g.D.Disk.cells g.D.Disk.sector_count g.D.Disk.moment g.D.Disk.arming g.D.Disk.left_since (IsBlankOrEmpty c.args.g.now) c.args.disk.now c.write.new.self =
    leaves_write g.D.Disk.known g.D.Disk.cells g.D.Disk.sector_count g.D.Disk.moment g.D.Disk.arming g.D.Disk.left_since (IsBlankOrEmpty c.args.g.now) c.args.disk.now c.write.new.self
    c.write.result 0 (sector ∷ []) c.write.ensures.written c.write.ensures.failed c.write.ensures.time c.write.ensures.sectors c.write.ensures.arming
    (λ tells image is. left (record { blank = c.made_images.ensures.blank; finished = c.made_images.ensures.finished }) c.args.g.now sector (g.D.Disk.cells c.args.disk.now) image c.requires.shape
    c.write_super.ensures (c.requires.one tells) (c.requires.awaits tells) is) in
    leaves_both g.D.Disk.known g.D.Disk.cells g.D.Disk.sector_count g.D.Disk.moment g.D.Disk.arming g.D.Disk.left_since (IsBlankOrEmpty c.args.g.now) c.args.disk.now c.write.new.self c.flush.new.self
    first
    (leaves_flush g.D.Disk.known g.D.Disk.cells g.D.Disk.sector_count g.D.Disk.moment g.D.Disk.arming g.D.Disk.left_since (IsBlankOrEmpty c.args.g.now) c.write.new.self c.flush.new.self
    c.flush.result c.flush.ensures.flushed c.flush.ensures.failed c.flush.ensures.time c.flush.ensures.sectors c.flush.ensures.arming first.images)

pub returns-clause-made : goal.returns-clause-made
returns-clause-made g c = λ tells.
    let cells : List Cell = g.D.Disk.cells c.write.new.self in
    let is = c.in-Ok-flush.ensures.flushed tells in (
      subst HasOneImage (sym is) (HasOneImage-flushed cells),
      subst (IsEmptyImage c.args.g.now) (sym (ap as_read is ∙ as_read-flushed cells))
          (read (record { blank = c.made_images.ensures.blank; finished = c.made_images.ensures.finished }) c.args.g.now c.write_super.new.into (g.D.Disk.cells c.args.disk.now) cells
          c.requires.shape c.write_super.ensures (c.requires.awaits tells) (c.in-Ok.ensures.written tells)),
    )
