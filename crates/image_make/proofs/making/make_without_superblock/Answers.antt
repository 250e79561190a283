use Rattle.std.proofs.Common.{◌∙◌, List, sym, ap, subst}
use Rattle.disk_model.specs.Disk.{Cell, HasOneImage, as_read}
use Rattle.disk_model.specs.DiskLaws.{HasOneImage-flushed, as_read-flushed}
use Rattle.image_make.specs.Empty.{AwaitsSuperblock}
use Rattle.image_make.proofs.making.make_without_superblock.Goals as goal

pub returns-clause-made : goal.returns-clause-made
returns-clause-made g c = λ tells.
    let cells : List Cell = g.D.Disk.cells c.write_without_superblock.new.disk in
    let is = c.in-Ok-flush.ensures.flushed tells in (
      subst HasOneImage (sym is) (HasOneImage-flushed cells),
      subst (AwaitsSuperblock c.args.g.now) (sym (ap as_read is ∙ as_read-flushed cells)) (c.in-Ok.ensures.made tells),
    )
