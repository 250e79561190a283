use Rattle.std.proofs.Common.{ap, sym, subst, ◌∙◌}
use Rattle.disk_model.specs.Disk.{HasOneImage, as_read}
use Rattle.disk_model.specs.DiskLaws.{HasOneImage-flushed, as_read-flushed}
use Rattle.recovery.proofs.replaying.settle_home.Goals as goal

pub returns-clause-reads : goal.returns-clause-reads
returns-clause-reads g c known =
    ap as_read (c.in-Ok-flush.ensures.flushed known) ∙ as_read-flushed (g.D.Disk.cells c.write_home.new.disk) ∙ c.in-Ok.ensures.reads known

pub returns-clause-one : goal.returns-clause-one
returns-clause-one g c known =
    subst HasOneImage (sym (c.in-Ok-flush.ensures.flushed known)) (HasOneImage-flushed (g.D.Disk.cells c.write_home.new.disk))
