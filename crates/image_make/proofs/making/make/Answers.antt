use Rattle.image_make.specs.Outcome.{IsBlank, IsBlankOrEmpty}
use Rattle.image_make.proofs.Leaving.{failed_from, leaves_both, leaves_weaker}
use Rattle.image_make.proofs.Sectors.{begins_blank, begins_unmade}
use Rattle.image_make.proofs.making.make.Goals as goal

pub make_without_superblock-requires-clause-blank : goal.make_without_superblock-requires-clause-blank
make_without_superblock-requires-clause-blank g c = λ tells. begins_blank (g.D.Disk.sector_count c.args.disk.now) (g.D.Disk.cells c.args.disk.now) (c.requires.blank tells)

pub make_without_superblock-requires-clause-zero : goal.make_without_superblock-requires-clause-zero
make_without_superblock-requires-clause-zero g c = λ tells.
    begins_unmade c.args.g.now (g.D.Disk.sector_count c.args.disk.now) (g.D.Disk.cells c.args.disk.now) c.requires.size (c.requires.blank tells)

pub returns-in_err-make_without_superblock-clause-leaves : goal.returns-in_err-make_without_superblock-clause-leaves
returns-in_err-make_without_superblock-clause-leaves g c =
    leaves_weaker g.D.Disk.known g.D.Disk.cells g.D.Disk.sector_count g.D.Disk.moment g.D.Disk.arming g.D.Disk.left_since IsBlank (IsBlankOrEmpty c.args.g.now) c.args.disk.now
    c.make_without_superblock.new.disk (c.made_images.ensures.blank c.args.g.now) c.make_without_superblock.ensures.leaves

pub returns-clause-leaves : goal.returns-clause-leaves
returns-clause-leaves g c =
    leaves_both g.D.Disk.known g.D.Disk.cells g.D.Disk.sector_count g.D.Disk.moment g.D.Disk.arming g.D.Disk.left_since (IsBlankOrEmpty c.args.g.now) c.args.disk.now c.make_without_superblock.new.disk
    c.finish.new.disk
    (leaves_weaker g.D.Disk.known g.D.Disk.cells g.D.Disk.sector_count g.D.Disk.moment g.D.Disk.arming g.D.Disk.left_since IsBlank (IsBlankOrEmpty c.args.g.now) c.args.disk.now
    c.make_without_superblock.new.disk (c.made_images.ensures.blank c.args.g.now) c.make_without_superblock.ensures.leaves)
    c.finish.ensures.leaves

pub returns-clause-kind : goal.returns-clause-kind
returns-clause-kind g c =
    failed_from c.finish.result (λ kind. g.D.Disk.only_failed kind c.make_without_superblock.new.disk c.finish.new.disk)
    (λ kind. g.D.Disk.only_failed kind c.args.disk.now c.finish.new.disk)
    (λ kind. g.met.D.Disk.both_failed kind c.args.disk.now c.make_without_superblock.new.disk c.finish.new.disk (c.in_ok-make_without_superblock.ensures.kind kind))
    c.finish.ensures.kind
