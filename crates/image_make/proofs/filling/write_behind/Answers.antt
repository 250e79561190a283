use Rattle.std.proofs.Common.{arith}
use Rattle.image_make.specs.Outcome.{IsBlank}
use Rattle.image_make.proofs.Leaving.{leaves_write}
use Rattle.image_make.proofs.Sectors.{blank_written, read_after}
use Rattle.image_make.proofs.filling.write_behind.Goals as goal

pub returns-clause-leaves : goal.returns-clause-leaves
returns-clause-leaves g c =
    leaves_write g.D.Disk.known g.D.Disk.cells g.D.Disk.sector_count g.D.Disk.moment g.D.Disk.arming g.D.Disk.left_since IsBlank c.args.disk.now c.write.new.self c.write.result
    c.args.at c.args.pieces.now c.write.ensures.written c.write.ensures.failed c.write.ensures.time c.write.ensures.sectors c.write.ensures.arming
    (λ tells image is. blank_written c.args.at c.args.pieces.now (g.D.Disk.cells c.args.disk.now) image c.requires.behind (c.requires.blank tells) is)

pub returns-clause-read : goal.returns-clause-read
returns-clause-read g c = λ tells.
    read_after c.write.result c.args.at c.args.pieces.now (g.D.Disk.cells c.args.disk.now) (g.D.Disk.cells c.write.new.self)
    (omega (arith, c.requires.within, g.met.D.Disk.cells_fit tells c.args.disk.now)) (c.write.ensures.written tells)
