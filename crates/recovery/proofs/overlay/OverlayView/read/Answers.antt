use Rattle.std.proofs.Common.{◌<◌, length, ap, sym, ◌∙◌, arith}
use Rattle.std.specs.Option.{option_copied}
use Rattle.disk_model.specs.Disk.{as_read}
use Rattle.disk_model.specs.DiskLaws.{length-as_read}
use Rattle.recovery.proofs.Shown.{overlaid_other, overlaid_some}
use Rattle.recovery.proofs.overlay.OverlayView.read.Goals as goal

pub returns-in-Some-clause-read : goal.returns-in-Some-clause-read
returns-in-Some-clause-read g c known =
    let cells = g.D.Disk.cells c.args.self.now.disk.now in
    let within : c.args.at < length (as_read cells) =
    omega (arith, c.requires, length-as_read cells, g.met.D.Disk.cells_fit known c.args.self.now.disk.now) in
    overlaid_some (as_read cells) c.args.self.now.found.now.images c.args.at c.in-Some.sector.now within (sym c.in-Some.ensures)

pub returns-clause-read : goal.returns-clause-read
returns-clause-read g c known =
    let cells = g.D.Disk.cells c.args.self.now.disk.now in
    overlaid_other (as_read cells) c.args.self.now.found.now.images c.args.at c.read.new.into c.read.result
    (sym c.get.ensures ∙ ap option_copied c.in_default.is) (c.read.ensures.read known)
