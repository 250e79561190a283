use Rattle.disk_model.specs.DiskLaws.{IsAfterWrites-both}
use Rattle.mount.proofs.Going.{goes_both}
use Rattle.mount.proofs.homing.cover_home.Goals as goal

pub returns-in-Ok-clause-goes : goal.returns-in-Ok-clause-goes
returns-in-Ok-clause-goes g c =
    let d = g.D.Disk in
    goes_both d.known d.cells d.sector_count d.moment d.left_since c.args.store.now c.write_back.new.self c.cover.new.self c.in-Ok.ensures.goes c.cover.ensures.goes

pub returns-in-Ok-clause-arming : goal.returns-in-Ok-clause-arming
returns-in-Ok-clause-arming g c =
    let d = g.D.Disk in
    IsAfterWrites-both (d.arming c.args.store.now.disk) (d.arming c.write_back.new.self.disk) (d.arming c.cover.new.self.disk) c.in-Ok.ensures.arming c.cover.ensures.arming
