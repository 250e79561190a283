use Rattle.std.proofs.Common.{◌≡◌, ◌+◌, length, arith}
use Rattle.disk_model.specs.DiskLaws.{IsAfterWrites-both}
use Rattle.mount.proofs.Bringing.{all_durable, cover_of}
use Rattle.mount.proofs.Going.{goes_both}
use Rattle.mount.proofs.homing.bring_home.Goals as goal

pub returns-in-Ok-clause-goes : goal.returns-in-Ok-clause-goes
returns-in-Ok-clause-goes g c =
    let d = g.D.Disk in
    goes_both d.known d.cells d.sector_count d.moment d.left_since c.args.store.now c.force.new.self c.cover_home.new.store c.in-Ok.ensures.goes c.cover_home.ensures.goes

pub returns-in-Ok-clause-cover : goal.returns-in-Ok-clause-cover
returns-in-Ok-clause-cover g c = λ tells.
    let old = c.args.store.now in
    let mid = c.force.new.self in
    let moves = c.in-Ok.ensures.goes.moves in
    let all = all_durable moves.count old.queue.items mid.queue.items moves.within moves.list c.in-Ok.ensures.all in
    let number : mid.durable + 1 ≡ old.durable + length old.queue.items + 1 = omega (arith, moves.durable, all) in
    cover_of c.cover_home.result (g.D.Disk.cells c.cover_home.new.store.disk) old.anchor old.ring (old.durable + length old.queue.items + 1) mid.anchor mid.ring (mid.durable + 1)
    moves.anchor moves.ring number (c.cover_home.ensures.cover tells)

pub returns-in-Ok-clause-arming : goal.returns-in-Ok-clause-arming
returns-in-Ok-clause-arming g c =
    let d = g.D.Disk in
    IsAfterWrites-both (d.arming c.args.store.now.disk) (d.arming c.force.new.self.disk) (d.arming c.cover_home.new.store.disk) c.in-Ok.ensures.arming c.cover_home.ensures.arming
