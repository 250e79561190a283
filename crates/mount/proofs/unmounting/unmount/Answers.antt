use Rattle.std.proofs.Common.{refl}
use Rattle.mount.proofs.Ends.{Laws, images_left, moments_left, whole_left}
use Rattle.mount.proofs.unmounting.unmount.Goals as goal

pub returns-in-Ok-clause-every_moment : goal.returns-in-Ok-clause-every_moment
returns-in-Ok-clause-every_moment g c =
    let d = g.D.Disk in
    let laws : Laws = record { same = c.calls_leave_prefixes.ensures.same; earlier = c.calls_leave_prefixes.ensures.earlier; all = c.calls_leave_prefixes.ensures.all } in
    moments_left laws d.known d.cells d.sector_count d.moment d.left_since c.args.mounted.store c.bring_home-home.new.store c.into_disk.result c.into_disk.ensures c.bring_home-home.ensures.goes

pub returns-in-Ok-clause-left : goal.returns-in-Ok-clause-left
returns-in-Ok-clause-left g c = λ known.
    let d = g.D.Disk in
    let laws : Laws = record { same = c.calls_leave_prefixes.ensures.same; earlier = c.calls_leave_prefixes.ensures.earlier; all = c.calls_leave_prefixes.ensures.all } in
    images_left laws d.known d.cells d.sector_count d.moment d.left_since c.args.mounted.store c.bring_home-home.new.store c.into_disk.result c.into_disk.ensures c.bring_home-home.ensures.goes
    (c.images_replay.ensures known) known

pub returns-in-Ok-clause-ended : goal.returns-in-Ok-clause-ended
returns-in-Ok-clause-ended g c = λ known.
    let d = g.D.Disk in
    let laws : Laws = record { same = c.calls_leave_prefixes.ensures.same; earlier = c.calls_leave_prefixes.ensures.earlier; all = c.calls_leave_prefixes.ensures.all } in
    whole_left laws d.known d.cells d.sector_count d.moment d.left_since c.args.mounted.store c.bring_home-home.new.store c.into_disk.result c.into_disk.ensures c.bring_home-home.ensures.goes
    (c.images_replay.ensures known) c.in-Ok.ensures.all (c.in-Ok.ensures.cover known) known

pub returns-in-Err-clause-every_moment : goal.returns-in-Err-clause-every_moment
returns-in-Err-clause-every_moment g c =
    let d = g.D.Disk in
    let laws : Laws = record { same = c.calls_leave_prefixes.ensures.same; earlier = c.calls_leave_prefixes.ensures.earlier; all = c.calls_leave_prefixes.ensures.all } in
    moments_left laws d.known d.cells d.sector_count d.moment d.left_since c.args.mounted.store c.bring_home-home.new.store c.bring_home-home.new.store.disk refl c.bring_home-home.ensures.goes

pub returns-in-Err-clause-left : goal.returns-in-Err-clause-left
returns-in-Err-clause-left g c = λ known.
    let d = g.D.Disk in
    let laws : Laws = record { same = c.calls_leave_prefixes.ensures.same; earlier = c.calls_leave_prefixes.ensures.earlier; all = c.calls_leave_prefixes.ensures.all } in
    images_left laws d.known d.cells d.sector_count d.moment d.left_since c.args.mounted.store c.bring_home-home.new.store c.bring_home-home.new.store.disk refl c.bring_home-home.ensures.goes
    (c.images_replay.ensures known) known
