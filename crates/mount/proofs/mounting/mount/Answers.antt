use Rattle.std.proofs.Common.{◌∙◌, arith}
use Rattle.disk_model.specs.Disk.{as_read}
use Rattle.disk_model.specs.DiskLaws.{Elapses-weaker}
use Rattle.whole_image.specs.Damage.{IsSound}
use Rattle.mount.specs.Images.{IsLeftInMount}
use Rattle.mount.specs.Mounts.{disk_of}
use Rattle.mount.specs.Positions.{ArePositionsUsedUp}
use Rattle.mount.specs.Same.{IsLeftBy}
use Rattle.mount.proofs.Through.{comes_behind, comes_over, down_arms, down_begun, down_cause, down_left, if_ok, left_weaker, moments_mounted, up_arms, up_over}
use Rattle.mount.proofs.mounting.mount.Goals as goal

pub come_up-requires : goal.come_up-requires
come_up-requires g c =
    let said = c.in-Ok.ensures in
    record {
      shape = said.shape;
      size = said.size;
      position = said.position;
      number = said.number;
      anew = λ known. let r = said.recovered known in record { one = r.one; anchor = r.anchor; below = r.below };
    }

pub returns-in-Ok-clause-mounted : goal.returns-in-Ok-clause-mounted
returns-in-Ok-clause-mounted g c = λ known geometry t layouts next is.
    let d = g.D.Disk in
    let r = c.in-Ok.recovery in
    up_over d.cells geometry t layouts next c.come_up.result
    (comes_over c.recovered_disks_are_clean.ensures.clean d.cells (as_read (d.cells c.args.disk)) r.geometry r.start (d.cells c.recover.new.disk) c.come_up.result
    (c.in-Ok.ensures.recovered known) (c.come_up.ensures.comes_to known) geometry t layouts next is)

pub returns-in-Ok-clause-sound : goal.returns-in-Ok-clause-sound
returns-in-Ok-clause-sound g c = λ known.
    let image = as_read (g.D.Disk.cells c.args.disk) in
    if_ok (IsSound image × ¬ ArePositionsUsedUp image) c.come_up.result ((c.in-Ok.ensures.recovered known).was.sound, c.in-Ok.ensures.positions known)

pub returns-in-Ok-clause-every_moment : goal.returns-in-Ok-clause-every_moment
returns-in-Ok-clause-every_moment g c = λ known.
    let d = g.D.Disk in
    let r = c.in-Ok.recovery in
    moments_mounted c.recovered_disks_are_clean.ensures.clean d.cells d.moment d.left_since c.args.disk c.recover.new.disk (disk_of c.come_up.result) r.geometry r.start
    (c.recovered_disks_are_clean.ensures.same (as_read (d.cells c.args.disk))) (c.in-Ok.ensures.recovered known) (c.in-Ok.ensures.every_moment known) (c.come_up.ensures.every_moment known)

pub returns-in-Ok-clause-down : goal.returns-in-Ok-clause-down
returns-in-Ok-clause-down g c = λ known.
    let d = g.D.Disk in
    let r = c.in-Ok.recovery in
    let recovered = c.in-Ok.ensures.recovered known in
    down_left d.cells c.args.disk c.come_up.result recovered.was.sound
    (comes_over c.recovered_disks_are_clean.ensures.clean d.cells (as_read (d.cells c.args.disk)) r.geometry r.start (d.cells c.recover.new.disk) c.come_up.result recovered
    (c.come_up.ensures.comes_to known)) c.come_up.ensures.comes.begun

pub returns-in-Ok-clause-cause : goal.returns-in-Ok-clause-cause
returns-in-Ok-clause-cause g c = λ known.
    let d = g.D.Disk in
    let r = c.in-Ok.recovery in
    let recovered = c.in-Ok.ensures.recovered known in
    down_cause d.cells (as_read (d.cells c.args.disk)) r.geometry r.start (d.cells c.recover.new.disk) c.come_up.result recovered (c.in-Ok.ensures.positions known)
    (comes_over c.recovered_disks_are_clean.ensures.clean d.cells (as_read (d.cells c.args.disk)) r.geometry r.start (d.cells c.recover.new.disk) c.come_up.result recovered
    (c.come_up.ensures.comes_to known))

pub returns-in-Ok-clause-up : goal.returns-in-Ok-clause-up
returns-in-Ok-clause-up g c = c.come_up.ensures.comes.up

pub returns-in-Ok-clause-begun : goal.returns-in-Ok-clause-begun
returns-in-Ok-clause-begun g c = down_begun c.come_up.result c.come_up.ensures.comes.begun

pub returns-in-Ok-clause-device : goal.returns-in-Ok-clause-device
returns-in-Ok-clause-device g c =
    let d = g.D.Disk in
    let said = c.in-Ok.ensures in
    (comes_behind d.known d.cells d.sector_count d.fault_count d.arming c.args.disk c.recover.new.disk c.come_up.result said.sectors said.count said.writes c.come_up.ensures.comes).device

pub returns-in-Ok-clause-count : goal.returns-in-Ok-clause-count
returns-in-Ok-clause-count g c = omega (arith, c.in-Ok.ensures.count, c.come_up.ensures.comes.count)

pub returns-in-Ok-clause-sectors : goal.returns-in-Ok-clause-sectors
returns-in-Ok-clause-sectors g c = c.come_up.ensures.comes.sectors ∙ c.in-Ok.ensures.sectors

pub returns-in-Ok-clause-writes : goal.returns-in-Ok-clause-writes
returns-in-Ok-clause-writes g c =
    let d = g.D.Disk in
    let said = c.in-Ok.ensures in
    let all = comes_behind d.known d.cells d.sector_count d.fault_count d.arming c.args.disk c.recover.new.disk c.come_up.result said.sectors said.count said.writes c.come_up.ensures.comes in
    up_arms d.arming (d.arming c.args.disk) c.come_up.result all.writes

pub returns-in-Ok-clause-writes_down : goal.returns-in-Ok-clause-writes_down
returns-in-Ok-clause-writes_down g c =
    let d = g.D.Disk in
    let said = c.in-Ok.ensures in
    let all = comes_behind d.known d.cells d.sector_count d.fault_count d.arming c.args.disk c.recover.new.disk c.come_up.result said.sectors said.count said.writes c.come_up.ensures.comes in
    down_arms d.arming (d.arming c.args.disk) c.come_up.result all.begun all.writes

pub returns-in-Err-clause-every_moment : goal.returns-in-Err-clause-every_moment
returns-in-Err-clause-every_moment g c = λ known.
    let d = g.D.Disk in
    let old = c.args.disk in
    let new = c.recover.new.disk in
    Elapses-weaker (d.moment old) (d.moment new) (d.left_since old) (d.left_since new) (IsLeftBy (d.cells old)) (IsLeftInMount (d.cells old))
    (left_weaker (d.cells old) (c.recovered_disks_are_clean.ensures.same (as_read (d.cells old)))) (c.in-Err.ensures.every_moment known)
