use Rattle.std.proofs.Common.{ap, sym, subst, ◌∙◌, arith}
use Rattle.disk_model.specs.Disk.{IsImage}
use Rattle.group_ops.specs.Loading.{IsLoadCause}
use Rattle.mount.specs.Coming.{IsAnew, IsLateFault}
use Rattle.mount.specs.Faults.{IsDeviceCause}
use Rattle.mount.specs.Mounts.{disk_of}
use Rattle.mount.specs.declared.fault.MountFault.{MountFault}
use Rattle.mount.proofs.Nothing.{clean_image, down_over, nothing_comes}
use Rattle.mount.proofs.Through.{clean_still, comes_behind, device_load, late_load, moments_loaded, moments_read, no_writes}
use Rattle.mount.proofs.mounting.come_up.Goals as goal

pub begin-requires : goal.begin-requires
begin-requires g c =
    let d = g.D.Disk in
    let r = c.args.recovery.now in
    let reads = c.in-Ok.ensures.only_reads in
    record {
      shape = c.requires.shape;
      size = omega (arith, c.requires.size, reads.sectors);
      position = c.requires.position;
      number = c.requires.number;
      anew = λ known. subst (IsAnew r.geometry r.start) (sym reads.cells_stay) (c.requires.anew known);
      groups = c.in-Ok.ensures.groups;
    }

pub returns-in-Ok-clause-comes_to : goal.returns-in-Ok-clause-comes_to
returns-in-Ok-clause-comes_to g c = λ known t layouts clean.
    let d = g.D.Disk in
    let r = c.args.recovery.now in
    c.begin.ensures.comes_to known t layouts (clean_still r.geometry t layouts r.start (d.cells c.args.disk) (d.cells c.load_groups.new.disk) c.in-Ok.ensures.only_reads.cells_stay clean)
    (c.in-Ok.ensures.told known t layouts clean.encodes)

pub returns-in-Ok-clause-comes : goal.returns-in-Ok-clause-comes
returns-in-Ok-clause-comes g c =
    let d = g.D.Disk in
    let reads = c.in-Ok.ensures.only_reads in
    let old = c.args.disk in
    let mid = c.load_groups.new.disk in
    comes_behind d.known d.cells d.sector_count d.fault_count d.arming old mid c.begin.result reads.sectors reads.count (no_writes (d.arming old) (d.arming mid) reads.armed) c.begin.ensures.comes

pub returns-in-Ok-clause-every_moment : goal.returns-in-Ok-clause-every_moment
returns-in-Ok-clause-every_moment g c = λ known.
    let d = g.D.Disk in
    let r = c.args.recovery.now in
    moments_loaded d.known d.cells d.sector_count d.fault_count d.arming d.moment d.left_since r.geometry r.start c.args.disk c.load_groups.new.disk (disk_of c.begin.result) c.in-Ok.states.items
    c.in-Ok.ensures.only_reads known (c.in-Ok.ensures.told known) (c.begin.ensures.every_moment known)

pub returns-in-Err-clause-comes_to : goal.returns-in-Err-clause-comes_to
returns-in-Err-clause-comes_to g c = λ known t layouts clean.
    let d = g.D.Disk in
    let r = c.args.recovery.now in
    let down = c.nothing_freed.result in
    let disk = c.nothing_freed.ensures.disk in
    let fault = c.nothing_freed.ensures.fault ∙ c.from.ensures in
    let cells = ap d.cells disk ∙ c.in-Err.ensures.only_reads.cells_stay in
    down_over t layouts r.start.next_commit down.begun down.fault (d.cells down.disk) c.nothing_freed.ensures.begun
    (subst IsLateFault (sym fault) (late_load c.in-Err.fault (c.in-Err.ensures.no_damage known t layouts clean.encodes)))
    (λ image on. clean_image r.geometry t layouts r.start (d.cells c.args.disk) image clean (subst (λ x. IsImage x image) cells on) 0)

pub returns-in-Err-clause-comes : goal.returns-in-Err-clause-comes
returns-in-Err-clause-comes g c =
    let d = g.D.Disk in
    let down = c.nothing_freed.result in
    let disk = c.nothing_freed.ensures.disk in
    let fault = c.nothing_freed.ensures.fault ∙ c.from.ensures in
    let reads = c.in-Err.ensures.only_reads in
    nothing_comes d.known d.cells d.sector_count d.fault_count d.arming c.args.disk down c.args.recovery.now.start.next_commit (ap d.sector_count disk ∙ reads.sectors)
    (ap d.arming disk ∙ reads.armed) (omega (arith, ap d.fault_count disk, reads.count))
    (subst (λ (f : MountFault). IsDeviceCause (d.fault_count c.args.disk) (d.fault_count down.disk) f) (sym fault)
    (device_load c.in-Err.fault (d.fault_count c.args.disk) (d.fault_count down.disk)
    (subst (λ n. IsLoadCause (d.fault_count c.args.disk) n c.in-Err.fault) (sym (ap d.fault_count disk)) c.in-Err.ensures.read_fault)))
    c.nothing_freed.ensures.begun c.requires.number

pub returns-in-Err-clause-every_moment : goal.returns-in-Err-clause-every_moment
returns-in-Err-clause-every_moment g c = λ known.
    let d = g.D.Disk in
    let r = c.args.recovery.now in
    moments_read d.known d.cells d.sector_count d.fault_count d.arming d.moment d.left_since r.geometry r.start c.args.disk c.load_groups.new.disk c.nothing_freed.result.disk
    c.nothing_freed.ensures.disk c.in-Err.ensures.only_reads known
