use Rattle.std.proofs.Common.{ap, sym, subst, ◌∙◌, arith}
use Rattle.disk_model.specs.Disk.{Elapses, IsImage}
use Rattle.disk_model.specs.DiskLaws.{Elapses-none}
use Rattle.geometry.specs.Places.{anchor_of}
use Rattle.log_store.specs.Steps.{IsNew}
use Rattle.mount.specs.Coming.{Comes, IsLateFault, LeftByBegin, LeftByFrees}
use Rattle.mount.specs.Faults.{IsDeviceCause}
use Rattle.mount.specs.Mounts.{disk_of}
use Rattle.mount.specs.declared.fault.MountFault.{MountFault}
use Rattle.mount.proofs.Nothing.{clean_image, down_over, nothing_comes}
use Rattle.mount.proofs.Ready.{moments_from}
use Rattle.mount.proofs.Starts.{start_new, store_of_clean}
use Rattle.mount.proofs.mounting.begin.Goals as goal

pub free-requires : goal.free-requires
free-requires g c =
    let d = g.D.Disk in
    let r = c.args.recovery.now in
    let new : IsNew c.args.disk (anchor_of r.geometry) r.geometry.ring r.start.position r.start.next_commit c.in-Ok.store =
    subst (λ n. IsNew c.args.disk n r.geometry.ring r.start.position r.start.next_commit c.in-Ok.store) c.sectors_of.ensures c.in-Ok.ensures.start in
    record {
      start = start_new d.known d.cells d.sector_count r.geometry c.args.disk r.start.position r.start.next_commit c.in-Ok.store c.in-Ok.ensures.store new c.requires.shape
          c.requires.position.1 c.requires.number;
      none = c.in-Ok.ensures.start.list;
      groups = c.requires.groups;
    }

pub returns-in-Ok-clause-comes_to : goal.returns-in-Ok-clause-comes_to
returns-in-Ok-clause-comes_to g c = λ known t layouts clean groups.
    let d = g.D.Disk in
    let r = c.args.recovery.now in
    let new : IsNew c.args.disk (anchor_of r.geometry) r.geometry.ring r.start.position r.start.next_commit c.in-Ok.store =
    subst (λ n. IsNew c.args.disk n r.geometry.ring r.start.position r.start.next_commit c.in-Ok.store) c.sectors_of.ensures c.in-Ok.ensures.start in
    c.free.ensures.comes_to known t layouts (store_of_clean d.cells r.geometry t layouts r.start c.args.disk r.start.next_commit c.in-Ok.store new clean) clean.unheld groups

pub returns-in-Ok-clause-comes : goal.returns-in-Ok-clause-comes
returns-in-Ok-clause-comes g c =
    let d = g.D.Disk in
    subst (λ disk. Comes d.known d.cells d.sector_count d.fault_count d.arming disk c.free.result) c.in-Ok.ensures.start.disk_is c.free.ensures.comes

pub returns-in-Ok-clause-every_moment : goal.returns-in-Ok-clause-every_moment
returns-in-Ok-clause-every_moment g c = λ known.
    let d = g.D.Disk in
    let r = c.args.recovery.now in
    let store = c.in-Ok.store in
    let new : IsNew c.args.disk (anchor_of r.geometry) r.geometry.ring r.start.position r.start.next_commit store =
    subst (λ n. IsNew c.args.disk n r.geometry.ring r.start.position r.start.next_commit store) c.sectors_of.ensures c.in-Ok.ensures.start in
    moments_from d.moment d.left_since c.args.disk store.disk (disk_of c.free.result) (LeftByFrees d.cells r.geometry r.start.next_commit store c.args.states.items)
    (LeftByBegin r.geometry r.start (d.cells c.args.disk) c.args.states.items) new.disk_is
    (λ image left t layouts clean groups. left t layouts (store_of_clean d.cells r.geometry t layouts r.start c.args.disk r.start.next_commit store new clean) clean.unheld groups)
    (c.free.ensures.every_moment known)

pub returns-in-Err-clause-comes_to : goal.returns-in-Err-clause-comes_to
returns-in-Err-clause-comes_to g c = λ known t layouts clean groups.
    let d = g.D.Disk in
    let r = c.args.recovery.now in
    let down = c.nothing_freed.result in
    let disk = c.nothing_freed.ensures.disk ∙ c.in-Err.ensures.handed_back in
    down_over t layouts r.start.next_commit down.begun down.fault (d.cells down.disk) c.nothing_freed.ensures.begun (subst IsLateFault (sym c.nothing_freed.ensures.fault) tt)
    (λ image on. clean_image r.geometry t layouts r.start (d.cells c.args.disk) image clean (subst (λ x. IsImage (d.cells x) image) disk on) 0)

pub returns-in-Err-clause-comes : goal.returns-in-Err-clause-comes
returns-in-Err-clause-comes g c =
    let d = g.D.Disk in
    let down = c.nothing_freed.result in
    let disk = c.nothing_freed.ensures.disk ∙ c.in-Err.ensures.handed_back in
    nothing_comes d.known d.cells d.sector_count d.fault_count d.arming c.args.disk down c.args.recovery.now.start.next_commit (ap d.sector_count disk) (ap d.arming disk)
    (omega (arith, ap d.fault_count disk))
    (subst (λ (f : MountFault). IsDeviceCause (d.fault_count c.args.disk) (d.fault_count down.disk) f) (sym c.nothing_freed.ensures.fault) tt)
    c.nothing_freed.ensures.begun c.requires.number

pub returns-in-Err-clause-every_moment : goal.returns-in-Err-clause-every_moment
returns-in-Err-clause-every_moment g c = λ known.
    let d = g.D.Disk in
    let disk = c.nothing_freed.ensures.disk ∙ c.in-Err.ensures.handed_back in
    let P = LeftByBegin c.args.recovery.now.geometry c.args.recovery.now.start (d.cells c.args.disk) c.args.states.items in
    subst (λ x. Elapses (d.moment c.args.disk) (d.moment x) (d.left_since c.args.disk) (d.left_since x) P) (sym disk) (Elapses-none (d.moment c.args.disk) (d.left_since c.args.disk) P)
