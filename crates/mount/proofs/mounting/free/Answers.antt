use Rattle.std.proofs.Common.{◌+◌, ap, sym, subst, ◌∙◌, arith}
use Rattle.disk_model.specs.Disk.{Elapses, IsImage}
use Rattle.disk_model.specs.DiskLaws.{Elapses-none}
use Rattle.log_store.specs.State.{state_of}
use Rattle.mount.specs.Coming.{Comes, IsLateFault, LeftByForce, LeftByFrees}
use Rattle.mount.specs.Faults.{IsDeviceCause}
use Rattle.mount.specs.Mounts.{disk_of}
use Rattle.mount.specs.declared.fault.MountFault.{MountFault}
use Rattle.mount.proofs.Forced.{nothing_left}
use Rattle.mount.proofs.Nothing.{down_over, nothing_comes}
use Rattle.mount.proofs.Ready.{TellsFreed, frees_come_to, frees_leave, is_ready, moments_from}
use Rattle.mount.proofs.mounting.free.Goals as goal

pub finish-requires : goal.finish-requires
finish-requires g c =
    let d = g.D.Disk in
    let said = c.in-Ok.ensures in
    let old = c.args.store in
    let mid = c.free_all.new.store in
    let tells : TellsFreed c.args.geometry c.args.states.items c.args.base mid.queue.items c.in-Ok.freed =
    λ t layouts sectors groups can unheld. said.freed c.args.geometry t layouts sectors groups can unheld c.requires.start.place.0 in
    record {
      ready = is_ready d.known d.cells d.sector_count c.args.geometry c.args.base old mid c.args.states.items c.in-Ok.freed c.requires.start said.state said.job said.store c.requires.groups tells;
    }

pub returns-in-Ok-clause-comes_to : goal.returns-in-Ok-clause-comes_to
returns-in-Ok-clause-comes_to g c = λ known.
    let said = c.in-Ok.ensures in
    let mid = c.free_all.new.store in
    let tells : TellsFreed c.args.geometry c.args.states.items c.args.base mid.queue.items c.in-Ok.freed =
    λ t layouts sectors groups can unheld. said.freed c.args.geometry t layouts sectors groups can unheld c.requires.start.place.0 in
    frees_come_to g.D.Disk.cells c.args.geometry c.args.base c.args.store mid c.args.states.items c.in-Ok.freed c.finish.result said.state said.disk tells (c.finish.ensures.comes_to known)

pub returns-in-Ok-clause-comes : goal.returns-in-Ok-clause-comes
returns-in-Ok-clause-comes g c =
    let d = g.D.Disk in
    subst (λ disk. Comes d.known d.cells d.sector_count d.fault_count d.arming disk c.finish.result) c.in-Ok.ensures.disk c.finish.ensures.comes

pub returns-in-Ok-clause-every_moment : goal.returns-in-Ok-clause-every_moment
returns-in-Ok-clause-every_moment g c = λ known.
    let d = g.D.Disk in
    let said = c.in-Ok.ensures in
    let mid = c.free_all.new.store in
    let tells : TellsFreed c.args.geometry c.args.states.items c.args.base mid.queue.items c.in-Ok.freed =
    λ t layouts sectors groups can unheld. said.freed c.args.geometry t layouts sectors groups can unheld c.requires.start.place.0 in
    moments_from d.moment d.left_since c.args.store.disk mid.disk (disk_of c.finish.result) (LeftByForce d.cells c.args.geometry c.in-Ok.freed.story.base mid c.in-Ok.freed)
    (LeftByFrees d.cells c.args.geometry c.args.base c.args.store c.args.states.items) said.disk
    (frees_leave d.cells c.args.geometry c.args.base c.args.store mid c.args.states.items c.in-Ok.freed said.state said.disk tells) (c.finish.ensures.every_moment known)

pub returns-in-Err-clause-comes_to : goal.returns-in-Err-clause-comes_to
returns-in-Err-clause-comes_to g c = λ known t layouts of unheld groups.
    let d = g.D.Disk in
    let store = c.args.store in
    let down = c.nothing_freed.result in
    let disk = c.nothing_freed.ensures.disk ∙ c.into_disk-disk.ensures ∙ c.in-Err.ensures.disk in
    down_over t layouts c.args.base down.begun down.fault (d.cells down.disk) c.nothing_freed.ensures.begun (subst IsLateFault (sym c.nothing_freed.ensures.fault) tt)
    (λ image on. nothing_left c.args.geometry t layouts c.args.base (store.durable + 1) store.queue.items image unheld c.requires.none c.requires.start.durable
    (c.calls_leave_prefixes.ensures.same c.args.geometry t layouts store.positions.head (state_of store) (d.cells store.disk) image of
    (c.images_replay.ensures known image (subst (λ x. IsImage (d.cells x) image) disk on))))

pub returns-in-Err-clause-comes : goal.returns-in-Err-clause-comes
returns-in-Err-clause-comes g c =
    let d = g.D.Disk in
    let down = c.nothing_freed.result in
    let disk = c.nothing_freed.ensures.disk ∙ c.into_disk-disk.ensures ∙ c.in-Err.ensures.disk in
    nothing_comes d.known d.cells d.sector_count d.fault_count d.arming c.args.store.disk down c.args.base (ap d.sector_count disk) (ap d.arming disk)
    (omega (arith, ap d.fault_count disk))
    (subst (λ (f : MountFault). IsDeviceCause (d.fault_count c.args.store.disk) (d.fault_count down.disk) f) (sym c.nothing_freed.ensures.fault) tt)
    c.nothing_freed.ensures.begun c.requires.start.number

pub returns-in-Err-clause-every_moment : goal.returns-in-Err-clause-every_moment
returns-in-Err-clause-every_moment g c = λ known.
    let d = g.D.Disk in
    let disk = c.nothing_freed.ensures.disk ∙ c.into_disk-disk.ensures ∙ c.in-Err.ensures.disk in
    let P = LeftByFrees d.cells c.args.geometry c.args.base c.args.store c.args.states.items in
    subst (λ x. Elapses (d.moment c.args.store.disk) (d.moment x) (d.left_since c.args.store.disk) (d.left_since x) P) (sym disk)
    (Elapses-none (d.moment c.args.store.disk) (d.left_since c.args.store.disk) P)
