use Rattle.std.proofs.Common.{◌≡◌, Err, inl, inr, ap, refl}
use Rattle.script.specs.declared.status.Status.TheVariants as status
use Rattle.life_cli.specs.Outside.{ImagesSeen}
use Rattle.life_cli.proofs.Checkings.{RunsCheck-early, RunsCheck-run}
use Rattle.life_cli.proofs.checking.run_check.Goals as goal

pub returns-in-Ok : goal.returns-in-Ok
returns-in-Ok g c =
    let seen : ImagesSeen g.row.I.Denot g.row.I-Disk.Denot = record {
      given = g.I.Images.given;
      faults = g.I.Images.fault_count;
      image_at = g.I.Images.image_at;
      known = g.I.Disk.Disk.known;
      cells = g.I.Disk.Disk.cells;
      sectors = g.I.Disk.Disk.sector_count;
      disk_faults = g.I.Disk.Disk.fault_count;
    } in
    let ran = c.check_disk.result.ended in
    let run = c.check_disk.ensures in
    RunsCheck-run seen c.args.path.now c.args.images.now c.attach.new.self ran.status ran.disk c.check_disk.result.found ran.mounts.items ran.groups.items ran.said.items
    c.in-Ok.disk run.disk run.untouched run.checked run.ends run.early c.in-Ok.ensures.given c.in-Ok.ensures.image c.in-Ok.ensures.one_image

pub returns-in-Err-Failed : goal.returns-in-Err-Failed
returns-in-Err-Failed g c =
    let seen : ImagesSeen g.row.I.Denot g.row.I-Disk.Denot = record {
      given = g.I.Images.given;
      faults = g.I.Images.fault_count;
      image_at = g.I.Images.image_at;
      known = g.I.Disk.Disk.known;
      cells = g.I.Disk.Disk.cells;
      sectors = g.I.Disk.Disk.sector_count;
      disk_faults = g.I.Disk.Disk.fault_count;
    } in
    let early = c.ended_early in
    RunsCheck-early seen c.args.path.now c.args.images.now c.attach.new.self status.OpenFault early.result.status early.result.disk
    early.result.mounts.items early.result.groups.items early.result.said.items early.ensures.status early.ensures.disk early.ensures.mounts early.ensures.groups early.ensures.said tt (inl refl)
    (λ is. c.in-Err-Failed.ensures.cause.failed (ap (λ e. Err e) c.in-Err-Failed.field-0-is)) c.in-Err-Failed.ensures.refused

pub returns-in-Err-NoMemory : goal.returns-in-Err-NoMemory
returns-in-Err-NoMemory g c =
    let seen : ImagesSeen g.row.I.Denot g.row.I-Disk.Denot = record {
      given = g.I.Images.given;
      faults = g.I.Images.fault_count;
      image_at = g.I.Images.image_at;
      known = g.I.Disk.Disk.known;
      cells = g.I.Disk.Disk.cells;
      sectors = g.I.Disk.Disk.sector_count;
      disk_faults = g.I.Disk.Disk.fault_count;
    } in
    let early = c.ended_early-in-Err-NoMemory in
    RunsCheck-early seen c.args.path.now c.args.images.now c.attach.new.self status.NoMemory early.result.status early.result.disk
    early.result.mounts.items early.result.groups.items early.result.said.items early.ensures.status early.ensures.disk early.ensures.mounts early.ensures.groups early.ensures.said tt (inr (inr refl))
    (λ (is : status.NoMemory ≡ status.OpenFault). absurd cc) c.in-Err-NoMemory.ensures.refused
