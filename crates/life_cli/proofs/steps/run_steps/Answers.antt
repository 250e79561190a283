use Rattle.std.proofs.Common.{◌≡◌, Err, ap, refl}
use Rattle.script.specs.declared.status.Status.TheVariants as status
use Rattle.life_cli.specs.Outside.{ImagesSeen, ScriptSeen}
use Rattle.life_cli.proofs.Scripts.{ScriptLaws}
use Rattle.life_cli.proofs.Stepping.{EndsAs-refused, RefusesScript-ill, RunsSteps-run, RunsSteps-unrun}
use Rattle.life_cli.proofs.steps.run_steps.Goals as goal

pub returns-in-Err : goal.returns-in-Err
returns-in-Err g c =
    let law : ScriptLaws = record { none = c.one_first_fault.ensures.none; one = c.one_first_fault.ensures.one; command = c.one_command.ensures } in
    let seen : ImagesSeen g.row.I.Denot g.row.I-Disk.Denot = record {
      given = g.I.Images.given;
      faults = g.I.Images.fault_count;
      image_at = g.I.Images.image_at;
      known = g.I.Disk.Disk.known;
      cells = g.I.Disk.Disk.cells;
      sectors = g.I.Disk.Disk.sector_count;
      disk_faults = g.I.Disk.Disk.fault_count;
    } in
    let source : ScriptSeen g.row.S.Denot = record { bytes_left = g.S.Source.bytes_left; faults = g.S.Source.fault_count } in
    let script = c.args.script.now in
    let left = c.read_lines.new.script in
    let images = c.args.images.now in
    let refused = c.in-Err.ensures.refused in
    let early = c.ended_early in
    RunsSteps-unrun law seen source c.args.path.now images images script left c.in-Err.status early.result.status early.result.disk
    early.result.mounts.items early.result.groups.items early.result.said.items early.ensures.status early.ensures.disk early.ensures.mounts early.ensures.groups
    early.ensures.said (RefusesScript-ill (source.bytes_left script) (source.faults script) (source.faults left) c.in-Err.status refused)
    (EndsAs-refused (source.bytes_left script) (source.faults script) (source.faults left) (seen.faults images) (seen.faults images) c.in-Err.status refused)
    (λ refusal. refl) refl c.read_lines.ensures.taken c.in-Err.ensures.one_more

pub returns-in-Ok-attach : goal.returns-in-Ok-attach
returns-in-Ok-attach g c =
    let law : ScriptLaws = record { none = c.one_first_fault.ensures.none; one = c.one_first_fault.ensures.one; command = c.one_command.ensures } in
    let seen : ImagesSeen g.row.I.Denot g.row.I-Disk.Denot = record {
      given = g.I.Images.given;
      faults = g.I.Images.fault_count;
      image_at = g.I.Images.image_at;
      known = g.I.Disk.Disk.known;
      cells = g.I.Disk.Disk.cells;
      sectors = g.I.Disk.Disk.sector_count;
      disk_faults = g.I.Disk.Disk.fault_count;
    } in
    let source : ScriptSeen g.row.S.Denot = record { bytes_left = g.S.Source.bytes_left; faults = g.S.Source.fault_count } in
    let run = c.run_lines.ensures in
    RunsSteps-run law seen source c.args.path.now c.args.images.now c.attach.new.self c.args.script.now c.read_lines.new.script c.run_lines.result.status
    c.run_lines.result.disk c.run_lines.result.mounts.items c.run_lines.result.groups.items c.run_lines.result.said.items c.in-Ok-attach.disk c.in-Ok.lines run.disk run.status
    c.in-Ok.ensures.read c.in-Ok.ensures.steady c.in-Ok.ensures.readable c.in-Ok.ensures.end c.read_lines.ensures.taken c.in-Ok-attach.ensures.given
    c.in-Ok-attach.ensures.image run.headline run.first_image run.log run.all run.most run.groups

pub returns-in-Err-Failed : goal.returns-in-Err-Failed
returns-in-Err-Failed g c =
    let law : ScriptLaws = record { none = c.one_first_fault.ensures.none; one = c.one_first_fault.ensures.one; command = c.one_command.ensures } in
    let seen : ImagesSeen g.row.I.Denot g.row.I-Disk.Denot = record {
      given = g.I.Images.given;
      faults = g.I.Images.fault_count;
      image_at = g.I.Images.image_at;
      known = g.I.Disk.Disk.known;
      cells = g.I.Disk.Disk.cells;
      sectors = g.I.Disk.Disk.sector_count;
      disk_faults = g.I.Disk.Disk.fault_count;
    } in
    let source : ScriptSeen g.row.S.Denot = record { bytes_left = g.S.Source.bytes_left; faults = g.S.Source.fault_count } in
    let early = c.ended_early-in-Err-Failed in
    RunsSteps-unrun law seen source c.args.path.now c.args.images.now c.attach.new.self c.args.script.now c.read_lines.new.script status.OpenFault
    early.result.status early.result.disk early.result.mounts.items early.result.groups.items early.result.said.items early.ensures.status early.ensures.disk early.ensures.mounts
    early.ensures.groups early.ensures.said (λ (good : status.OpenFault ≡ status.Good). absurd cc)
    (c.in-Err-Failed.ensures.cause.failed (ap (λ e. Err e) c.in-Err-Failed.field-0-is), c.in-Ok.ensures.readable) (λ refusal. absurd refusal)
    c.in-Err-Failed.ensures.refused c.read_lines.ensures.taken (λ (long : status.OpenFault ≡ status.ScriptTooLong). absurd cc)

pub returns : goal.returns
returns g c =
    let law : ScriptLaws = record { none = c.one_first_fault.ensures.none; one = c.one_first_fault.ensures.one; command = c.one_command.ensures } in
    let seen : ImagesSeen g.row.I.Denot g.row.I-Disk.Denot = record {
      given = g.I.Images.given;
      faults = g.I.Images.fault_count;
      image_at = g.I.Images.image_at;
      known = g.I.Disk.Disk.known;
      cells = g.I.Disk.Disk.cells;
      sectors = g.I.Disk.Disk.sector_count;
      disk_faults = g.I.Disk.Disk.fault_count;
    } in
    let source : ScriptSeen g.row.S.Denot = record { bytes_left = g.S.Source.bytes_left; faults = g.S.Source.fault_count } in
    let early = c.ended_early-in-Err-NoMemory in
    RunsSteps-unrun law seen source c.args.path.now c.args.images.now c.attach.new.self c.args.script.now c.read_lines.new.script status.NoMemory
    early.result.status early.result.disk early.result.mounts.items early.result.groups.items early.result.said.items early.ensures.status early.ensures.disk early.ensures.mounts
    early.ensures.groups early.ensures.said (λ (good : status.NoMemory ≡ status.Good). absurd cc) tt (λ refusal. absurd refusal)
    c.in-Err-NoMemory.ensures.refused c.read_lines.ensures.taken (λ (long : status.NoMemory ≡ status.ScriptTooLong). absurd cc)
