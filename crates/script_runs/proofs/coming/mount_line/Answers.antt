use Rattle.std.proofs.Common.{subst, sym, refl}
use Rattle.script.specs.declared.types.Command.TheVariants as command
use Rattle.script_runs.specs.Running.{ComesTo, IsRun, IsUntouched, StandsWhereKnown, disk_of_device}
use Rattle.run_mounts.specs.Safe.{StandsSafe}
use Rattle.script_runs.proofs.Idle.{already, idle_down}
use Rattle.script_runs.proofs.Untouched.{no_record, sound_read}
use Rattle.script.specs.declared.answers.LineReply.TheVariants as line
use Rattle.script_runs.specs.Faults.{TellsOfLog}
use Rattle.script_runs.specs.declared.running.Device.TheVariants as device
use Rattle.script_runs.proofs.Tells.{plain_line}
use Rattle.script_runs.proofs.coming.mount_line.Goals as goal

pub returns-in-Mounted-clause-run : goal.returns-in-Mounted-clause-run
returns-in-Mounted-clause-run g c = λ sure tells first number s is few stands.
    let d = g.D.Disk in
    let run = c.args.run in
    subst (ComesTo d.known sure d.cells d.sector_count d.arming first number s command.Mount) (sym c.answered.ensures)
    (already d.known sure d.cells d.sector_count d.arming first number s run.names run.past c.in-Mounted.up
    (subst (λ x. IsRun d.known d.cells d.sector_count d.arming s (record { names = run.names; past = run.past; device = x })) c.in-Mounted.is is)
    (subst (λ x. StandsWhereKnown sure first number s (d.cells (disk_of_device x))) c.in-Mounted.is stands))

pub returns-in-Mounted-clause-untouched : goal.returns-in-Mounted-clause-untouched
returns-in-Mounted-clause-untouched g c = λ told before is.
    let d = g.D.Disk in
    let run = c.args.run in
    absurd (no_record run.past.items c.in-Mounted.up.mounted.story
    (subst (λ x. IsUntouched d.cells before (record { names = run.names; past = run.past; device = x })) c.in-Mounted.is is).none)

pub returns-in-Idle-clause-run : goal.returns-in-Idle-clause-run
returns-in-Idle-clause-run g c = λ sure tells first number s is few stands.
    let d = g.D.Disk in
    let run = c.args.run in
    let here = subst (λ x. IsRun d.known d.cells d.sector_count d.arming s (record { names = run.names; past = run.past; device = x })) c.in-Idle.is is in
    c.mount_idle.ensures.run sure tells first number s
    (record { down = idle_down d.known d.cells d.sector_count s.lines s.up c.in-Idle.disk here.device; bound = here.names; records = here.past })
    here.armed
    (subst (λ x. StandsWhereKnown sure first number s (d.cells (disk_of_device x))) c.in-Idle.is stands)

pub returns-in-Idle-clause-sound : goal.returns-in-Idle-clause-sound
returns-in-Idle-clause-sound g c = λ told first number mounts stands.
    let d = g.D.Disk in
    c.mount_idle.ensures.sound told (sound_read first number mounts (d.cells c.in-Idle.disk) (subst (λ x. StandsSafe first number mounts (d.cells (disk_of_device x))) c.in-Idle.is stands))

pub returns-in-Mounted-clause-log : goal.returns-in-Mounted-clause-log
returns-in-Mounted-clause-log g c =
    let d = g.D.Disk in
    let run = c.args.run in
    subst (λ x. TellsOfLog d.fault_count run.past.items x c.answered.result) (sym c.in-Mounted.is)
    (subst (TellsOfLog d.fault_count run.past.items (device.Mounted c.in-Mounted.up)) (sym c.answered.ensures)
    (plain_line d.fault_count (device.Mounted c.in-Mounted.up) run.names run.past line.AlreadyMounted refl))

pub returns-in-Idle-clause-log : goal.returns-in-Idle-clause-log
returns-in-Idle-clause-log g c =
    let d = g.D.Disk in
    subst (λ x. TellsOfLog d.fault_count c.args.run.past.items x c.mount_idle.result) (sym c.in-Idle.is) c.mount_idle.ensures.log
