use Rattle.std.proofs.Common.{refl, subst, sym}
use Rattle.script.specs.declared.types.Command.TheVariants as command
use Rattle.script_runs.specs.Running.{ComesTo, IsRun, StandsWhereKnown, disk_of_device, records_with}
use Rattle.std.proofs.Common.{◌≡◌, []}
use Rattle.script_runs.specs.declared.running.Device.{Device}
use Rattle.script_runs.proofs.Made.{no_more_records, none_up}
use Rattle.script_runs.specs.Faults.{TellsOfLog}
use Rattle.script_runs.specs.declared.running.Device.TheVariants as device
use Rattle.script.specs.declared.answers.LineReply.TheVariants as line
use Rattle.script_runs.proofs.Tells.{plain_line}
use Rattle.script_runs.proofs.Unmounts.{unmounted_idle}
use Rattle.script_runs.proofs.unmounting.unmount_line.Goals as goal

pub returns-in-Idle-clause-run : goal.returns-in-Idle-clause-run
returns-in-Idle-clause-run g c = λ sure sound first number s run few stands.
    let d = g.D.Disk in
    let r = c.args.run in
    let here = subst (λ (x : Device g.row.D.Denot). IsRun d.known d.cells d.sector_count d.arming s (record { names = r.names; past = r.past; device = x })) c.in-Idle.is run in
    let safe = subst (λ (x : Device g.row.D.Denot). StandsWhereKnown sure first number s (d.cells (disk_of_device x))) c.in-Idle.is stands in
    subst (ComesTo d.known sure d.cells d.sector_count d.arming first number s command.Unmount) (sym c.answered.ensures)
    (unmounted_idle d.known sure d.cells d.sector_count d.arming first number s _ here (none_up d.known d.cells d.sector_count s.lines s.up c.in-Idle.disk here.device) safe)

pub returns-in-Mounted-clause-run : goal.returns-in-Mounted-clause-run
returns-in-Mounted-clause-run g c = λ sure sound first number s run few stands.
    let d = g.D.Disk in
    let r = c.args.run in
    let here = subst (λ (x : Device g.row.D.Denot). IsRun d.known d.cells d.sector_count d.arming s (record { names = r.names; past = r.past; device = x })) c.in-Mounted.is run in
    let safe = subst (λ (x : Device g.row.D.Denot). StandsWhereKnown sure first number s (d.cells (disk_of_device x))) c.in-Mounted.is stands in
    c.unmount_up.ensures.run sure sound first number s here safe

pub returns-in-Mounted-clause-untouched : goal.returns-in-Mounted-clause-untouched
returns-in-Mounted-clause-untouched g c = λ known before is.
    let r = c.args.run in
    absurd (no_more_records r.past.items c.in-Mounted.up.mounted.story (subst (λ (x : Device g.row.D.Denot). records_with r.past.items x ≡ []) c.in-Mounted.is is.none))

pub returns-in-Idle-clause-log : goal.returns-in-Idle-clause-log
returns-in-Idle-clause-log g c =
    let d = g.D.Disk in
    let r = c.args.run in
    subst (λ (x : Device g.row.D.Denot). TellsOfLog d.fault_count r.past.items x c.answered.result) (sym c.in-Idle.is)
    (subst (TellsOfLog d.fault_count r.past.items (device.Idle c.in-Idle.disk)) (sym c.answered.ensures)
    (plain_line d.fault_count (device.Idle c.in-Idle.disk) r.names r.past line.NotMounted refl))

pub returns-in-Mounted-clause-log : goal.returns-in-Mounted-clause-log
returns-in-Mounted-clause-log g c =
    let d = g.D.Disk in
    let r = c.args.run in
    subst (λ (x : Device g.row.D.Denot). TellsOfLog d.fault_count r.past.items x c.unmount_up.result) (sym c.in-Mounted.is) c.unmount_up.ensures.log
