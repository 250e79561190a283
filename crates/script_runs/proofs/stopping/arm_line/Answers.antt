use Rattle.std.proofs.Common.{subst, sym}
use Rattle.script.specs.declared.types.Command.TheVariants as command
use Rattle.script_runs.specs.Running.{ComesTo, StaysUntouched}
use Rattle.script_runs.specs.declared.running.Comes.{Comes}
use Rattle.script_runs.proofs.Stops.{armed_line, untouched_armed}
use Rattle.script_runs.specs.Faults.{TellsOfLog}
use Rattle.script_runs.proofs.Tells.{armed_tells}
use Rattle.script_runs.proofs.stopping.arm_line.Goals as goal

pub returns-clause-run : goal.returns-clause-run
returns-clause-run g c = λ sure sound first number s run few stands.
    let d = g.D.Disk in
    let r = c.args.run in
    subst (λ (x : Comes g.row.D.Denot). ComesTo d.known sure d.cells d.sector_count d.arming first number s (command.Arm c.args.count c.args.sectors) x) (sym c.answered.ensures)
    (armed_line d.known sure d.cells d.sector_count d.fault_count d.arming first number s c.args.count c.args.sectors r.names r.past r.device c.armed-device.result run stands c.armed-device.ensures)

pub returns-clause-untouched : goal.returns-clause-untouched
returns-clause-untouched g c = λ known before is.
    let d = g.D.Disk in
    let r = c.args.run in
    subst (λ (x : Comes g.row.D.Denot). StaysUntouched d.cells before (command.Arm c.args.count c.args.sectors) x) (sym c.answered.ensures)
    (untouched_armed d.known d.cells d.sector_count d.fault_count d.arming before c.args.count c.args.sectors r.names r.past r.device c.armed-device.result is c.armed-device.ensures)

pub returns-clause-log : goal.returns-clause-log
returns-clause-log g c =
    let d = g.D.Disk in
    let r = c.args.run in
    subst (TellsOfLog d.fault_count r.past.items r.device) (sym c.answered.ensures)
    (armed_tells d.known d.cells d.sector_count d.fault_count d.arming c.args.count c.args.sectors r.device c.armed-device.result r.names r.past c.armed-device.ensures)
