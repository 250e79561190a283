use Rattle.std.proofs.Common.{subst, sym, ◌∙◌}
use Rattle.script.specs.declared.types.Command.TheVariants as command
use Rattle.script_runs.specs.Running.{ComesTo, StaysUntouched}
use Rattle.script_runs.proofs.StayDown.{broken_down, refused, stopped_down}
use Rattle.script_runs.proofs.Untouched.{sound_stays, sound_stopped, untouched_broken, untouched_refused}
use Rattle.script_runs.specs.Faults.{TellsOfLog}
use Rattle.run_faults.specs.Progress.{RecordsGrow}
use Rattle.script_runs.specs.declared.running.Device.TheVariants.{Idle}
use Rattle.script_runs.proofs.Tells.{begun_records, begun_refused, begun_stopped}
use Rattle.script_runs.proofs.coming.stayed_down.Goals as goal

pub returns-in-None-clause-run : goal.returns-in-None-clause-run
returns-in-None-clause-run g c = λ sure first number s idle stayed.
    let d = g.D.Disk in
    broken_down sure d.cells d.arming first number s c.args.down c.args.names c.args.past.items c.with_begun-past.result idle stayed c.with_begun-past.ensures

pub returns-in-Some-clause-run : goal.returns-in-Some-clause-run
returns-in-Some-clause-run g c = λ sure first number s idle stayed.
    let d = g.D.Disk in
    subst (ComesTo d.known sure d.cells d.sector_count d.arming first number s command.Mount) (sym c.answered.ensures)
    (stopped_down d.known sure d.cells d.sector_count d.arming first number s c.args.down c.args.names c.args.past.items c.with_begun-past.result c.restarted.result c.stopped.result idle stayed
    c.with_begun-past.ensures c.stopped.ensures c.if-stopped.true c.restarted.ensures.cells c.restarted.ensures.goes_on c.restarted.ensures.unarmed)

pub returns-in-Some-2-clause-run : goal.returns-in-Some-2-clause-run
returns-in-Some-2-clause-run g c = λ sure first number s idle stayed.
    let d = g.D.Disk in
    subst (ComesTo d.known sure d.cells d.sector_count d.arming first number s command.Mount) (sym c.answered-in-Some-2.ensures)
    (refused d.known sure d.cells d.sector_count d.arming first number s c.args.down c.args.names c.args.past.items c.with_begun-past.result c.in-Some.field-0 c.refusal.result c.stopped.result idle stayed
    c.with_begun-past.ensures c.refusal.ensures c.in-Some.is c.stopped.ensures c.if-stopped.false)

pub returns-in-None-clause-untouched : goal.returns-in-None-clause-untouched
returns-in-None-clause-untouched g c = λ before none refused.
    let d = g.D.Disk in
    untouched_broken d.cells d.arming before c.args.down c.args.names c.args.past.items c.with_begun-past.result none refused c.with_begun-past.ensures

pub returns-in-Some-clause-untouched : goal.returns-in-Some-clause-untouched
returns-in-Some-clause-untouched g c = λ before none refused.
    let d = g.D.Disk in
    sound_stays d.cells before command.Mount c.answered.result (sound_stopped d.cells d.arming before c.args.down c.stopped.result refused c.stopped.ensures c.if-stopped.true)

pub returns-in-Some-2-clause-untouched : goal.returns-in-Some-2-clause-untouched
returns-in-Some-2-clause-untouched g c = λ before none refused.
    let d = g.D.Disk in
    subst (StaysUntouched d.cells before command.Mount) (sym c.answered-in-Some-2.ensures)
    (untouched_refused d.cells d.arming before c.args.down c.args.names c.args.past.items c.with_begun-past.result c.in-Some.field-0 c.refusal.result none refused c.with_begun-past.ensures
    c.refusal.ensures c.in-Some.is)

pub returns-in-None-clause-log : goal.returns-in-None-clause-log
returns-in-None-clause-log g c = λ disk cause.
    subst (RecordsGrow c.args.past.items) (sym c.with_begun-past.ensures) (begun_records c.args.past.items c.args.down.begun)

pub returns-in-Some-clause-log : goal.returns-in-Some-clause-log
returns-in-Some-clause-log g c = λ disk cause.
    let d = g.D.Disk in
    subst (TellsOfLog d.fault_count c.args.past.items (Idle disk)) (sym c.answered.ensures)
    (begun_stopped d.fault_count c.args.past.items c.args.down.begun disk c.restarted.result c.args.names c.with_begun-past.result c.with_begun-past.ensures)

pub returns-in-Some-2-clause-log : goal.returns-in-Some-2-clause-log
returns-in-Some-2-clause-log g c = λ disk cause.
    let d = g.D.Disk in
    subst (TellsOfLog d.fault_count c.args.past.items (Idle disk)) (sym c.answered-in-Some-2.ensures)
    (begun_refused d.fault_count c.args.past.items c.args.down.begun c.args.down.fault c.in-Some.field-0 disk c.args.down.disk c.args.names c.with_begun-past.result c.with_begun-past.ensures
    (sym c.refusal.ensures ∙ c.in-Some.is) cause)
