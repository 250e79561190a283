use Rattle.std.proofs.Common.{subst, sym}
use Rattle.script.specs.declared.types.Command.TheVariants as command
use Rattle.script_runs.specs.Running.{ComesTo}
use Rattle.script_runs.specs.Faults.{TellsOfLog}
use Rattle.script_runs.specs.declared.running.Device.TheVariants as device
use Rattle.script_runs.proofs.EndTells.{tells_ended, tells_stopped}
use Rattle.script_runs.proofs.Unmounts.{ended_over, ended_stopped}
use Rattle.script_runs.proofs.unmounting.ended.Goals as goal

pub returns-then-stopped-clause-run : goal.returns-then-stopped-clause-run
returns-then-stopped-clause-run g c = λ sure first number s up is acknowledged.
    let d = g.D.Disk in
    subst (ComesTo d.known sure d.cells d.sector_count d.arming first number s command.Unmount) (sym c.answered.ensures)
    (ended_stopped c.mounts_cut_off_stand_safe.ensures.ended c.tables_without_orphans_free_nothing.ensures d.known sure d.cells d.sector_count d.arming first number s c.args.names c.args.past.items
    c.push_reserved.new.self up c.args.end c.acknowledging.result c.restarted.result c.args.acknowledged c.stopped.result is acknowledged c.acknowledging.ensures c.push_reserved.ensures.items
    c.stopped.ensures c.if-stopped.true c.restarted.ensures.cells c.restarted.ensures.goes_on c.restarted.ensures.unarmed)

pub returns-clause-run : goal.returns-clause-run
returns-clause-run g c = λ sure first number s up is acknowledged.
    let d = g.D.Disk in
    subst (ComesTo d.known sure d.cells d.sector_count d.arming first number s command.Unmount) (sym c.answered-2.ensures)
    (ended_over c.tables_without_orphans_free_nothing.ensures d.known sure d.cells d.sector_count d.arming first number s c.args.names c.args.past.items c.push_reserved-2.new.self up c.args.end
    c.stopped.result is c.push_reserved-2.ensures.items c.stopped.ensures c.if-stopped.false)

pub returns-then-stopped-clause-log : goal.returns-then-stopped-clause-log
returns-then-stopped-clause-log g c = λ up tells.
    let d = g.D.Disk in
    subst (TellsOfLog d.fault_count c.args.past.items (device.Mounted up)) (sym c.answered.ensures)
    (tells_stopped d.fault_count c.args.past.items up c.args.end c.restarted.result c.args.names c.push_reserved.new.self c.acknowledging.result c.args.acknowledged tells c.acknowledging.ensures
    c.push_reserved.ensures.items)

pub returns-clause-log : goal.returns-clause-log
returns-clause-log g c = λ up tells.
    let d = g.D.Disk in
    subst (TellsOfLog d.fault_count c.args.past.items (device.Mounted up)) (sym c.answered-2.ensures)
    (tells_ended d.fault_count c.args.past.items up c.args.end c.args.names c.push_reserved-2.new.self tells c.push_reserved-2.ensures.items)
