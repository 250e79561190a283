use Rattle.std.proofs.Common.{◌∙◌, sym}
use Rattle.script_runs.proofs.Tells.{stops_mount}
use Rattle.script_runs.proofs.Unmounts.{comes_stopped}
use Rattle.script_runs.proofs.unmounting.not_ended.Goals as goal

pub returns-then-stopped-clause-run : goal.returns-then-stopped-clause-run
returns-then-stopped-clause-run g c = λ sure first number s up is.
    let d = g.D.Disk in
    comes_stopped c.tables_without_orphans_free_nothing.ensures d.known sure d.cells d.sector_count d.arming d.fault_count first number s c.args.names c.args.past.items c.args.holds up c.args.still
    c.stopped_in.result is (sym c.stopped.ensures ∙ c.if-stopped.true) c.stopped_in.ensures

pub returns-then-stopped-clause-log : goal.returns-then-stopped-clause-log
returns-then-stopped-clause-log g c = λ up tells.
    let d = g.D.Disk in
    stops_mount d.cells d.arming d.fault_count c.args.names c.args.past.items up (record { mounted = c.args.still.mounted; holds = c.args.holds }) c.stopped_in.result tells.entries c.stopped_in.ensures
