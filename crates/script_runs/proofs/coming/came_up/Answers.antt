use Rattle.std.proofs.Common.{subst, sym, [], ◌∷◌, refl}
use Rattle.script.specs.declared.types.Command.TheVariants as command
use Rattle.script_runs.specs.Running.{ComesTo}
use Rattle.script_runs.proofs.ComeUp.{comes_up, cut_off}
use Rattle.script_runs.specs.Faults.{TellsOfLog}
use Rattle.script_runs.specs.declared.running.Device.TheVariants.{Idle}
use Rattle.script_runs.proofs.Tells.{mount_stopped, mount_up}
use Rattle.script_runs.proofs.coming.came_up.Goals as goal

pub returns-then-stopped-clause-run : goal.returns-then-stopped-clause-run
returns-then-stopped-clause-run g c = λ sure first number s idle came.
    let d = g.D.Disk in
    subst (ComesTo d.known sure d.cells d.sector_count d.arming first number s command.Mount) (sym c.answered.ensures)
    (cut_off c.mounts_cut_off_stand_safe.ensures.never_up d.known sure d.cells d.sector_count d.arming first number s c.args.mounted c.args.names c.args.past.items c.push_reserved.new.self
    c.unacknowledged.result c.into_disk.result c.restarted.result c.stopped.result idle came c.stopped.ensures c.if-stopped.true c.unacknowledged.ensures c.push_reserved.ensures.items c.into_disk.ensures
    c.restarted.ensures.cells c.restarted.ensures.goes_on c.restarted.ensures.unarmed)

pub returns-clause-run : goal.returns-clause-run
returns-clause-run g c = λ sure first number s idle came.
    let d = g.D.Disk in
    subst (ComesTo d.known sure d.cells d.sector_count d.arming first number s command.Mount) (sym c.answered-2.ensures)
    (comes_up d.known sure d.cells d.sector_count d.arming first number s c.args.mounted c.args.names c.args.past c.new-holds.result c.stopped.result idle came c.new-holds.ensures c.stopped.ensures c.if-stopped.false
    c.requires.room)

pub returns-then-stopped-clause-log : goal.returns-then-stopped-clause-log
returns-then-stopped-clause-log g c = λ free disk.
    let d = g.D.Disk in
    subst (TellsOfLog d.fault_count c.args.past.items (Idle disk)) (sym c.answered.ensures)
    (mount_stopped d.fault_count c.args.past.items disk c.restarted.result c.args.names c.push_reserved.new.self (c.unacknowledged.result ∷ []) c.push_reserved.ensures.items)

pub returns-clause-log : goal.returns-clause-log
returns-clause-log g c = λ free disk.
    let d = g.D.Disk in
    subst (TellsOfLog d.fault_count c.args.past.items (Idle disk)) (sym c.answered-2.ensures)
    (mount_up d.fault_count c.args.past.items disk c.args.names c.args.past (record { mounted = c.args.mounted; holds = c.new-holds.result }) c.args.mounted.story.kept c.args.mounted.story.freed refl free)
