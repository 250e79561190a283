use Rattle.std.proofs.Common.{ap, subst, sym, ◌∙◌}
use Rattle.script.specs.declared.types.Command.TheVariants as command
use Rattle.script.specs.declared.answers.LineReply.TheVariants as line
use Rattle.script_runs.specs.Running.{ComesTo, IsBroken, SaysNoDamage, disk_of_run, records_with, run_of}
use Rattle.run_history.specs.Answers.{line_said}
use Rattle.script_runs.specs.declared.running.Comes.{Comes}
use Rattle.script_runs.specs.declared.running.Comes.TheVariants.{Answered}
use Rattle.script_runs.specs.declared.running.Run.{Run}
use Rattle.script_runs.specs.Faults.{TellsOfLog}
use Rattle.script_runs.specs.declared.running.Device.TheVariants as device
use Rattle.run_faults.specs.Progress.{RecordsGrow}
use Rattle.script_runs.proofs.Tells.{last_record}
use Rattle.script_runs.proofs.EndTells.{tells_down, tells_flush, tells_positions, tells_write}
use Rattle.script_runs.proofs.Unmounts.{broken_end, left_down, same_count, same_count_run, says_fault, still_up}
use Rattle.script_runs.proofs.unmounting.goes_on.Goals as goal

pub returns-in-Down-clause-run : goal.returns-in-Down-clause-run
returns-in-Down-clause-run g c = λ sure first number s up is.
    let d = g.D.Disk in
    subst (ComesTo d.known sure d.cells d.sector_count d.arming first number s command.Unmount) (sym c.answered.ensures)
    (left_down c.tables_without_orphans_free_nothing.ensures d.known sure d.cells d.sector_count d.arming first number s c.args.names c.args.past.items c.push_reserved.new.self c.args.holds up c.args.still
    c.leave-disk.result.1 c.leave-disk.result.0 c.in-Down.fault is c.leave-disk.ensures.story c.leave-disk.ensures.disk c.push_reserved.ensures.items c.requires.goes_on)

pub returns-in-Down-clause-log : goal.returns-in-Down-clause-log
returns-in-Down-clause-log g c = λ up tells.
    let d = g.D.Disk in
    subst (TellsOfLog d.fault_count c.args.past.items (device.Mounted up)) (sym c.answered.ensures)
    (tells_down d.fault_count c.args.past.items up c.args.still c.leave-disk.result.0 c.args.names c.push_reserved.new.self c.leave-disk.result.1 c.in-Down.fault tells c.in-Down.is c.leave-disk.ensures.story
    c.push_reserved.ensures.items)

pub returns-in-WriteFault : goal.returns-in-WriteFault
returns-in-WriteFault g c =
    let d = g.D.Disk in
    let is_run = c.answered-in-WriteFault.ensures ∙ ap (λ (r : Run g.row.D.Denot). Answered r (line_said line.WriteFault)) c.still_up-run.ensures in
    record {
      run = λ sure first number s up is.
          subst (ComesTo d.known sure d.cells d.sector_count d.arming first number s command.Unmount) (sym is_run)
          (still_up c.tables_without_orphans_free_nothing.ensures d.known sure d.cells d.sector_count d.arming first number s c.args.names c.args.past c.args.holds up c.args.still line.WriteFault is tt
          c.requires.goes_on c.requires.room);
      no_damage = subst SaysNoDamage (sym is_run) (λ rule sector said. says_fault line.WriteFault tt rule sector said);
      log = λ up tells. subst (TellsOfLog d.fault_count c.args.past.items (device.Mounted up)) (sym is_run)
          (tells_write d.fault_count up c.args.still c.args.names c.args.past c.args.holds tells c.in-WriteFault.is);
      count = same_count d.fault_count c.args.still.mounted.store.disk c.answered-in-WriteFault.result (sym (ap (λ (x : Comes g.row.D.Denot). disk_of_run (run_of x)) is_run));
    }

pub returns-in-FlushFault : goal.returns-in-FlushFault
returns-in-FlushFault g c =
    let d = g.D.Disk in
    let is_run = c.answered-in-FlushFault.ensures ∙ ap (λ (r : Run g.row.D.Denot). Answered r (line_said line.FlushFault)) c.still_up-run.ensures in
    record {
      run = λ sure first number s up is.
          subst (ComesTo d.known sure d.cells d.sector_count d.arming first number s command.Unmount) (sym is_run)
          (still_up c.tables_without_orphans_free_nothing.ensures d.known sure d.cells d.sector_count d.arming first number s c.args.names c.args.past c.args.holds up c.args.still line.FlushFault is tt
          c.requires.goes_on c.requires.room);
      no_damage = subst SaysNoDamage (sym is_run) (λ rule sector said. says_fault line.FlushFault tt rule sector said);
      log = λ up tells. subst (TellsOfLog d.fault_count c.args.past.items (device.Mounted up)) (sym is_run)
          (tells_flush d.fault_count up c.args.still c.args.names c.args.past c.args.holds tells c.in-FlushFault.is);
      count = same_count d.fault_count c.args.still.mounted.store.disk c.answered-in-FlushFault.result (sym (ap (λ (x : Comes g.row.D.Denot). disk_of_run (run_of x)) is_run));
    }

pub returns-in-PositionEnd : goal.returns-in-PositionEnd
returns-in-PositionEnd g c =
    let d = g.D.Disk in
    let is_run = c.answered-in-PositionEnd.ensures ∙ ap (λ (r : Run g.row.D.Denot). Answered r (line_said line.PositionEnd)) c.still_up-run.ensures in
    record {
      run = λ sure first number s up is.
          subst (ComesTo d.known sure d.cells d.sector_count d.arming first number s command.Unmount) (sym is_run)
          (still_up c.tables_without_orphans_free_nothing.ensures d.known sure d.cells d.sector_count d.arming first number s c.args.names c.args.past c.args.holds up c.args.still line.PositionEnd is tt
          c.requires.goes_on c.requires.room);
      no_damage = subst SaysNoDamage (sym is_run) (λ rule sector said. says_fault line.PositionEnd tt rule sector said);
      log = λ up tells. subst (TellsOfLog d.fault_count c.args.past.items (device.Mounted up)) (sym is_run)
          (tells_positions d.fault_count up c.args.still c.args.names c.args.past c.args.holds tells c.in-PositionEnd.is);
      count = same_count d.fault_count c.args.still.mounted.store.disk c.answered-in-PositionEnd.result (sym (ap (λ (x : Comes g.row.D.Denot). disk_of_run (run_of x)) is_run));
    }

pub returns-in-Busy : goal.returns-in-Busy
returns-in-Busy g c =
    let d = g.D.Disk in
    record {
      run = λ sure first number s up is.
          subst (IsBroken sure d.cells first number s command.Unmount) (sym c.still_up-run.ensures)
          (broken_end d.known sure d.cells d.sector_count d.arming first number s c.args.names c.args.past c.args.holds up c.args.still is c.requires.room);
      no_damage = tt;
      log = λ up tells. subst (λ (r : Run g.row.D.Denot). RecordsGrow (records_with c.args.past.items (device.Mounted up)) (records_with r.past.items r.device)) (sym c.still_up-run.ensures)
          (last_record c.args.past.items up.mounted.story c.args.still.mounted.story tells.entries);
      count = same_count_run d.fault_count c.args.still.mounted.store.disk c.still_up-run.result (sym (ap (λ (x : Run g.row.D.Denot). disk_of_run x) c.still_up-run.ensures));
    }
