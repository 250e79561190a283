use Rattle.std.proofs.Common.{ap, refl, subst, sym}
use Rattle.script.specs.declared.types.Command.TheVariants as command
use Rattle.run_history.specs.States.{table_now}
use Rattle.script_runs.specs.Running.{ComesTo}
use Rattle.script_runs.proofs.Made.{stands_left, up_mount}
use Rattle.script_runs.specs.Faults.{TellsOfLog}
use Rattle.script_runs.specs.declared.running.Device.TheVariants as device
use Rattle.life_table.specs.declared.types.MountRecord.{MountRecord}
use Rattle.script.specs.declared.answers.LineReply.TheVariants as line
use Rattle.script_runs.proofs.Tells.{plain_line}
use Rattle.script_runs.proofs.EndTells.{entries_same}
use Rattle.script_runs.proofs.Unmounts.{busy, none_held}
use Rattle.script_runs.proofs.Armed.{armed_behind}
use Rattle.script_runs.proofs.unmounting.unmount_up.Goals as goal

pub returns-then-opens-gt0-clause-run : goal.returns-then-opens-gt0-clause-run
returns-then-opens-gt0-clause-run g c = λ sure sound first number s run stands.
    let d = g.D.Disk in
    let up = c.args.up in
    let is = up_mount d.known d.cells d.sector_count s.lines s.up up run.device in
    subst (ComesTo d.known sure d.cells d.sector_count d.arming first number s command.Unmount) (sym c.answered.ensures)
    (busy c.holds_are_of_rows.ensures c.tables_without_orphans_free_nothing.ensures d.known sure d.cells d.sector_count d.arming first number s is.0 c.args.names c.args.past up c.count-opens.result
    run is.1 is.2 stands c.count-opens.ensures c.if-opens-gt0.true)

pub end_mount-requires : goal.end_mount-requires
end_mount-requires g c =
    let d = g.D.Disk in
    let h = c.requires.line in
    let is = up_mount d.known d.cells d.sector_count h.s.lines h.s.up c.args.up h.run_is.device in
    (is.0.start, table_now is.0, is.2.running)

pub returns-in-Ok-clause-run : goal.returns-in-Ok-clause-run
returns-in-Ok-clause-run g c = λ sure sound first number s run stands.
    let d = g.D.Disk in
    let up = c.args.up in
    let is = up_mount d.known d.cells d.sector_count s.lines s.up up run.device in
    let e = c.in-Ok.ensures in
    c.ended.ensures.run sure first number s up (record {
      leaving = record {
        before = is.0;
        is_up = is.1;
        bound = run.names;
        records = run.past;
        stand = is.2;
        none_held = none_held c.holds_are_of_rows.ensures d.known d.cells d.sector_count s.lines is.0 up c.count-opens.result is.2 c.count-opens.ensures c.if-opens-gt0.false;
      };
      story = e.story;
      behind_writes = armed_behind s.armed (d.arming up.mounted.store.disk) (d.arming c.in-Ok.end.disk) run.armed e.arming;
      safe = λ here. e.safe (sound here) first number s.past is.0.start (table_now is.0) is.2.running
          (stands_left d.known d.cells d.sector_count s.lines first number s is.0 up (d.cells up.mounted.store.disk) is.1 is.2 (stands here));
    }) refl

pub returns-in-Err-clause-run : goal.returns-in-Err-clause-run
returns-in-Err-clause-run g c = λ sure sound first number s run stands.
    let d = g.D.Disk in
    let up = c.args.up in
    let is = up_mount d.known d.cells d.sector_count s.lines s.up up run.device in
    let e = c.in-Err.ensures in
    c.not_ended.ensures.run sure first number s up (record {
      leaving = record {
        before = is.0;
        is_up = is.1;
        bound = run.names;
        records = run.past;
        stand = is.2;
        none_held = none_held c.holds_are_of_rows.ensures d.known d.cells d.sector_count s.lines is.0 up c.count-opens.result is.2 c.count-opens.ensures c.if-opens-gt0.false;
      };
      holds_are = refl;
      story = e.still.story;
      running = e.still.running;
      behind_writes = armed_behind s.armed (d.arming up.mounted.store.disk) (d.arming c.in-Err.still.mounted.store.disk) run.armed e.arming;
      safe = λ here. e.safe (sound here) first number s.past is.0.start (table_now is.0) is.2.running
          (stands_left d.known d.cells d.sector_count s.lines first number s is.0 up (d.cells up.mounted.store.disk) is.1 is.2 (stands here));
    })

pub returns-then-opens-gt0-clause-log : goal.returns-then-opens-gt0-clause-log
returns-then-opens-gt0-clause-log g c =
    let d = g.D.Disk in
    subst (TellsOfLog d.fault_count c.args.past.items (device.Mounted c.args.up)) (sym c.answered.ensures)
    (plain_line d.fault_count (device.Mounted c.args.up) c.args.names c.args.past (line.Busy c.count-opens.result) refl)

pub returns-in-Ok-clause-log : goal.returns-in-Ok-clause-log
returns-in-Ok-clause-log g c =
    let e = c.in-Ok.ensures in
    c.ended.ensures.log c.args.up (record {
      entries = entries_same c.args.up.mounted.story c.in-Ok.end.story (ap (λ (x : MountRecord). x.entries) e.story);
      was_up = e.down;
    })

pub returns-in-Err-clause-log : goal.returns-in-Err-clause-log
returns-in-Err-clause-log g c =
    let e = c.in-Err.ensures in
    c.not_ended.ensures.log c.args.up (record {
      entries = entries_same c.args.up.mounted.story c.in-Err.still.mounted.story (ap (λ (x : MountRecord). x.entries) e.still.story);
      cause = e.cause;
      down = λ count is. (e.down count is).0;
    })
