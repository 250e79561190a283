use Rattle.std.proofs.Common.{refl, sym, subst}
use Rattle.run_history.specs.States.{table_now}
use Rattle.script_runs.proofs.Made.{is_made, one_entry, stands_left, uncalled_broken, up_as}
use Rattle.script_runs.proofs.CallTells.{called_tells}
use Rattle.script_runs.proofs.Tells.{last_record}
use Rattle.run_faults.specs.Progress.{EntriesStay}
use Rattle.script_runs.proofs.calling.make_call.Goals as goal

pub answer_made-requires-clause-entry : goal.answer_made-requires-clause-entry
answer_made-requires-clause-entry g c =
    let run = c.requires.running in
    let called = c.in-Ok.ensures.called run.0 run.1 run.2 in
    one_entry c.args.up.mounted.story c.call_on.new.mounted.story c.args.actor c.args.called called.answer called.story

pub returns-in-Ok-clause-run : goal.returns-in-Ok-clause-run
returns-in-Ok-clause-run g c = λ sure sound first number s m run is begins stands.
    let d = g.D.Disk in
    let up = c.args.up in
    let stand = up_as d.known d.cells d.sector_count s.lines s.up m up is run.device in
    c.answer_made.ensures.run sure first number s
    (is_made d.known sure d.cells d.sector_count d.fault_count d.arming first number s m c.args.actor c.args.spoken.now c.args.called c.args.names c.args.past.items up c.call_on.new.mounted
    run.names run.past is stand run.armed c.requires.kind begins (c.in-Ok.ensures.called m.start (table_now m) stand.running) c.call_on.ensures.arming
    (λ here. c.call_on.ensures.safe (sound here) first number s.past m.start (table_now m) stand.running
    (stands_left d.known d.cells d.sector_count s.lines first number s m up (d.cells up.mounted.store.disk) is stand (stands here))))

pub returns-in-Err-clause-run : goal.returns-in-Err-clause-run
returns-in-Err-clause-run g c = λ sure sound first number s m run is begins stands.
    let d = g.D.Disk in
    let up = c.args.up in
    let stand = up_as d.known d.cells d.sector_count s.lines s.up m up is run.device in
    uncalled_broken d.known sure d.cells d.sector_count d.arming first number s m c.args.actor c.args.spoken.now up _ c.call_on.new.mounted is run.past stand
    (c.in-Err.ensures.uncalled m.start (table_now m) stand.running) refl c.requires.room stands

pub returns-in-Ok-clause-log : goal.returns-in-Ok-clause-log
returns-in-Ok-clause-log g c =
    let d = g.D.Disk in
    let up = c.args.up in
    let run = c.requires.running in
    let called = c.in-Ok.ensures.called run.0 run.1 run.2 in
    c.answer_made.ensures.log up c.args.called called.answer called.story
    (called_tells d.known d.cells d.sector_count d.fault_count run.0 run.1 c.args.actor c.args.called up (record { mounted = c.call_on.new.mounted; holds = up.holds }) c.requires.kind called)

pub returns-in-Err-clause-log : goal.returns-in-Err-clause-log
returns-in-Err-clause-log g c =
    let run = c.requires.running in
    let uncalled = c.in-Err.ensures.uncalled run.0 run.1 run.2 in
    last_record c.args.past.items c.args.up.mounted.story c.call_on.new.mounted.story
    (subst (EntriesStay c.args.up.mounted.story) (sym uncalled.story) (λ place entry at. at))
