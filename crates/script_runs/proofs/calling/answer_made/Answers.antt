use Rattle.std.proofs.Common.{arith, refl, ap, sym, ◌∙◌, ◌≡◌, ◌+◌, ◌-◌, length}
use Rattle.mounted_calls.specs.Calls.{entry_of}
use Rattle.script_runs.proofs.Made.{comes_stopped, made_broken, made_line, steady_call}
use Rattle.script_runs.proofs.CallTells.{call_stays, call_tells}
use Rattle.script_runs.proofs.Tells.{last_record, stops_mount}
use Rattle.script_runs.proofs.calling.answer_made.Goals as goal

pub returns-then-stopped-clause-run : goal.returns-then-stopped-clause-run
returns-then-stopped-clause-run g c = λ sure first number s made.
    let d = g.D.Disk in
    comes_stopped d.known sure d.cells d.sector_count d.arming d.fault_count first number s c.args.actor c.args.spoken.now c.args.names c.args.past.items c.args.up c.stopped_in.result made c.stopped_in.ensures
    (sym c.stopped.ensures ∙ c.if-stopped.true)

pub returns-in-Ok-clause-run : goal.returns-in-Ok-clause-run
returns-in-Ok-clause-run g c = λ sure first number s made.
    let d = g.D.Disk in
    let up = c.args.up in
    let entries = up.mounted.story.entries in
    let noted = c.in-Ok.ensures.noted s.names made.before.story.entries (entry_of c.args.actor made.made made.answer) made.bound made.holds (steady_call made.made made.answer made.whole)
    (ap (λ story. story.entries) made.story) in
    let size : length c.as_slice.result.now ≡ length entries = ap length c.as_slice.ensures in
    let some = c.requires.entry in
    let place : (length c.as_slice.result.now - 1) + 1 ≡ length entries = omega arith in
    made_line d.known sure d.cells d.sector_count d.arming first number s c.args.actor c.args.spoken.now c.args.names c.args.past.items up
    _ c.note_last-noted.new.holds c.len-mount.result _ made refl refl c.requires.room noted.0 noted.1 (sym c.stopped.ensures ∙ c.if-stopped.false) (c.len-mount.ensures ∙ c.args.past.ok.0) place

pub returns-in-Err-clause-run : goal.returns-in-Err-clause-run
returns-in-Err-clause-run g c = λ sure first number s made.
    let d = g.D.Disk in
    made_broken d.known sure d.cells d.sector_count d.arming first number s c.args.actor c.args.spoken.now c.args.names c.args.past.items c.args.up
    _ c.note_last-noted.new.holds made refl refl c.requires.room

pub returns-then-stopped-clause-log : goal.returns-then-stopped-clause-log
returns-then-stopped-clause-log g c = λ old called answer is told.
    let d = g.D.Disk in
    stops_mount d.cells d.arming d.fault_count c.args.names c.args.past.items old c.args.up c.stopped_in.result
    (call_stays old.mounted.story c.args.up.mounted.story c.args.actor called answer is) c.stopped_in.ensures

pub returns-in-Ok-clause-log : goal.returns-in-Ok-clause-log
returns-in-Ok-clause-log g c = λ old called answer is told.
    let d = g.D.Disk in
    let up = c.args.up in
    let size : length c.as_slice.result.now ≡ length up.mounted.story.entries = ap length c.as_slice.ensures in
    let some = c.requires.entry in
    let place : (length c.as_slice.result.now - 1) + 1 ≡ length up.mounted.story.entries = omega arith in
    call_tells d.fault_count old up c.note_last-noted.new.holds c.note_last-noted.new.names c.args.past c.len-mount.result c.args.actor _ called answer is (c.len-mount.ensures ∙ c.args.past.ok.0) place told

pub returns-in-Err-clause-log : goal.returns-in-Err-clause-log
returns-in-Err-clause-log g c = λ old called answer is told.
    last_record c.args.past.items old.mounted.story c.args.up.mounted.story (call_stays old.mounted.story c.args.up.mounted.story c.args.actor called answer is)
