use Rattle.std.proofs.Common.{◌+◌, ◌<◌, subst, sym, ◌∙◌}
use Rattle.std.specs.Prelude.{Err, Ok}
use Rattle.life_table.specs.declared.types.MountRecord.{MountRecord}
use Rattle.life_table.specs.History.{IsHeld, key_of}
use Rattle.script.specs.declared.types.Command.TheVariants as command
use Rattle.script.specs.declared.answers.LineReply.TheVariants as line
use Rattle.run_history.specs.Mounts.{changes_made}
use Rattle.run_history.specs.States.{table_now}
use Rattle.script_runs.specs.Running.{ComesTo, SaysNoDamage}
use Rattle.script_runs.specs.declared.running.Comes.{Comes}
use Rattle.script_runs.proofs.Begun.{begun_as, may_be_made, no_damage, nothing_refused}
use Rattle.script_runs.proofs.Made.{groups_are, refused_line, same_reply, up_mount, within}
use Rattle.script_runs.specs.Faults.{TellsOfLog}
use Rattle.script_runs.specs.declared.running.Device.TheVariants as device
use Rattle.script_runs.proofs.Tells.{plain_line}
use Rattle.script_runs.proofs.calling.call_up.Goals as goal

pub make_call-requires-clause-kind : goal.make_call-requires-clause-kind
make_call-requires-clause-kind g c =
    let d = g.D.Disk in
    let up = c.args.up in
    let h = c.requires.line in
    let is = up_mount d.known d.cells d.sector_count h.s.lines h.s.up up h.run_is.device in
    (may_be_made up.mounted.geometry.groups h.s.names is.0.story.entries c.args.actor c.args.spoken.now c.in-Ok.called c.requires.words
    (sym (c.begun_call.ensures h.s.names is.0.story.entries h.run_is.names is.2.holds) ∙ c.in-Ok.is)).kind

pub make_call-requires-clause-running : goal.make_call-requires-clause-running
make_call-requires-clause-running g c =
    let d = g.D.Disk in
    let h = c.requires.line in
    let is = up_mount d.known d.cells d.sector_count h.s.lines h.s.up c.args.up h.run_is.device in
    (is.0.start, table_now is.0, is.2.running)

pub make_call-requires-clause-group : goal.make_call-requires-clause-group
make_call-requires-clause-group g c =
    let d = g.D.Disk in
    let up = c.args.up in
    let h = c.requires.line in
    let is = up_mount d.known d.cells d.sector_count h.s.lines h.s.up up h.run_is.device in
    (may_be_made up.mounted.geometry.groups h.s.names is.0.story.entries c.args.actor c.args.spoken.now c.in-Ok.called c.requires.words
    (sym (c.begun_call.ensures h.s.names is.0.story.entries h.run_is.names is.2.holds) ∙ c.in-Ok.is)).names

pub make_call-requires-clause-held : goal.make_call-requires-clause-held
make_call-requires-clause-held g c =
    let d = g.D.Disk in
    let up = c.args.up in
    let h = c.requires.line in
    let is = up_mount d.known d.cells d.sector_count h.s.lines h.s.up up h.run_is.device in
    subst (λ (x : MountRecord). IsHeld x.entries c.args.actor (key_of c.in-Ok.called)) is.2.story
    (may_be_made up.mounted.geometry.groups h.s.names is.0.story.entries c.args.actor c.args.spoken.now c.in-Ok.called c.requires.words
    (sym (c.begun_call.ensures h.s.names is.0.story.entries h.run_is.names is.2.holds) ∙ c.in-Ok.is)).held

pub make_call-requires-clause-number : goal.make_call-requires-clause-number
make_call-requires-clause-number g c =
    let d = g.D.Disk in
    let h = c.requires.line in
    let is = up_mount d.known d.cells d.sector_count h.s.lines h.s.up c.args.up h.run_is.device in
    subst (λ (x : MountRecord). x.base + changes_made x < 18446744073709551615) is.2.story (within is.0.story h.s.lines is.2.number is.2.few h.few)

pub returns-in-Ok-clause-run : goal.returns-in-Ok-clause-run
returns-in-Ok-clause-run g c = λ sure sound first number s run few stands.
    let d = g.D.Disk in
    let up = c.args.up in
    let is = up_mount d.known d.cells d.sector_count s.lines s.up up run.device in
    c.make_call.ensures.run sure sound first number s is.0 run is.1
    (λ here. begun_as s is.0 up.mounted.geometry.groups c.args.actor c.args.spoken.now (Ok c.in-Ok.called)
    (groups_are d.cells d.sector_count d.known is.0.start (table_now is.0) up.mounted (sound here) is.2.running)
    (sym c.in-Ok.is ∙ c.begun_call.ensures s.names is.0.story.entries run.names is.2.holds)) stands

pub returns-in-Err-clause-run : goal.returns-in-Err-clause-run
returns-in-Err-clause-run g c = λ sure sound first number s run few stands.
    let d = g.D.Disk in
    let up = c.args.up in
    let is = up_mount d.known d.cells d.sector_count s.lines s.up up run.device in
    subst (λ (x : Comes g.row.D.Denot). ComesTo d.known sure d.cells d.sector_count d.arming first number s (command.Whole c.args.actor c.args.spoken.now) x) (sym c.answered.ensures)
    (refused_line d.known sure d.cells d.sector_count d.arming first number s is.0 c.args.actor c.args.spoken.now c.in-Err.reply _ run is.1 is.2.going
    (λ here. begun_as s is.0 up.mounted.geometry.groups c.args.actor c.args.spoken.now (Err c.in-Err.reply)
    (groups_are d.cells d.sector_count d.known is.0.start (table_now is.0) up.mounted (sound here) is.2.running)
    (sym c.in-Err.is ∙ c.begun_call.ensures s.names is.0.story.entries run.names is.2.holds)) stands)

pub returns-in-Err-clause-no_damage : goal.returns-in-Err-clause-no_damage
returns-in-Err-clause-no_damage g c =
    let d = g.D.Disk in
    let up = c.args.up in
    let h = c.requires.line in
    let is = up_mount d.known d.cells d.sector_count h.s.lines h.s.up up h.run_is.device in
    subst (λ (x : Comes g.row.D.Denot). SaysNoDamage x) (sym c.answered.ensures)
    (λ rule sector said. no_damage up.mounted.geometry.groups h.s.names is.0.story.entries c.args.actor c.args.spoken.now c.in-Err.reply rule sector
    (sym (c.begun_call.ensures h.s.names is.0.story.entries h.run_is.names is.2.holds) ∙ c.in-Err.is) (same_reply c.in-Err.reply (line.Damaged rule sector) said))

pub returns-in-Err-clause-log : goal.returns-in-Err-clause-log
returns-in-Err-clause-log g c =
    let d = g.D.Disk in
    let up = c.args.up in
    let h = c.requires.line in
    let is = up_mount d.known d.cells d.sector_count h.s.lines h.s.up up h.run_is.device in
    subst (TellsOfLog d.fault_count c.args.past.items (device.Mounted up)) (sym c.answered.ensures)
    (plain_line d.fault_count (device.Mounted up) c.args.names c.args.past c.in-Err.reply
    (nothing_refused up.mounted.geometry.groups h.s.names is.0.story.entries c.args.actor c.args.spoken.now c.in-Err.reply
    (sym (c.begun_call.ensures h.s.names is.0.story.entries h.run_is.names is.2.holds) ∙ c.in-Err.is)))
