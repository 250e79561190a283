use Rattle.std.proofs.Common.{◌∙◌, subst}
use Rattle.script.specs.declared.types.Command.TheVariants as command
use Rattle.disk_model.specs.Disk.{as_read}
use Rattle.whole_image.specs.Damage.{IsSound}
use Rattle.mount.specs.Faults.{IsMountCause}
use Rattle.script_runs.proofs.Armed.{armed_behind, armed_down}
use Rattle.script_runs.proofs.Idle.{stands_idle}
use Rattle.script_runs.proofs.Untouched.{image_before, kept_before, sound_stays, unbegun_damaged}
use Rattle.life_table.specs.declared.types.MountRecord.{MountRecord}
use Rattle.std.specs.Prelude.{List}
use Rattle.script_runs.specs.Faults.{TellsOfLog}
use Rattle.script_runs.specs.declared.running.Device.TheVariants.{Idle}
use Rattle.script_runs.proofs.coming.mount_idle.Goals as goal

pub returns-in-Ok-clause-run : goal.returns-in-Ok-clause-run
returns-in-Ok-clause-run g c = λ sure tells first number s idle armed stands.
    let d = g.D.Disk in
    let e = c.in-Ok.ensures in
    let records = c.reserve.ensures.items ∙ idle.records in
    c.came_up.ensures.run sure first number s (record { down = idle.down; bound = idle.bound; records = records }) (record {
      behind = λ told. e.up (tells told) first number s.past (stands_idle first number s (d.cells c.args.disk) idle.down (stands told)) (c.last_base-behind.ensures s.past (c.deref.ensures.value ∙ records));
      running = e.running;
      fresh = e.fresh;
      base = e.limits.0;
      few = e.limits.1;
      behind_writes = armed_behind s.armed (d.arming c.args.disk) (d.arming c.in-Ok.mounted.store.disk) armed e.writes;
    })

pub returns-in-Ok-clause-untouched : goal.returns-in-Ok-clause-untouched
returns-in-Ok-clause-untouched g c = λ told before none left.
    let d = g.D.Disk in
    sound_stays d.cells before command.Mount c.came_up.result (subst IsSound (image_before (d.cells c.args.disk) before left) (c.in-Ok.ensures.sound told))

pub returns-in-Err-clause-run : goal.returns-in-Err-clause-run
returns-in-Err-clause-run g c = λ sure tells first number s idle armed stands.
    let d = g.D.Disk in
    let e = c.in-Err.ensures in
    let m = c.in-Err.down in
    let records = c.reserve.ensures.items ∙ idle.records in
    c.stayed_down.ensures.run sure first number s (record { down = idle.down; bound = idle.bound; records = records }) (record {
      stands = λ told. e.down (tells told) first number s.past (stands_idle first number s (d.cells c.args.disk) idle.down (stands told)) (c.last_base-behind.ensures s.past (c.deref.ensures.value ∙ records));
      fresh = e.begun;
      unbegun = λ told. unbegun_damaged c.one_first_damage.ensures.none (as_read (d.cells c.args.disk)) m.fault m.begun (e.cause (tells told)) (e.untouched (tells told));
      behind_writes = armed_down s.armed m.begun m.fault (d.arming c.args.disk) (d.arming m.disk) armed e.writes_down;
    })

pub returns-in-Err-clause-untouched : goal.returns-in-Err-clause-untouched
returns-in-Err-clause-untouched g c = λ told before none left.
    let d = g.D.Disk in
    let e = c.in-Err.ensures in
    let m = c.in-Err.down in
    c.stayed_down.ensures.untouched before (c.reserve.ensures.items ∙ none) (record {
      cause = subst (λ image. IsMountCause image m.fault) (image_before (d.cells c.args.disk) before left) (e.cause told);
      kept = kept_before (d.cells c.args.disk) (d.cells m.disk) before m.begun left (e.untouched told);
      earlier = d.arming c.args.disk;
      goes_on = c.requires.goes_on;
      arms = e.writes_down;
    })

pub returns-in-Ok-clause-log : goal.returns-in-Ok-clause-log
returns-in-Ok-clause-log g c =
    let d = g.D.Disk in
    subst (λ (past : List MountRecord). TellsOfLog d.fault_count past (Idle c.args.disk) c.came_up.result) c.reserve.ensures.items
    (c.came_up.ensures.log c.in-Ok.ensures.free c.args.disk)

pub returns-in-Err-clause-log : goal.returns-in-Err-clause-log
returns-in-Err-clause-log g c =
    let d = g.D.Disk in
    subst (λ (past : List MountRecord). TellsOfLog d.fault_count past (Idle c.args.disk) c.stayed_down.result) c.reserve.ensures.items
    (c.stayed_down.ensures.log c.args.disk c.in-Err.ensures.device)
