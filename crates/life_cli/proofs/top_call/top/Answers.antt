use Rattle.std.proofs.Common.{◌≡◌, ◌+◌, ℕ, List, [], Option, None, codes, inr, refl, subst}
use Rattle.life_limits.specs.declared.TheConstants.{MAX_SCRIPT_BYTES}
use Rattle.geometry.specs.declared.shape.Geometry.{Geometry}
use Rattle.script.specs.declared.status.Status.{Status}
use Rattle.script.specs.declared.status.Status.TheVariants as status
use Rattle.life_cli.specs.Checking.{RunsCheck}
use Rattle.life_cli.specs.Making.{RunsMake, sectors_of}
use Rattle.life_cli.specs.Form.{IsForm}
use Rattle.life_cli.specs.declared.checking.Numbers.{Numbers}
use Rattle.life_cli.specs.declared.form.Form.{Form}
use Rattle.life_cli.specs.Outcome.{EndsWith}
use Rattle.life_cli.specs.Outside.{ImagesSeen, ScriptSeen}
use Rattle.life_cli.specs.Steps.{RunsSteps}
use Rattle.script.specs.Texts.{output}
use Rattle.life_cli.specs.Texts.{check_output, make_output}
use Rattle.life_cli.proofs.Checkings.{RunsCheck-early, RunsCheck-told, check_back, check_disk}
use Rattle.life_cli.proofs.Makings.{RunsMake-told, at_one, at_path, make_back, make_disk}
use Rattle.life_cli.proofs.Shortages.{RunsMake-short, RunsNothing-short, given_back, no_other, short_yields, takes_nothing}
use Rattle.life_cli.proofs.Statuses.{CompletesAs-memory, FaultsExactly-memory}
use Rattle.life_cli.proofs.Stepping.{RunsSteps-early, RunsSteps-told, steps_back, steps_disk, steps_usage}
use Rattle.life_cli.proofs.top_call.top.Goals as goal

pub returns-in-Some-Steps-clause-steps : goal.returns-in-Some-Steps-clause-steps
returns-in-Some-Steps-clause-steps g c path is =
    let seen : ImagesSeen g.row.I.Denot g.row.I-Disk.Denot = record {
      given = g.I.Images.given;
      faults = g.I.Images.fault_count;
      image_at = g.I.Images.image_at;
      known = g.I.Disk.Disk.known;
      cells = g.I.Disk.Disk.cells;
      sectors = g.I.Disk.Disk.sector_count;
      disk_faults = g.I.Disk.Disk.fault_count;
    } in
    let source : ScriptSeen g.row.S.Denot = record { bytes_left = g.S.Source.bytes_left; faults = g.S.Source.fault_count } in
    let run = c.run_steps.result in
    let ended = c.write_run.result in
    let written = c.write_run.ensures in
    at_path
    (λ (p : List ℕ). EndsWith (λ (own : Status). RunsSteps seen source p c.args.images.now c.run_steps.new.images c.args.script.now c.run_steps.new.script
    own ended.disk ended.mounts.items ended.groups.items ended.said.items) (output ended.said.items ended.mounts.items ended.groups.items) (g.K.Sink.bytes_held c.args.out.now)
    (g.K.Sink.bytes_held c.write_run.new.out) ended.status) c.args.words.now (codes "steps") c.in-Some-Steps.path.now path (subst (λ (f : Form). IsForm c.args.words.now f) (rw c.in-Some-Steps.is at c.in-Some-Steps.field-0-is) (rw c.in-Some-Steps.is at c.in-Ok.ensures)) is
    (record {
      own = run.status;
      promised = RunsSteps-told seen source c.in-Some-Steps.path.now c.args.images.now c.run_steps.new.images c.args.script.now c.run_steps.new.script
          run.status run.status run.disk ended.disk run.mounts.items ended.mounts.items run.groups.items ended.groups.items run.said.items ended.said.items refl written.disk written.mounts written.groups written.said
          c.run_steps.ensures;
      yields = written.status;
      written = written.output;
    })

pub returns-in-Some-Steps-clause-usage : goal.returns-in-Some-Steps-clause-usage
returns-in-Some-Steps-clause-usage g c is =
    steps_usage (g.S.Source.bytes_left c.args.script.now) (g.S.Source.fault_count c.args.script.now) (g.S.Source.fault_count c.run_steps.new.script)
    (g.I.Images.fault_count c.args.images.now) (g.I.Images.fault_count c.run_steps.new.images) c.run_steps.result.status c.write_run.result.status
    c.run_steps.ensures.ends c.write_run.ensures.status is

pub returns-in-Some-Steps-clause-handed_back : goal.returns-in-Some-Steps-clause-handed_back
returns-in-Some-Steps-clause-handed_back g c =
    let seen : ImagesSeen g.row.I.Denot g.row.I-Disk.Denot = record {
      given = g.I.Images.given;
      faults = g.I.Images.fault_count;
      image_at = g.I.Images.image_at;
      known = g.I.Disk.Disk.known;
      cells = g.I.Disk.Disk.cells;
      sectors = g.I.Disk.Disk.sector_count;
      disk_faults = g.I.Disk.Disk.fault_count;
    } in
    let source : ScriptSeen g.row.S.Denot = record { bytes_left = g.S.Source.bytes_left; faults = g.S.Source.fault_count } in
    let run = c.run_steps.result in
    let ended = c.write_run.result in
    let written = c.write_run.ensures in
    steps_back seen source c.args.words.now c.in-Some-Steps.path.now c.args.images.now c.run_steps.new.images c.args.script.now c.run_steps.new.script
    run.status ended.disk ended.mounts.items ended.groups.items ended.said.items (subst (λ (f : Form). IsForm c.args.words.now f) (rw c.in-Some-Steps.is at c.in-Some-Steps.field-0-is) (rw c.in-Some-Steps.is at c.in-Ok.ensures))
    (RunsSteps-told seen source c.in-Some-Steps.path.now c.args.images.now c.run_steps.new.images c.args.script.now c.run_steps.new.script
    run.status run.status run.disk ended.disk run.mounts.items ended.mounts.items run.groups.items ended.groups.items run.said.items ended.said.items refl written.disk written.mounts written.groups written.said
    c.run_steps.ensures)

pub returns-in-Some-Steps-clause-disk : goal.returns-in-Some-Steps-clause-disk
returns-in-Some-Steps-clause-disk g c good =
    let seen : ImagesSeen g.row.I.Denot g.row.I-Disk.Denot = record {
      given = g.I.Images.given;
      faults = g.I.Images.fault_count;
      image_at = g.I.Images.image_at;
      known = g.I.Disk.Disk.known;
      cells = g.I.Disk.Disk.cells;
      sectors = g.I.Disk.Disk.sector_count;
      disk_faults = g.I.Disk.Disk.fault_count;
    } in
    let source : ScriptSeen g.row.S.Denot = record { bytes_left = g.S.Source.bytes_left; faults = g.S.Source.fault_count } in
    let run = c.run_steps.result in
    let ended = c.write_run.result in
    let written = c.write_run.ensures in
    steps_disk seen source c.in-Some-Steps.path.now c.args.images.now c.run_steps.new.images c.args.script.now c.run_steps.new.script
    run.status ended.status ended.disk ended.mounts.items ended.groups.items ended.said.items
    (RunsSteps-told seen source c.in-Some-Steps.path.now c.args.images.now c.run_steps.new.images c.args.script.now c.run_steps.new.script
    run.status run.status run.disk ended.disk run.mounts.items ended.mounts.items run.groups.items ended.groups.items run.said.items ended.said.items refl written.disk written.mounts written.groups written.said
    c.run_steps.ensures) written.status good

pub returns-in-Some-Make-clause-make : goal.returns-in-Some-Make-clause-make
returns-in-Some-Make-clause-make g c path geometry is =
    let seen : ImagesSeen g.row.I.Denot g.row.I-Disk.Denot = record {
      given = g.I.Images.given;
      faults = g.I.Images.fault_count;
      image_at = g.I.Images.image_at;
      known = g.I.Disk.Disk.known;
      cells = g.I.Disk.Disk.cells;
      sectors = g.I.Disk.Disk.sector_count;
      disk_faults = g.I.Disk.Disk.fault_count;
    } in
    let run = c.run_make.result in
    let ended = c.write_make.result in
    let written = c.write_make.ensures in
    at_one
    (λ (p : List ℕ) (k : Geometry). EndsWith (λ (own : Status). RunsMake seen p k c.args.images.now c.run_make.new.images own ended.disk ended.mounts.items ended.groups.items
    ended.said.items) (make_output (sectors_of k)) (g.K.Sink.bytes_held c.args.out.now) (g.K.Sink.bytes_held c.write_make.new.out) ended.status) c.args.words.now
    c.in-Some-Make.path.now path c.in-Some-Make.geometry geometry (subst (λ (f : Form). IsForm c.args.words.now f) (rw c.in-Some-Make.is at c.in-Some-Make.field-0-is) (rw c.in-Some-Make.is at c.in-Ok.ensures)) is
    (record {
      own = run.status;
      promised = RunsMake-told seen c.in-Some-Make.path.now c.in-Some-Make.geometry c.args.images.now c.run_make.new.images run.status run.disk ended.disk
          run.mounts.items ended.mounts.items run.groups.items ended.groups.items run.said.items ended.said.items written.disk written.mounts written.groups written.said c.run_make.ensures;
      yields = written.status;
      written = written.output;
    })

pub returns-in-Some-Make-clause-handed_back : goal.returns-in-Some-Make-clause-handed_back
returns-in-Some-Make-clause-handed_back g c =
    let seen : ImagesSeen g.row.I.Denot g.row.I-Disk.Denot = record {
      given = g.I.Images.given;
      faults = g.I.Images.fault_count;
      image_at = g.I.Images.image_at;
      known = g.I.Disk.Disk.known;
      cells = g.I.Disk.Disk.cells;
      sectors = g.I.Disk.Disk.sector_count;
      disk_faults = g.I.Disk.Disk.fault_count;
    } in
    let run = c.run_make.result in
    let ended = c.write_make.result in
    let written = c.write_make.ensures in
    make_back seen c.args.words.now c.in-Some-Make.path.now c.in-Some-Make.geometry c.args.images.now c.run_make.new.images run.status ended.disk
    ended.mounts.items ended.groups.items ended.said.items (subst (λ (f : Form). IsForm c.args.words.now f) (rw c.in-Some-Make.is at c.in-Some-Make.field-0-is) (rw c.in-Some-Make.is at c.in-Ok.ensures))
    (RunsMake-told seen c.in-Some-Make.path.now c.in-Some-Make.geometry c.args.images.now c.run_make.new.images run.status run.disk ended.disk
    run.mounts.items ended.mounts.items run.groups.items ended.groups.items run.said.items ended.said.items written.disk written.mounts written.groups written.said c.run_make.ensures)

pub returns-in-Some-Make-clause-disk : goal.returns-in-Some-Make-clause-disk
returns-in-Some-Make-clause-disk g c good =
    let seen : ImagesSeen g.row.I.Denot g.row.I-Disk.Denot = record {
      given = g.I.Images.given;
      faults = g.I.Images.fault_count;
      image_at = g.I.Images.image_at;
      known = g.I.Disk.Disk.known;
      cells = g.I.Disk.Disk.cells;
      sectors = g.I.Disk.Disk.sector_count;
      disk_faults = g.I.Disk.Disk.fault_count;
    } in
    let run = c.run_make.result in
    let ended = c.write_make.result in
    let written = c.write_make.ensures in
    make_disk seen c.in-Some-Make.path.now c.in-Some-Make.geometry c.args.images.now c.run_make.new.images run.status ended.status ended.disk
    ended.mounts.items ended.groups.items ended.said.items
    (RunsMake-told seen c.in-Some-Make.path.now c.in-Some-Make.geometry c.args.images.now c.run_make.new.images run.status run.disk ended.disk
    run.mounts.items ended.mounts.items run.groups.items ended.groups.items run.said.items ended.said.items written.disk written.mounts written.groups written.said c.run_make.ensures) written.status good

pub returns-in-Some-Check-clause-check : goal.returns-in-Some-Check-clause-check
returns-in-Some-Check-clause-check g c path is =
    let seen : ImagesSeen g.row.I.Denot g.row.I-Disk.Denot = record {
      given = g.I.Images.given;
      faults = g.I.Images.fault_count;
      image_at = g.I.Images.image_at;
      known = g.I.Disk.Disk.known;
      cells = g.I.Disk.Disk.cells;
      sectors = g.I.Disk.Disk.sector_count;
      disk_faults = g.I.Disk.Disk.fault_count;
    } in
    let run = c.run_check-ended.result.ended in
    let found = c.run_check-ended.result.found in
    let ended = c.write_check.result in
    let written = c.write_check.ensures in
    at_path
    (λ (p : List ℕ). (it : Option Numbers) × EndsWith (λ (own : Status). RunsCheck seen p c.args.images.now c.run_check-ended.new.images own ended.disk it
    ended.mounts.items ended.groups.items ended.said.items) (check_output it) (g.K.Sink.bytes_held c.args.out.now) (g.K.Sink.bytes_held c.write_check.new.out) ended.status)
    c.args.words.now (codes "check") c.in-Some-Check.path.now path (subst (λ (f : Form). IsForm c.args.words.now f) (rw c.in-Some-Check.is at c.in-Some-Check.field-0-is) (rw c.in-Some-Check.is at c.in-Ok.ensures)) is (
      found,
      record {
        own = run.status;
        promised = RunsCheck-told seen c.in-Some-Check.path.now c.args.images.now c.run_check-ended.new.images run.status run.status run.disk ended.disk
            found run.mounts.items ended.mounts.items run.groups.items ended.groups.items run.said.items ended.said.items refl written.disk written.mounts written.groups written.said c.run_check-ended.ensures;
        yields = written.status;
        written = written.output;
      },
    )

pub returns-in-Some-Check-clause-handed_back : goal.returns-in-Some-Check-clause-handed_back
returns-in-Some-Check-clause-handed_back g c =
    let seen : ImagesSeen g.row.I.Denot g.row.I-Disk.Denot = record {
      given = g.I.Images.given;
      faults = g.I.Images.fault_count;
      image_at = g.I.Images.image_at;
      known = g.I.Disk.Disk.known;
      cells = g.I.Disk.Disk.cells;
      sectors = g.I.Disk.Disk.sector_count;
      disk_faults = g.I.Disk.Disk.fault_count;
    } in
    let run = c.run_check-ended.result.ended in
    let found = c.run_check-ended.result.found in
    let ended = c.write_check.result in
    let written = c.write_check.ensures in
    check_back seen c.args.words.now c.in-Some-Check.path.now c.args.images.now c.run_check-ended.new.images run.status ended.disk found
    ended.mounts.items ended.groups.items ended.said.items (subst (λ (f : Form). IsForm c.args.words.now f) (rw c.in-Some-Check.is at c.in-Some-Check.field-0-is) (rw c.in-Some-Check.is at c.in-Ok.ensures))
    (RunsCheck-told seen c.in-Some-Check.path.now c.args.images.now c.run_check-ended.new.images run.status run.status run.disk ended.disk
    found run.mounts.items ended.mounts.items run.groups.items ended.groups.items run.said.items ended.said.items refl written.disk written.mounts written.groups written.said c.run_check-ended.ensures)

pub returns-in-Some-Check-clause-disk : goal.returns-in-Some-Check-clause-disk
returns-in-Some-Check-clause-disk g c good =
    let seen : ImagesSeen g.row.I.Denot g.row.I-Disk.Denot = record {
      given = g.I.Images.given;
      faults = g.I.Images.fault_count;
      image_at = g.I.Images.image_at;
      known = g.I.Disk.Disk.known;
      cells = g.I.Disk.Disk.cells;
      sectors = g.I.Disk.Disk.sector_count;
      disk_faults = g.I.Disk.Disk.fault_count;
    } in
    let run = c.run_check-ended.result.ended in
    let found = c.run_check-ended.result.found in
    let ended = c.write_check.result in
    let written = c.write_check.ensures in
    check_disk seen c.in-Some-Check.path.now c.args.images.now c.run_check-ended.new.images run.status ended.status ended.disk found
    ended.mounts.items ended.groups.items ended.said.items
    (RunsCheck-told seen c.in-Some-Check.path.now c.args.images.now c.run_check-ended.new.images run.status run.status run.disk ended.disk
    found run.mounts.items ended.mounts.items run.groups.items ended.groups.items run.said.items ended.said.items refl written.disk written.mounts written.groups written.said c.run_check-ended.ensures)
    written.status good

pub returns-in-Err-clause-steps : goal.returns-in-Err-clause-steps
returns-in-Err-clause-steps g c path is =
    let seen : ImagesSeen g.row.I.Denot g.row.I-Disk.Denot = record {
      given = g.I.Images.given;
      faults = g.I.Images.fault_count;
      image_at = g.I.Images.image_at;
      known = g.I.Disk.Disk.known;
      cells = g.I.Disk.Disk.cells;
      sectors = g.I.Disk.Disk.sector_count;
      disk_faults = g.I.Disk.Disk.fault_count;
    } in
    let source : ScriptSeen g.row.S.Denot = record { bytes_left = g.S.Source.bytes_left; faults = g.S.Source.fault_count } in
    let ended = c.write_shortage.result in
    let short = c.write_shortage.ensures in
    record {
      own = status.NoMemory;
      promised = RunsSteps-early seen source path c.args.images.now c.args.images.now c.args.script.now c.args.script.now status.NoMemory status.NoMemory ended.disk
          ended.mounts.items ended.groups.items ended.said.items refl short.disk short.mounts short.groups short.said (λ (e : status.NoMemory ≡ status.Good). absurd cc) tt
          (FaultsExactly-memory (g.S.Source.bytes_left c.args.script.now)) (CompletesAs-memory (g.S.Source.bytes_left c.args.script.now))
          (λ refusal. absurd refusal) refl (takes_nothing (MAX_SCRIPT_BYTES + 1) (g.S.Source.bytes_left c.args.script.now))
          (λ (e : status.NoMemory ≡ status.ScriptTooLong). absurd cc);
      yields = short.status;
      written = short.output (output ended.said.items ended.mounts.items ended.groups.items) status.NoMemory;
    }

pub returns-in-Err-clause-make : goal.returns-in-Err-clause-make
returns-in-Err-clause-make g c path geometry is =
    let seen : ImagesSeen g.row.I.Denot g.row.I-Disk.Denot = record {
      given = g.I.Images.given;
      faults = g.I.Images.fault_count;
      image_at = g.I.Images.image_at;
      known = g.I.Disk.Disk.known;
      cells = g.I.Disk.Disk.cells;
      sectors = g.I.Disk.Disk.sector_count;
      disk_faults = g.I.Disk.Disk.fault_count;
    } in
    let ended = c.write_shortage.result in
    let short = c.write_shortage.ensures in
    record {
      own = status.NoMemory;
      promised = RunsMake-short seen path geometry c.args.images.now ended.disk ended.mounts.items ended.groups.items ended.said.items short.disk short.mounts short.groups short.said;
      yields = short.status;
      written = short.output (make_output (sectors_of geometry)) status.NoMemory;
    }

pub returns-in-Err-clause-check : goal.returns-in-Err-clause-check
returns-in-Err-clause-check g c path is =
    let seen : ImagesSeen g.row.I.Denot g.row.I-Disk.Denot = record {
      given = g.I.Images.given;
      faults = g.I.Images.fault_count;
      image_at = g.I.Images.image_at;
      known = g.I.Disk.Disk.known;
      cells = g.I.Disk.Disk.cells;
      sectors = g.I.Disk.Disk.sector_count;
      disk_faults = g.I.Disk.Disk.fault_count;
    } in
    let ended = c.write_shortage.result in
    let short = c.write_shortage.ensures in (
      None,
      record {
        own = status.NoMemory;
        promised = RunsCheck-early seen path c.args.images.now c.args.images.now status.NoMemory status.NoMemory ended.disk ended.mounts.items ended.groups.items ended.said.items
            refl short.disk short.mounts short.groups short.said tt (inr (inr refl)) (λ (e : status.NoMemory ≡ status.OpenFault). absurd cc) refl;
        yields = short.status;
        written = short.output (check_output None) status.NoMemory;
      },
    )

pub returns-in-Err-clause-no_form : goal.returns-in-Err-clause-no_form
returns-in-Err-clause-no_form g c none =
    let ended = c.write_shortage.result in
    let short = c.write_shortage.ensures in
    record {
      own = status.Usage;
      promised = RunsNothing-short c.args.images.now ended.disk ended.mounts.items ended.groups.items ended.said.items short.disk short.mounts short.groups short.said;
      yields = short_yields ended.status status.Usage short.status;
      written = short.output (output [] [] []) status.Usage;
    }

pub returns-in-Err-clause-usage : goal.returns-in-Err-clause-usage
returns-in-Err-clause-usage g c is =
    let usage : c.write_shortage.result.status ≡ status.Usage = is in
    absurd (no_other c.write_shortage.result.status c.write_shortage.ensures.status (λ e. cc) (λ e. cc))

pub returns-in-Err-clause-handed_back : goal.returns-in-Err-clause-handed_back
returns-in-Err-clause-handed_back g c =
    given_back _ _ c.write_shortage.result.disk c.write_shortage.ensures.disk (refl, record { no_mount = c.write_shortage.ensures.mounts; no_group = c.write_shortage.ensures.groups; no_answer = c.write_shortage.ensures.said })

pub returns-in-Err-clause-disk : goal.returns-in-Err-clause-disk
returns-in-Err-clause-disk g c is =
    let good : c.write_shortage.result.status ≡ status.Good = is in
    absurd (no_other c.write_shortage.result.status c.write_shortage.ensures.status (λ e. cc) (λ e. cc))
