use Rattle.std.proofs.Common.{◌++◌, ◌∷◌, [], length-append, ℕ, false, ◌≡◌, ◌+◌, List, ap, refl, sym, subst, ◌∙◌, arith, length, inl}
use Rattle.std.proofs.lemmas.Bool.{false≢true}
use Rattle.script.specs.declared.answers.Said.{Said}
use Rattle.script.specs.declared.status.Status.TheVariants as status
use Rattle.run_history.specs.Rows.{row_table}
use Rattle.script_runs.proofs.Runs.{RunsSoFar, begins, first-image-of, goes-on, headline-of, over-at, over-within, room-broken, safe-begin, handed-over, item-at}
use Rattle.script_runs.specs.Running.{disk_of_run, records_with}
use Rattle.script_runs.proofs.RunTells.{TellsSoFar, begins_told, broken_told, goes_on_told, over_told}
use Rattle.script_runs.proofs.run.run_script.Goals as goal

pub loop-line-init : goal.loop-line-init
loop-line-init g c =
    let d = g.D.Disk in
    record {
      so = begins d.known d.cells d.sector_count d.fault_count d.arming c.args.lines.now c.args.disk c.new-said.result.items _ c.runs_go_on.ensures.begins c.new-said.ensures.items c.new.ensures
          c.new-2.ensures.items refl c.requires.goes_on c.requires.unarmed;
      at = ap length c.new-said.ensures.items;
      tells = begins_told d.fault_count c.args.disk c.new-said.result.items _ c.runs_tell_on.ensures.begins c.new-said.ensures.items c.new-2.ensures.items refl;
    }

pub handed_back-requires : goal.handed_back-requires
handed_back-requires g c = (c.loop-line.invariant.so.come false (λ e. absurd (false≢true e)) row_table 0 (λ e. absurd (false≢true e))).run_is.room

pub answer_line-requires-clause-steady : goal.answer_line-requires-clause-steady
answer_line-requires-clause-steady g c = c.requires.steady c.loop-line.line-index c.line-item.result (item-at c.args.lines.now c.loop-line.line-index c.loop-line.line-index c.line-item.result refl c.loop-line-test.true c.line-item.is)

pub answer_line-requires-clause-line : goal.answer_line-requires-clause-line
answer_line-requires-clause-line g c =
    let come = c.loop-line.invariant.so.come false (λ e. absurd (false≢true e)) row_table 0 (λ e. absurd (false≢true e)) in
    let size = come.count in
    let at = c.loop-line.invariant.at in
    let low = c.loop-line-test.true in
    let few = c.requires.few in
    record { s = come.s; run_is = come.run_is; few = omega (arith, size, at, low, few) }

pub handed_back-requires-in-Unanswered : goal.handed_back-requires-in-Unanswered
handed_back-requires-in-Unanswered g c =
    let d = g.D.Disk in
    room-broken d.known d.cells d.sector_count d.fault_count d.arming c.args.lines.now c.args.disk c.loop-line.said.items c.loop-line.run c.in-Unanswered.left c.line-item.result row_table c.requires.few
    (item-at c.args.lines.now c.loop-line.line-index (length c.loop-line.said.items) c.line-item.result c.loop-line.invariant.at c.loop-line-test.true c.line-item.is) c.loop-line.invariant.so (record { runs = c.in-Unanswered.ensures.run; untouched = c.in-Unanswered.ensures.untouched; sound = c.in-Unanswered.ensures.sound; count = c.in-Unanswered.ensures.count })

pub loop-line-preserved : goal.loop-line-preserved
loop-line-preserved g c =
    let d = g.D.Disk in
    let old = c.loop-line.said.items in
    let said : c.push_reserved.new.self.items ≡ old ++ c.in-Answered.one ∷ [] = c.push_reserved.ensures.items ∙ ap (λ (l : List Said). l ++ c.in-Answered.one ∷ []) c.reserve.ensures.items in
    record {
      so = subst (λ (l : List Said). RunsSoFar d.known d.cells d.sector_count d.fault_count d.arming c.args.lines.now c.args.disk l c.in-Answered.next) (sym said)
          (goes-on d.known d.cells d.sector_count d.fault_count d.arming c.args.lines.now c.args.disk old c.loop-line.run c.in-Answered.next c.line-item.result c.in-Answered.one c.runs_go_on.ensures.goes_on c.requires.few
          (item-at c.args.lines.now c.loop-line.line-index (length c.loop-line.said.items) c.line-item.result c.loop-line.invariant.at c.loop-line-test.true c.line-item.is) c.loop-line.invariant.so (record { runs = c.in-Answered.ensures.run; untouched = c.in-Answered.ensures.untouched; sound = c.in-Answered.ensures.sound; count = c.in-Answered.ensures.count }));
      at = ap length said ∙ length-append old (c.in-Answered.one ∷ []) ∙ ap (λ (n : ℕ). n + 1) c.loop-line.invariant.at;
      tells = subst (λ (l : List Said). TellsSoFar d.fault_count c.args.disk l c.in-Answered.next) (sym said)
          (goes_on_told d.fault_count c.args.disk old c.in-Answered.one c.loop-line.run c.in-Answered.next c.runs_tell_on.ensures.grows c.runs_tell_on.ensures.goes_on c.loop-line.invariant.tells
          c.in-Answered.ensures.log c.in-Answered.ensures.count);
    }

pub handed_back-requires-2 : goal.handed_back-requires-2
handed_back-requires-2 g c = (c.loop-line.invariant.so.come false (λ e. absurd (false≢true e)) row_table 0 (λ e. absurd (false≢true e))).run_is.room

pub returns-then-is_err-clause-headline : goal.returns-then-is_err-clause-headline
returns-then-is_err-clause-headline g c = λ told before is sound.
    let d = g.D.Disk in
    let over = handed-over d.known c.args.lines.now (d.cells c.args.disk) _ (d.cells c.handed_back.result.disk) status.NoMemory c.handed_back.result.status c.loop-line.said.items c.handed_back.result.said.items _ c.handed_back.result.mounts.items
    (over-at d.known d.cells d.sector_count d.fault_count d.arming c.args.lines.now c.args.disk c.loop-line.said.items c.loop-line.run status.NoMemory (let at = c.loop-line.invariant.at in let low = c.loop-line-test.true in omega (arith, at, low)) (λ first s. ((let at = c.loop-line.invariant.at in let low = c.loop-line-test.true in omega (arith, at, low)), inl refl)) c.loop-line.invariant.so) (ap d.cells c.handed_back.ensures.disk) c.handed_back.ensures.status (c.handed_back.ensures.said ∙ c.reserve.ensures.items) c.handed_back.ensures.mounts in
    let law = safe-begin (λ image first number is. (c.runs_without_lines_are_crash_safe.ensures.crash_safe image first number).1 is) in
    headline-of law c.sound_images_represent_a_table.ensures.represents c.answered_calls_stand_between.ensures.between d.known c.args.lines.now (d.cells c.args.disk) (d.cells c.handed_back.result.disk)
    c.handed_back.result.status c.handed_back.result.said.items c.handed_back.result.mounts.items over told before is sound

pub returns-then-is_err-clause-first_image : goal.returns-then-is_err-clause-first_image
returns-then-is_err-clause-first_image g c = λ told before is.
    let d = g.D.Disk in
    let over = handed-over d.known c.args.lines.now (d.cells c.args.disk) _ (d.cells c.handed_back.result.disk) status.NoMemory c.handed_back.result.status c.loop-line.said.items c.handed_back.result.said.items _ c.handed_back.result.mounts.items
    (over-at d.known d.cells d.sector_count d.fault_count d.arming c.args.lines.now c.args.disk c.loop-line.said.items c.loop-line.run status.NoMemory (let at = c.loop-line.invariant.at in let low = c.loop-line-test.true in omega (arith, at, low)) (λ first s. ((let at = c.loop-line.invariant.at in let low = c.loop-line-test.true in omega (arith, at, low)), inl refl)) c.loop-line.invariant.so) (ap d.cells c.handed_back.ensures.disk) c.handed_back.ensures.status (c.handed_back.ensures.said ∙ c.reserve.ensures.items) c.handed_back.ensures.mounts in
    let law = safe-begin (λ image first number is. (c.runs_without_lines_are_crash_safe.ensures.crash_safe image first number).1 is) in
    first-image-of law c.sound_images_represent_a_table.ensures.represents d.known c.args.lines.now (d.cells c.args.disk) (d.cells c.handed_back.result.disk)
    c.handed_back.result.status c.handed_back.result.said.items c.handed_back.result.mounts.items over told before is

pub returns-in-Unanswered-clause-headline : goal.returns-in-Unanswered-clause-headline
returns-in-Unanswered-clause-headline g c = λ told before is sound.
    let d = g.D.Disk in
    let over = handed-over d.known c.args.lines.now (d.cells c.args.disk) _ (d.cells c.handed_back-in-Unanswered.result.disk) status.NoMemory c.handed_back-in-Unanswered.result.status c.loop-line.said.items c.handed_back-in-Unanswered.result.said.items _ c.handed_back-in-Unanswered.result.mounts.items
    (over-within d.known d.cells d.sector_count d.fault_count d.arming c.args.lines.now c.args.disk c.loop-line.said.items c.loop-line.run c.in-Unanswered.left c.line-item.result c.requires.few (item-at c.args.lines.now c.loop-line.line-index (length c.loop-line.said.items) c.line-item.result c.loop-line.invariant.at c.loop-line-test.true c.line-item.is) c.loop-line.invariant.so (record { runs = c.in-Unanswered.ensures.run; untouched = c.in-Unanswered.ensures.untouched; sound = c.in-Unanswered.ensures.sound; count = c.in-Unanswered.ensures.count })) (ap d.cells c.handed_back-in-Unanswered.ensures.disk) c.handed_back-in-Unanswered.ensures.status (c.handed_back-in-Unanswered.ensures.said ∙ c.reserve.ensures.items) c.handed_back-in-Unanswered.ensures.mounts in
    let law = safe-begin (λ image first number is. (c.runs_without_lines_are_crash_safe.ensures.crash_safe image first number).1 is) in
    headline-of law c.sound_images_represent_a_table.ensures.represents c.answered_calls_stand_between.ensures.between d.known c.args.lines.now (d.cells c.args.disk) (d.cells c.handed_back-in-Unanswered.result.disk)
    c.handed_back-in-Unanswered.result.status c.handed_back-in-Unanswered.result.said.items c.handed_back-in-Unanswered.result.mounts.items over told before is sound

pub returns-in-Unanswered-clause-first_image : goal.returns-in-Unanswered-clause-first_image
returns-in-Unanswered-clause-first_image g c = λ told before is.
    let d = g.D.Disk in
    let over = handed-over d.known c.args.lines.now (d.cells c.args.disk) _ (d.cells c.handed_back-in-Unanswered.result.disk) status.NoMemory c.handed_back-in-Unanswered.result.status c.loop-line.said.items c.handed_back-in-Unanswered.result.said.items _ c.handed_back-in-Unanswered.result.mounts.items
    (over-within d.known d.cells d.sector_count d.fault_count d.arming c.args.lines.now c.args.disk c.loop-line.said.items c.loop-line.run c.in-Unanswered.left c.line-item.result c.requires.few (item-at c.args.lines.now c.loop-line.line-index (length c.loop-line.said.items) c.line-item.result c.loop-line.invariant.at c.loop-line-test.true c.line-item.is) c.loop-line.invariant.so (record { runs = c.in-Unanswered.ensures.run; untouched = c.in-Unanswered.ensures.untouched; sound = c.in-Unanswered.ensures.sound; count = c.in-Unanswered.ensures.count })) (ap d.cells c.handed_back-in-Unanswered.ensures.disk) c.handed_back-in-Unanswered.ensures.status (c.handed_back-in-Unanswered.ensures.said ∙ c.reserve.ensures.items) c.handed_back-in-Unanswered.ensures.mounts in
    let law = safe-begin (λ image first number is. (c.runs_without_lines_are_crash_safe.ensures.crash_safe image first number).1 is) in
    first-image-of law c.sound_images_represent_a_table.ensures.represents d.known c.args.lines.now (d.cells c.args.disk) (d.cells c.handed_back-in-Unanswered.result.disk)
    c.handed_back-in-Unanswered.result.status c.handed_back-in-Unanswered.result.said.items c.handed_back-in-Unanswered.result.mounts.items over told before is

pub returns-clause-headline : goal.returns-clause-headline
returns-clause-headline g c = λ told before is sound.
    let d = g.D.Disk in
    let over = handed-over d.known c.args.lines.now (d.cells c.args.disk) _ (d.cells c.handed_back-2.result.disk) status.Good c.handed_back-2.result.status c.loop-line.said.items c.handed_back-2.result.said.items _ c.handed_back-2.result.mounts.items
    (over-at d.known d.cells d.sector_count d.fault_count d.arming c.args.lines.now c.args.disk c.loop-line.said.items c.loop-line.run status.Good (let at = c.loop-line.invariant.at in let low = c.loop-line.auto.line-index-end in omega (arith, at, low)) (λ first s. ((let at = c.loop-line.invariant.at in let low = c.loop-line.auto.line-index-end in let past = c.loop-line-test.false in omega (arith, at, low, past)), refl)) c.loop-line.invariant.so) (ap d.cells c.handed_back-2.ensures.disk) c.handed_back-2.ensures.status c.handed_back-2.ensures.said c.handed_back-2.ensures.mounts in
    let law = safe-begin (λ image first number is. (c.runs_without_lines_are_crash_safe.ensures.crash_safe image first number).1 is) in
    headline-of law c.sound_images_represent_a_table.ensures.represents c.answered_calls_stand_between.ensures.between d.known c.args.lines.now (d.cells c.args.disk) (d.cells c.handed_back-2.result.disk)
    c.handed_back-2.result.status c.handed_back-2.result.said.items c.handed_back-2.result.mounts.items over told before is sound

pub returns-clause-first_image : goal.returns-clause-first_image
returns-clause-first_image g c = λ told before is.
    let d = g.D.Disk in
    let over = handed-over d.known c.args.lines.now (d.cells c.args.disk) _ (d.cells c.handed_back-2.result.disk) status.Good c.handed_back-2.result.status c.loop-line.said.items c.handed_back-2.result.said.items _ c.handed_back-2.result.mounts.items
    (over-at d.known d.cells d.sector_count d.fault_count d.arming c.args.lines.now c.args.disk c.loop-line.said.items c.loop-line.run status.Good (let at = c.loop-line.invariant.at in let low = c.loop-line.auto.line-index-end in omega (arith, at, low)) (λ first s. ((let at = c.loop-line.invariant.at in let low = c.loop-line.auto.line-index-end in let past = c.loop-line-test.false in omega (arith, at, low, past)), refl)) c.loop-line.invariant.so) (ap d.cells c.handed_back-2.ensures.disk) c.handed_back-2.ensures.status c.handed_back-2.ensures.said c.handed_back-2.ensures.mounts in
    let law = safe-begin (λ image first number is. (c.runs_without_lines_are_crash_safe.ensures.crash_safe image first number).1 is) in
    first-image-of law c.sound_images_represent_a_table.ensures.represents d.known c.args.lines.now (d.cells c.args.disk) (d.cells c.handed_back-2.result.disk)
    c.handed_back-2.result.status c.handed_back-2.result.said.items c.handed_back-2.result.mounts.items over told before is

pub returns-then-is_err-clause-log : goal.returns-then-is_err-clause-log
returns-then-is_err-clause-log g c =
    let d = g.D.Disk in
    let h = c.handed_back in
    (over_told d.fault_count c.args.disk c.loop-line.invariant.tells.log c.loop-line.said.items h.result.said.items (records_with c.loop-line.run.past.items c.loop-line.run.device) h.result.mounts.items
    (disk_of_run c.loop-line.run) h.result.disk c.loop-line.invariant.tells.told (h.ensures.said ∙ c.reserve.ensures.items) h.ensures.mounts h.ensures.disk).keeps

pub returns-then-is_err-clause-faults : goal.returns-then-is_err-clause-faults
returns-then-is_err-clause-faults g c =
    let d = g.D.Disk in
    let h = c.handed_back in
    (over_told d.fault_count c.args.disk c.loop-line.invariant.tells.log c.loop-line.said.items h.result.said.items (records_with c.loop-line.run.past.items c.loop-line.run.device) h.result.mounts.items
    (disk_of_run c.loop-line.run) h.result.disk c.loop-line.invariant.tells.told (h.ensures.said ∙ c.reserve.ensures.items) h.ensures.mounts h.ensures.disk).faults

pub returns-in-Unanswered-clause-log : goal.returns-in-Unanswered-clause-log
returns-in-Unanswered-clause-log g c =
    let d = g.D.Disk in
    let h = c.handed_back-in-Unanswered in
    (over_told d.fault_count c.args.disk c.loop-line.invariant.tells.log c.loop-line.said.items h.result.said.items (records_with c.in-Unanswered.left.past.items c.in-Unanswered.left.device) h.result.mounts.items
    (disk_of_run c.in-Unanswered.left) h.result.disk (broken_told d.fault_count c.args.disk c.loop-line.said.items c.loop-line.run c.in-Unanswered.left c.runs_tell_on.ensures.grows c.loop-line.invariant.tells
    c.in-Unanswered.ensures.log c.in-Unanswered.ensures.count) (h.ensures.said ∙ c.reserve.ensures.items) h.ensures.mounts h.ensures.disk).keeps

pub returns-in-Unanswered-clause-faults : goal.returns-in-Unanswered-clause-faults
returns-in-Unanswered-clause-faults g c =
    let d = g.D.Disk in
    let h = c.handed_back-in-Unanswered in
    (over_told d.fault_count c.args.disk c.loop-line.invariant.tells.log c.loop-line.said.items h.result.said.items (records_with c.in-Unanswered.left.past.items c.in-Unanswered.left.device) h.result.mounts.items
    (disk_of_run c.in-Unanswered.left) h.result.disk (broken_told d.fault_count c.args.disk c.loop-line.said.items c.loop-line.run c.in-Unanswered.left c.runs_tell_on.ensures.grows c.loop-line.invariant.tells
    c.in-Unanswered.ensures.log c.in-Unanswered.ensures.count) (h.ensures.said ∙ c.reserve.ensures.items) h.ensures.mounts h.ensures.disk).faults

pub returns-clause-log : goal.returns-clause-log
returns-clause-log g c =
    let d = g.D.Disk in
    let h = c.handed_back-2 in
    (over_told d.fault_count c.args.disk c.loop-line.invariant.tells.log c.loop-line.said.items h.result.said.items (records_with c.loop-line.run.past.items c.loop-line.run.device) h.result.mounts.items
    (disk_of_run c.loop-line.run) h.result.disk c.loop-line.invariant.tells.told h.ensures.said h.ensures.mounts h.ensures.disk).keeps

pub returns-clause-faults : goal.returns-clause-faults
returns-clause-faults g c =
    let d = g.D.Disk in
    let h = c.handed_back-2 in
    (over_told d.fault_count c.args.disk c.loop-line.invariant.tells.log c.loop-line.said.items h.result.said.items (records_with c.loop-line.run.past.items c.loop-line.run.device) h.result.mounts.items
    (disk_of_run c.loop-line.run) h.result.disk c.loop-line.invariant.tells.told h.ensures.said h.ensures.mounts h.ensures.disk).faults
