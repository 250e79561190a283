use Rattle.run_mounts.proofs.Called.{safe_after, store_after}
use Rattle.run_mounts.proofs.calling.call_on.Goals as goal

pub images_replay-requires : goal.images_replay-requires
images_replay-requires g c =
    let d = g.D.Disk in
    let run = c.requires.running in
    store_after d.known d.cells d.sector_count d.fault_count run.0 run.1 c.args.actor c.args.called c.args.mounted.now c.answer_call-answer.new.mounted c.answer_call-answer.result
    (c.answer_call-answer.ensures.called run.0 run.1 run.2) (c.answer_call-answer.ensures.uncalled run.0 run.1 run.2)

pub returns-clause-safe : goal.returns-clause-safe
returns-clause-safe g c = λ tells first number past start t run.
    let d = g.D.Disk in
    safe_after c.calls_stand_safe.ensures c.logs_leave_first_changes.ensures d.known d.cells d.sector_count d.fault_count first number past start t c.args.actor c.args.called
    c.args.mounted.now c.answer_call-answer.new.mounted c.answer_call-answer.result c.requires.kind tells (c.images_replay.ensures tells) run
    (c.answer_call-answer.ensures.called start t run) (c.answer_call-answer.ensures.uncalled start t run)
