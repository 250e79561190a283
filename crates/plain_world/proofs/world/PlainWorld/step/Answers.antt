use Rattle.std.proofs.Common.{sym, ◌∙◌}
use Rattle.plain_world.specs.Worlds.{face_of, world_of}
use Rattle.plain_world.proofs.Moved.{step_goes, step_may_happen}
use Rattle.plain_world.proofs.world.PlainWorld.step.Goals as goal

pub make-requires : goal.make-requires
make-requires g c =
    step_may_happen (face_of g.D.Disk.known g.D.Disk.cells g.D.Disk.sector_count g.D.Disk.arming g.D.Disk.fault_count)
    c.steps_keep_the_invariant.ensures c.holders_have_rows.ensures c.requires.right.start c.args.a c.in-Some.moved (world_of c.args.self.now)
    c.requires.right.right (sym c.answer-answer.ensures ∙ c.is_went.ensures.went c.if-not-is_went.false) (sym c.in_ok-moved.ensures ∙ c.in-Some.is)

pub returns-clause-went : goal.returns-clause-went
returns-clause-went g c = λ went.
    step_goes (face_of g.D.Disk.known g.D.Disk.cells g.D.Disk.sector_count g.D.Disk.arming g.D.Disk.fault_count)
    c.args.a c.from_of-from.result c.in-Some.moved (world_of c.args.self.now) (world_of c.make.new.self)
    (sym c.answer-answer.ensures ∙ went) c.from_of-from.ensures (sym c.in_ok-moved.ensures ∙ c.in-Some.is) c.in_ok-make.ensures.ok

pub returns-clause-kept : goal.returns-clause-kept
returns-clause-kept g c = λ start right.
    c.steps_keep_the_invariant.ensures (face_of g.D.Disk.known g.D.Disk.cells g.D.Disk.sector_count g.D.Disk.arming g.D.Disk.fault_count)
    start c.args.a (world_of c.args.self.now) (world_of c.make.new.self) right
    (step_goes (face_of g.D.Disk.known g.D.Disk.cells g.D.Disk.sector_count g.D.Disk.arming g.D.Disk.fault_count)
    c.args.a c.from_of-from.result c.in-Some.moved (world_of c.args.self.now) (world_of c.make.new.self)
    (sym c.answer-answer.ensures ∙ c.is_went.ensures.went c.if-not-is_went.false) c.from_of-from.ensures (sym c.in_ok-moved.ensures ∙ c.in-Some.is) c.in_ok-make.ensures.ok)
