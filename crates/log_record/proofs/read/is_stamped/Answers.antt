use Rattle.std.proofs.Common.{ap, ◌∙◌, arith}
use Rattle.std.proofs.lemmas.Bool.{false≢true}
use Rattle.life_bytes.specs.declared.sector.Sector.{Sector}
use Rattle.log_record.specs.Payload.{stamps_of}
use Rattle.log_record.proofs.Window.{none, whole_window}
use Rattle.log_record.proofs.read.is_stamped.Goals as goal

pub returns-clause-whole : goal.returns-clause-whole
returns-clause-whole c = λ yes.
    whole_window c.args.ring.now c.args.position c.args.count (λ i h. c.loop-i.invariant.whole i none (omega arith))

pub returns-then-not-has_stamps-clause-stamped : goal.returns-then-not-has_stamps-clause-stamped
returns-then-not-has_stamps-clause-stamped c = (
  λ no. absurd (false≢true no),
  λ all. c.if-not-has_stamps.ensures.stamps.1
      (ap (λ (s : Sector). stamps_of s) (c.sector_at-sector.ensures none) ∙ all c.loop-i.i none c.loop-i-test.true),
)
