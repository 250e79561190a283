use Rattle.std.proofs.Common.{◌%◌, ℕ, refl, ap, ◌∙◌}
use Rattle.life_limits.specs.declared.TheConstants.{BUCKETS}
use Rattle.image_rules.proofs.Strolls.{starts, moves}
use Rattle.image_rules.proofs.lists.walk.Goals as goal

pub loop-at-init : goal.loop-at-init
loop-at-init c = record {
  here = λ g image group same unmet. starts g image group c.args.bucket c.args.head c.args.unmet.now.entries same unmet;
  others = λ agino ne. refl;
}

pub loop-at-preserved : goal.loop-at-preserved
loop-at-preserved c =
    let l = c.loop-at in
    let met = c.in-Some.ensures.met in
    record {
      here = λ g image group same unmet. moves g image group c.args.bucket l.at l.holder c.in-Some.next l.unmet.entries c.meet.new.unmet.entries (l.invariant.here g image group same unmet) met.0 met.1;
      others = λ agino ne. met.1.others agino (λ e. ne (ap (λ (a : ℕ). a % BUCKETS) e ∙ met.0)) ∙ l.invariant.others agino ne;
    }
