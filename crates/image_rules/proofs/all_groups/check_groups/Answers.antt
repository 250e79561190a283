use Rattle.std.proofs.Common.{◌≡◌, ℕ, List, subst, arith}
use Rattle.life_bytes.specs.declared.sector.Sector.{Sector}
use Rattle.image_rules.specs.Counted.{AreCounted, IsCounted}
use Rattle.image_rules.proofs.Totals.{counted_none, counted_more, whole_tables}
use Rattle.image_rules.specs.Faults.{IsChecked}
use Rattle.image_rules.proofs.all_groups.check_groups.Goals as goal

pub loop-group-preserved : goal.loop-group-preserved
loop-group-preserved g c =
    let a = c.args in
    let l = c.loop-group in
    record {
      read = g.met.V.View.both_read a.view.now l.view c.check_one.new.view l.invariant.read c.check_one.ensures.only_read;
      checked = λ known.
          let stays = g.met.V.View.image_stays a.view.now l.view l.invariant.read in
          c.first_of-first.ensures.checked a.g.now (g.V.View.image a.view.now) l.group (l.invariant.checked known)
          (subst (λ (image : List Sector). IsChecked a.g.now image l.group c.in_ok-found.found.damage) stays (c.in_ok-found.ensures.checked known));
      counted = λ known none.
          let stays = g.met.V.View.image_stays a.view.now l.view l.invariant.read in
          let both = c.first_of-first.ensures.none none in
          let here = subst (λ (image : List Sector). IsCounted a.g.now image l.group c.in_ok-found.found.tables) stays (c.in_ok-found.ensures.counted known both.1) in
          counted_more a.g.now (g.V.View.image a.view.now) l.group l.tables c.in_ok-found.found.tables c.in-Some.sum (l.invariant.counted known both.0) here
          c.in-Some.ensures.chunks c.in-Some.ensures.inodes c.in-Some.ensures.orphans;
    }

pub loop-group-init : goal.loop-group-init
loop-group-init g c = record {
  read = g.met.V.View.no_read c.args.view.now;
  checked = λ known group lt. absurd (omega arith);
  counted = λ known none. counted_none c.args.g.now (g.V.View.image c.args.view.now);
}

pub returns-in-None-clause-counted : goal.returns-in-None-clause-counted
returns-in-None-clause-counted g c known =
    let a = c.args in
    let l = c.loop-group in
    let e : l.group ≡ a.g.now.groups = omega (arith, l.auto.group-end) in
    whole_tables a.g.now (g.V.View.image a.view.now) l.tables
    (subst (λ (n : ℕ). AreCounted a.g.now (g.V.View.image a.view.now) n l.tables) e (l.invariant.counted known c.in-None.is))
