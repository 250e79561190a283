use Rattle.std.proofs.Common.{◌≡◌, None, IsTrue}
use Rattle.image_rules.specs.Counted.{AreCounted}
use Rattle.image_rules.specs.Faults.{AreChecked}
use Rattle.image_rules.proofs.all_groups.check_groups.Given as goal

abbrev pub invariant-loop-group : goal.invariant-loop-group
invariant-loop-group g l = record {
  read : g.V.View.only_read l.fn.view l.view;
  checked : IsTrue g.V.View.known → AreChecked l.g (g.V.View.image l.fn.view) l.group l.first;
  counted : IsTrue g.V.View.known → l.first ≡ None → AreCounted l.g (g.V.View.image l.fn.view) l.group l.tables;
}
