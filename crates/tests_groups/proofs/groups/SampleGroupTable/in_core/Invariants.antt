use Rattle.std.proofs.Common.{◌≡◌, ◌<◌, ◌≤◌, ℕ, false}
use Rattle.group_core.specs.InCore.{is_in_core}
use Rattle.tests_groups.specs.Sample.{marked}
use Rattle.tests_groups.proofs.groups.SampleGroupTable.in_core.Given as goal

abbrev pub invariant-loop-agino : goal.invariant-loop-agino
invariant-loop-agino l = (k : ℕ) → l.from ≤ k → k < l.agino → is_in_core (marked l.self.marks k) ≡ false
