use Rattle.std.proofs.Common.{◌≤◌}
use Rattle.tests_words.specs.Parts.{IsSession}
use Rattle.tests_words.proofs.threads.visit.Given as goal

abbrev pub invariant-loop-round : goal.invariant-loop-round
invariant-loop-round l = record {
  session : IsSession l.cache l.session;
  few : l.out ≤ l.round;
}
