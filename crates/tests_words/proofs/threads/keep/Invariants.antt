use Rattle.tests_words.specs.Parts.{KeepsWords, IsSession}
use Rattle.tests_words.proofs.threads.keep.Given as goal

abbrev pub invariant-loop-round : goal.invariant-loop-round
invariant-loop-round l = record {
  keeper : KeepsWords l.cache l.keeper;
  session : IsSession l.cache l.session;
}
