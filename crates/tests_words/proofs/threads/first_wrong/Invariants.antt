use Rattle.tests_words.specs.Parts.{IsSession}
use Rattle.tests_words.proofs.threads.first_wrong.Given as goal

abbrev pub invariant-loop-number : goal.invariant-loop-number
invariant-loop-number l = IsSession l.cache l.session
