use Rattle.std.proofs.Common.{rules}
use Rattle.tests_words.proofs.Looks.{away_now}
use Rattle.tests_words.proofs.caches.bring_in.Goals as goal

pub install-requires-clause-away : goal.install-requires-clause-away
install-requires-clause-away c = away_now _ _ _ _ c.load.ensures.looked (search rules)
