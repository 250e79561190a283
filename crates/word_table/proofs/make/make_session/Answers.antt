use Rattle.std.proofs.Common.{arith, rules}
use Rattle.word_table.proofs.Making.{forks, some_words}
use Rattle.word_table.proofs.make.make_session.Goals as goal

pub split_seat-requires : goal.split_seat-requires
split_seat-requires c = (search rules, omega (arith, c.cache.invariant.words, some_words _ c.cache.invariant.shape), forks _ _ _)
