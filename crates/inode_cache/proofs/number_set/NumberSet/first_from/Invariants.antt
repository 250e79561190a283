use Rattle.inode_cache.proofs.Bits.{Looked}
use Rattle.inode_cache.proofs.number_set.NumberSet.first_from.Given as goal

abbrev pub invariant-loop-index : goal.invariant-loop-index
invariant-loop-index l = Looked l.self-inside.words l.from l.index l.place
