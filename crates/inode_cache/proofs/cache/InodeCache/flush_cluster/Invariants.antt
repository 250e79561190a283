use Rattle.inode_cache.proofs.Flushes.{Flushing}
use Rattle.inode_cache.proofs.cache.InodeCache.flush_cluster.Given as goal

abbrev pub invariant-loop-place : goal.invariant-loop-place
invariant-loop-place l = Flushing l.cluster l.fn.self l.fn.into l.self l.into l.place
