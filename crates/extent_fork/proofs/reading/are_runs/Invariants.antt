use Rattle.std.proofs.Common.{◌↔◌, drop}
use Rattle.extent_fork.specs.Forks.{AreRuns}
use Rattle.extent_fork.proofs.Lists.{AreRunsAfter}
use Rattle.extent_fork.proofs.reading.are_runs.Given as goal

abbrev pub invariant-loop-run : goal.invariant-loop-run
invariant-loop-run l = AreRunsAfter l.end (drop l.run-index l.list) ↔ AreRuns l.list
