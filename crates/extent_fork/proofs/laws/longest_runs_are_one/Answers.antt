use Rattle.extent_fork.proofs.LongestRuns.{longest_are_one}
use Rattle.extent_fork.proofs.laws.longest_runs_are_one.Goals as goal

pub returns : goal.returns
returns c = longest_are_one
