use Rattle.extent_fork.proofs.LongestRuns.{forks_are_read}
use Rattle.extent_fork.proofs.laws.encoded_forks_are_read.Goals as goal

pub returns : goal.returns
returns c = forks_are_read
