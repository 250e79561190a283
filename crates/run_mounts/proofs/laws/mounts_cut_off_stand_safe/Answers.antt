use Rattle.run_mounts.proofs.Changing.{cut-ended, cut-fresh, cut-left}
use Rattle.run_mounts.proofs.laws.mounts_cut_off_stand_safe.Goals as goal

pub returns-clause-ended : goal.returns-clause-ended
returns-clause-ended c = cut-ended

pub returns-clause-left : goal.returns-clause-left
returns-clause-left c = cut-left

pub returns-clause-never_up : goal.returns-clause-never_up
returns-clause-never_up c = cut-fresh
