use Rattle.commit_history.proofs.Following.{added, joined, none, parted}
use Rattle.commit_history.proofs.laws.commits_follow_each_other.Goals as goal

pub returns-clause-none : goal.returns-clause-none
returns-clause-none c = none

pub returns-clause-added : goal.returns-clause-added
returns-clause-added c = added

pub returns-clause-joined : goal.returns-clause-joined
returns-clause-joined c = joined

pub returns-clause-parted : goal.returns-clause-parted
returns-clause-parted c = λ g t v layouts last commits count carries.
    let p = parted g t v layouts last commits count carries in
    (p.table, p.layouts_of, p.before, p.after)
