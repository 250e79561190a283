use Rattle.mounts_in_runs.proofs.Behind.{begins, follows}
use Rattle.mounts_in_runs.proofs.laws.mounts_begin_where_runs_stand.Goals as goal

pub returns-clause-begins : goal.returns-clause-begins
returns-clause-begins c = begins c.images_represent_one_table.ensures c.runs_join.ensures.kept

pub returns-clause-follows : goal.returns-clause-follows
returns-clause-follows c = follows
