use Rattle.mounts_in_runs.proofs.Refused.{unbegun}
use Rattle.mounts_in_runs.proofs.laws.unbegun_mounts_leave_runs.Goals as goal

pub returns : goal.returns
returns c = unbegun c.images_represent_one_table.ensures
