use Rattle.run_mounts.proofs.Changing.{ended-stands}
use Rattle.run_mounts.proofs.laws.ended_mounts_stand_safe.Goals as goal

pub returns : goal.returns
returns c = ended-stands
