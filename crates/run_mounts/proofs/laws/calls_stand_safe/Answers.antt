use Rattle.run_mounts.proofs.Changing.{call-stands}
use Rattle.run_mounts.proofs.laws.calls_stand_safe.Goals as goal

pub returns : goal.returns
returns c = call-stands
