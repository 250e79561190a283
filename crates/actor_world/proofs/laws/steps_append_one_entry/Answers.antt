use Rattle.actor_world.proofs.StepKinds.{step_appends}
use Rattle.actor_world.proofs.laws.steps_append_one_entry.Goals as goal

pub returns : goal.returns
returns g c = λ face a old new step. step_appends face g.T.Tells.tells a old new step
