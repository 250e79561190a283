use Rattle.actor_world.proofs.StepKinds.{step_kind}
use Rattle.actor_world.proofs.laws.steps_are_of_four_kinds.Goals as goal

pub returns : goal.returns
returns g c = λ face a old new step. step_kind face g.T.Tells.tells a old new step
