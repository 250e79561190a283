use Rattle.std.proofs.Common.{refl}
use Rattle.actor_world.proofs.OpenSteps.{ends_there, sees_open}
use Rattle.actor_world.proofs.laws.opens_begin_unlocked.Goals as goal

pub returns-clause-open : goal.returns-clause-open
returns-clause-open c = λ queue key begin m. refl

pub returns-clause-close : goal.returns-clause-close
returns-clause-close c = λ queue key begin m. refl

pub returns-clause-sees : goal.returns-clause-sees
returns-clause-sees c = sees_open

pub returns-clause-ends : goal.returns-clause-ends
returns-clause-ends c = ends_there
