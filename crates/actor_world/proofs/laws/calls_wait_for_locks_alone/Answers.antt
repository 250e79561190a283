use Rattle.actor_world.proofs.Progress.{can_step, holder_waits_not, waits_there}
use Rattle.actor_world.proofs.Within.{within}
use Rattle.actor_world.proofs.laws.calls_wait_for_locks_alone.Goals as goal

pub returns-clause-steps : goal.returns-clause-steps
returns-clause-steps g c = λ start w a d inv inside log free.
    can_step start w.history w.memory (within g.T.Tells.tells start w inv) a d inside log free

pub returns-clause-waits : goal.returns-clause-waits
returns-clause-waits g c = λ t m a b d inside waits. waits_there t m a b d inside waits

pub returns-clause-holders : goal.returns-clause-holders
returns-clause-holders g c = λ queue d m lies. holder_waits_not queue d m lies
