-- What a step of an actor comes to.
use Rattle.std.specs.Prelude.{ℕ, Bool, true, false, List, Option, None, Some}
use Rattle.life_table.specs.declared.key.Key.{Key}
use Rattle.actor_world.specs.declared.memory.Doing.{Doing}
use Rattle.actor_world.specs.declared.memory.Memory.{Memory}
use Rattle.actor_world.specs.Caches.{actor_at}
use Rattle.actor_world.specs.Moves.{is_log_call, waits_in_group}
use Rattle.actor_world.specs.World.{World}
use Rattle.plain_world.specs.declared.step.StepAnswer.{StepAnswer}
use Rattle.plain_world.specs.declared.step.StepAnswer.TheVariants.{Idle, OfLog, Waits, Went}

-- the step of a call that waits for this actor; of one that waits for nobody, which the log answers or not
abbrev pub unless_waits : Option ℕ → Bool → StepAnswer
unless_waits (Some by) log = Waits by
unless_waits None true = OfLog
unless_waits None false = Went

abbrev pub answer_of : List Key → Memory → Option Doing → StepAnswer
answer_of queue m None = Idle
answer_of queue m (Some d) = unless_waits (waits_in_group queue d m) (is_log_call d.call)

abbrev pub answer_at : {D : Type 0} → ℕ → World D → StepAnswer
answer_at {D} a w = answer_of (actor_at w.memory a).queue w.memory (actor_at w.memory a).doing

-- at which entry the actor's call began
abbrev pub from_of_doing : Option Doing → ℕ
from_of_doing None = 0
from_of_doing (Some d) = d.«from»

abbrev pub from_at : {D : Type 0} → ℕ → World D → ℕ
from_at {D} a w = from_of_doing (actor_at w.memory a).doing
