-- A whole call in a world: an actor begins it and makes its steps, and no other actor steps between.
use Rattle.std.specs.Prelude.{◌≡◌, ℕ, zero, suc, None, map, length}
use Rattle.life_table.specs.declared.types.Call.{Call}
use Rattle.life_table.specs.History.{changes}
use Rattle.actor_world.specs.declared.memory.Actor.{Actor}
use Rattle.actor_world.specs.Caches.{actor_at}
use Rattle.actor_world.specs.World.{IsBegun, World}
use Rattle.actor_world.specs.Steps.{DiskFace, Step, Telling}
use Rattle.actor_world.specs.Lines.{LinesState}

-- what whole lines see of a world
abbrev pub lines_state : {D : Type 0} → World D → LinesState
lines_state {D} w = record {
  table = w.history.table;
  queues = map (λ (actor : Actor). actor.queue) w.memory.actors;
  changes = length (changes w.history.entries);
}

-- an actor makes so many steps, after which it has no call
abbrev pub StepsToEnd : {D : Type 0} → DiskFace D → Telling → ℕ → ℕ → World D → World D → Type 0
StepsToEnd {D} face tells a zero old new = ((actor_at old.memory a).doing ≡ None) × (new ≡ old)
StepsToEnd {D} face tells a (suc n) old new = (next : World D) × Step face tells a old next × StepsToEnd face tells a n next new

-- a whole call of an actor, of so many steps
pub record IsWholeCall {D : Type 0} (face : DiskFace D) (tells : Telling) (a : ℕ) (made : Call) (n : ℕ) (old new : World D) : Type 0 where
  pub begun : World D
  pub begins : IsBegun a made old begun
  pub steps : StepsToEnd face tells a n begun new
