-- When a call may begin, and why it does not.
use Rattle.std.specs.Prelude.{◌≡◌, ◌<◌, ◌≤◌, ℕ, None, IsSome, length}
use Rattle.life_table.specs.declared.types.Call.{Call}
use Rattle.life_table.specs.History.{IsHeld, key_of}
use Rattle.actor_world.specs.Caches.{actor_at}
use Rattle.actor_world.specs.World.{GroupExists, World}
use Rattle.plain_world.specs.declared.begin.BeginRefused.{BeginRefused}
use Rattle.plain_world.specs.declared.begin.BeginRefused.TheVariants.{InCall, NoActor, NoGroup, NotHeld}

-- the actor is there and has no call; it holds the key of the call; and the call's group is there
pub record MayBegin {D : Type 0} (a : ℕ) (made : Call) (w : World D) : Type 0 where
  pub actor : a < length w.memory.actors
  pub idle : (actor_at w.memory a).doing ≡ None
  pub held : IsHeld w.history.entries a (key_of made)
  pub group : GroupExists w.memory made

-- the cause of each refusal
abbrev pub IsRefused : {D : Type 0} → ℕ → Call → World D → BeginRefused → Type 0
IsRefused {D} a made w NoActor = length w.memory.actors ≤ a
IsRefused {D} a made w InCall = IsSome (actor_at w.memory a).doing
IsRefused {D} a made w NotHeld = IsHeld w.history.entries a (key_of made) → ⊥
IsRefused {D} a made w NoGroup = GroupExists w.memory made → ⊥
