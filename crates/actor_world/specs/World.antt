-- The world of actors: its history, what is in memory, and its log.
use Rattle.std.specs.Prelude.{◌≡◌, ◌<◌, ◌++◌, ◌∷◌, ⊤, ℕ, List, [], Option, None, Some, length}
use Rattle.log_record.specs.declared.image.Commit.{Commit}
use Rattle.log_store.specs.declared.store.Store.{Store}
use Rattle.life_table.specs.declared.types.Call.{Call}
use Rattle.life_table.specs.declared.types.Call.TheVariants as call
use Rattle.life_table.specs.declared.types.Event.{Event}
use Rattle.life_table.specs.declared.types.Entry.{Entry}
use Rattle.life_table.specs.declared.table.Table.{Table}
use Rattle.life_table.specs.History.{IsHeld, after_event, key_of}
use Rattle.actor_world.specs.declared.memory.Doing.{Doing}
use Rattle.actor_world.specs.declared.memory.Memory.{Memory}
use Rattle.actor_world.specs.Caches.{actor_at, with_actor}
use Rattle.actor_world.specs.Moves.{first_place}

-- The table now, with the holds on it; what happened since the mount; and for each entry how many there were as its call
-- began.
pub record History : Type 0 where
  pub table : Table
  pub entries : List Entry
  pub froms : List ℕ

-- the history with one thing more that happened by an actor, in a call that began at this entry
abbrev pub told : ℕ → ℕ → Event → History → History
told a «from» event h = record {
  table = after_event h.table event;
  entries = h.entries ++ record { actor = a; event = event } ∷ [];
  froms = h.froms ++ «from» ∷ [];
}

abbrev pub told_if : ℕ → ℕ → Option Event → History → History
told_if a «from» None h = h
told_if a «from» (Some event) h = told a «from» event h

-- The number that the mount's first commit has or will have; what happened; what is in memory; the commits that no sync
-- has taken, in order; the actor that holds the log's lock; and the log's store with its disk. The table from which the
-- history begins is no part of it.
pub record World (D : Type 0) : Type 0 where
  pub first_commit : ℕ
  pub history : History
  pub memory : Memory
  pub queue : List Commit
  pub holder : Option ℕ
  pub store : Store D

-- a group that a call names is there
abbrev pub GroupExists : Memory → Call → Type 0
GroupExists m (call.Create g) = g < length m.groups
GroupExists m (call.Tmpfile g) = g < length m.groups
GroupExists m (call.FlushInodes g) = g < length m.groups
GroupExists m (call.Reclaim g) = g < length m.groups
GroupExists m _ = ⊤

-- a call that begins now
abbrev pub beginning : Call → History → Doing
beginning made h = record { call = made; place = first_place made; «from» = length h.entries }

-- An actor without a call begins one, on a key that it holds where the call is on a key. It makes no step.
pub record IsBegun {D : Type 0} (a : ℕ) (made : Call) (old new : World D) : Type 0 where
  pub actor : a < length old.memory.actors
  pub idle : (actor_at old.memory a).doing ≡ None
  pub held : IsHeld old.history.entries a (key_of made)
  pub group : GroupExists old.memory made
  pub memory : new.memory ≡ with_actor a (record { doing = Some (beginning made old.history); queue = (actor_at old.memory a).queue }) old.memory
  pub history : new.history ≡ old.history
  pub queue : new.queue ≡ old.queue
  pub holder : new.holder ≡ old.holder
  pub store : new.store ≡ old.store
  pub first_commit : new.first_commit ≡ old.first_commit
