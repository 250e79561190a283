-- The world that a plain world is, and what a step leaves of it.
use Rattle.std.specs.Prelude.{◌++◌, ◌∷◌, ℕ, Bool, true, false, List, []}
use Rattle.log_record.specs.declared.image.Commit.{Commit}
use Rattle.life_table.specs.declared.types.Event.{Event}
use Rattle.life_table.specs.declared.table.Table.{Table}
use Rattle.life_table.specs.History.{is_change}
use Rattle.disk_model.specs.Disk.{Arming, Cell}
use Rattle.actor_world.specs.Moves.{Move}
use Rattle.actor_world.specs.World.{World, told, told_if}
use Rattle.actor_world.specs.Steps.{DiskFace, makes_change}
use Rattle.actor_world.specs.Invariant.{Invariant}
use Rattle.plain_world.specs.declared.world.PlainWorld.{PlainWorld}
use Rattle.plain_world.specs.Telling.{any_telling}

abbrev pub world_of : {D : Type 0} → PlainWorld D → World D
world_of {D} w = record {
  first_commit = w.first_commit;
  history = record { table = w.table; entries = w.entries.items; froms = w.froms.items };
  memory = w.memory;
  queue = w.queue.items;
  holder = w.holder;
  store = w.store;
}

-- the world meets what is always so, for some table at which its mount began
pub record IsRight {D : Type 0} (w : PlainWorld D) : Type 0 where
  pub start : Table
  pub right : Invariant any_telling start (world_of w)

-- how a disk looks to a store
abbrev pub face_of : {D : Type 0} → Bool → (D → List Cell) → (D → ℕ) → (D → Arming) → (D → ℕ) → DiskFace D
face_of {D} known cells sectors arming faults = record { known = known; cells = cells; sectors = sectors; arming = arming; faults = faults }

-- the commit of a change, which has no images
abbrev pub empty_commit : Commit
empty_commit = record { group = 0; images = [] }

abbrev pub pushed : Bool → List Commit → List Commit
pushed true queue = queue ++ empty_commit ∷ []
pushed false queue = queue

-- an event has happened by an actor, in a call that began at this entry
abbrev pub with_event : {D : Type 0} → ℕ → ℕ → Event → World D → World D
with_event {D} a begin event w = record {
  first_commit = w.first_commit;
  history = told a begin event w.history;
  memory = w.memory;
  queue = pushed (is_change event) w.queue;
  holder = w.holder;
  store = w.store;
}

-- a step that comes to this was made by an actor, in a call that began at this entry
abbrev pub after_move : {D : Type 0} → ℕ → ℕ → Move → World D → World D
after_move {D} a begin move w = record {
  first_commit = w.first_commit;
  history = told_if a begin move.event w.history;
  memory = move.memory;
  queue = pushed (makes_change move.event) w.queue;
  holder = w.holder;
  store = w.store;
}
