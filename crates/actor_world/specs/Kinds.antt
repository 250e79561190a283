-- What a step does towards the log: it is of one of four kinds.
use Rattle.std.specs.Prelude.{◌≡◌, ◌++◌, ◌∷◌, ◌⊎◌, ℕ, true, [], Result}
use Rattle.log_record.specs.declared.image.Commit.{Commit}
use Rattle.log_store.specs.declared.fault.Progress.{Progress}
use Rattle.log_store.specs.declared.fault.StoreFault.{StoreFault}
use Rattle.log_store.specs.State.{state_of}
use Rattle.log_store.specs.Actions.{IsStep}
use Rattle.life_table.specs.declared.types.Event.{Event}
use Rattle.life_table.specs.History.{changes, is_change}
use Rattle.actor_world.specs.World.{World, told}
use Rattle.actor_world.specs.Steps.{DiskFace, Telling, taken_all}

-- the history has no change more
abbrev pub NoChange : {D : Type 0} → World D → World D → Type 0
NoChange {D} old new = changes new.history.entries ≡ changes old.history.entries

-- one change more, whose commit is the last of the queue; the store and its disk are left
pub record CommitsOne {D : Type 0} (tells : Telling) (a : ℕ) (old new : World D) : Type 0 where
  pub begin : ℕ
  pub event : Event
  pub change : is_change event ≡ true
  pub history : new.history ≡ told a begin event old.history
  pub changes_are : changes new.history.entries ≡ changes old.history.entries ++ record { actor = a; event = event } ∷ []
  pub commit : Commit
  pub tells_it : tells old.history new.history commit
  pub queue : new.queue ≡ old.queue ++ commit ∷ []
  pub store : new.store ≡ old.store

-- all queued commits, in order, are now behind those of the store's list; the disk is left
pub record TakesQueue {D : Type 0} (old new : World D) : Type 0 where
  pub queue : new.queue ≡ []
  pub state : state_of new.store ≡ taken_all old.queue (state_of old.store)
  pub disk : new.store.disk ≡ old.store.disk
  pub changes_are : NoChange old new

-- one step of the store; the queue is left
pub record Advances {D : Type 0} (face : DiskFace D) (old new : World D) : Type 0 where
  pub result : Result Progress StoreFault
  pub step : IsStep face.known face.cells face.sectors face.arming face.faults result old.store new.store
  pub queue : new.queue ≡ old.queue
  pub changes_are : NoChange old new

-- the queue, the store's state but for its job, and the disk are left
pub record LeavesLog {D : Type 0} (old new : World D) : Type 0 where
  pub queue : new.queue ≡ old.queue
  pub state : state_of new.store ≡ state_of old.store
  pub disk : new.store.disk ≡ old.store.disk
  pub changes_are : NoChange old new

abbrev pub IsLogKind : {D : Type 0} → DiskFace D → Telling → ℕ → World D → World D → Type 0
IsLogKind {D} face tells a old new = CommitsOne tells a old new ⊎ (TakesQueue old new ⊎ (Advances face old new ⊎ LeavesLog old new))
