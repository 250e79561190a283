-- A world as a mount gives it.
use Rattle.std.specs.Prelude.{◌≡◌, ◌+◌, ◌*◌, ℕ, false, List, [], ◌∷◌, None, length, replicate}
use Rattle.std.specs.List.{AllByRecursion}
use Rattle.life_limits.specs.declared.TheConstants.{BLOCK_SECTORS, MAX_ACTORS}
use Rattle.log_store.specs.declared.store.Job.TheVariants as job
use Rattle.log_store.specs.State.{state_of}
use Rattle.life_table.specs.declared.key.Key.{Key}
use Rattle.life_table.specs.declared.table.Table.{Table}
use Rattle.life_table.specs.History.{Leads, closed, frees_of, recovered}
use Rattle.life_table.specs.WellFormed.{IsTable}
use Rattle.actor_world.specs.declared.memory.GroupCache.{GroupCache}
use Rattle.actor_world.specs.declared.memory.Slot.{Slot}
use Rattle.actor_world.specs.Caches.{idle_actor}
use Rattle.actor_world.specs.World.{World}
use Rattle.actor_world.specs.Steps.{Telling}
use Rattle.actor_world.specs.Invariant.{CommitsAreRight, IsAtRest}

-- the word of a slot is not live
abbrev pub IsDead : Slot → Type 0
IsDead slot = slot.word.live ≡ false

-- the cache of a group of so many blocks with no live word, whose lock is free
pub record IsUncached (blocks : ℕ) (cache : GroupCache) : Type 0 where
  pub slots : length cache.slots ≡ blocks * BLOCK_SECTORS
  pub words : AllByRecursion IsDead cache.slots
  pub holder : cache.holder ≡ None

-- the places of entries from here on, one for each of these keys
abbrev pub own_places : ℕ → List Key → List ℕ
own_places n [] = []
own_places n (key ∷ keys) = n ∷ own_places (n + 1) keys

-- For the table from which the mount began: what happened are the frees of recovery, each with its own place; they lead to
-- the recovered table, on which there are no holds; every actor is idle, every lock free, no word live, and no commit
-- waits and none is in flight; and the commits of the frees are right.
pub record IsMounted {D : Type 0} (tells : Telling) (start : Table) (w : World D) : Type 0 where
  pub table : IsTable start
  pub keys : List Key
  pub entries : w.history.entries ≡ frees_of MAX_ACTORS keys
  pub froms : w.history.froms ≡ own_places 0 keys
  pub leads : Leads start w.history.entries w.history.table
  pub recovered_is : w.history.table ≡ recovered start
  pub no_holds : closed w.history.table ≡ w.history.table
  pub actors : w.memory.actors ≡ replicate MAX_ACTORS idle_actor
  pub groups : length w.memory.groups ≡ length w.history.table.groups
  pub fresh : AllByRecursion (IsUncached w.history.table.blocks) w.memory.groups
  pub queue : w.queue ≡ []
  pub holder : w.holder ≡ None
  pub job : w.store.job ≡ job.Idle
  pub rest : IsAtRest (state_of w.store).stage
  pub commits : CommitsAreRight tells start w
