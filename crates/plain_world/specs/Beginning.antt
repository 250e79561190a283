-- A world in which nothing has happened.
use Rattle.std.specs.Prelude.{◌*◌, ◌+◌, ℕ, [], None, replicate}
use Rattle.life_limits.specs.declared.TheConstants.{BLOCK_SECTORS, MAX_ACTORS, VERSION}
use Rattle.life_table.specs.Table.{empty_table}
use Rattle.log_store.specs.State.{state_of}
use Rattle.log_store.specs.declared.store.Store.{Store}
use Rattle.actor_world.specs.declared.memory.GroupCache.{GroupCache}
use Rattle.actor_world.specs.declared.memory.Memory.{Memory}
use Rattle.actor_world.specs.Caches.{first_slot, idle_actor}
use Rattle.actor_world.specs.World.{World}

-- the cache of a group of so many blocks, with nothing in core
abbrev pub first_cache : ℕ → GroupCache
first_cache blocks = record { slots = replicate (blocks * BLOCK_SECTORS) first_slot; holder = None }

abbrev pub first_memory : ℕ → ℕ → Memory
first_memory groups blocks = record { actors = replicate MAX_ACTORS idle_actor; groups = replicate groups (first_cache blocks) }

-- no chunk, no call, no commit
abbrev pub first_world : {D : Type 0} → ℕ → ℕ → Store D → World D
first_world {D} groups blocks store = record {
  first_commit = (state_of store).durable + 1;
  history = record { table = empty_table VERSION groups blocks; entries = []; froms = [] };
  memory = first_memory groups blocks;
  queue = [];
  holder = None;
  store = store;
}
