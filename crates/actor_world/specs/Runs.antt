-- Runs of steps of groups, computed: orders to actors, one after the other, and what was answered.
use Rattle.std.specs.Prelude.{◌*◌, ◌==◌, ℕ, zero, suc, List, [], ◌∷◌, Option, None, Some, if◌then◌else◌, map, replicate}
use Rattle.life_limits.specs.declared.TheConstants.{BLOCK_SECTORS, MAX_ACTORS, MIN_BLOCKS, VERSION}
use Rattle.life_table.specs.declared.types.Call.{Call}
use Rattle.life_table.specs.declared.types.Event.{Event}
use Rattle.life_table.specs.declared.types.Entry.{Entry}
use Rattle.life_table.specs.Table.{empty_table}
use Rattle.actor_world.specs.declared.memory.Doing.{Doing}
use Rattle.actor_world.specs.declared.memory.Memory.{Memory}
use Rattle.actor_world.specs.Caches.{actor_at, first_slot, idle_actor, with_actor}
use Rattle.actor_world.specs.Moves.{Move, move_of, waits_in_group}
use Rattle.actor_world.specs.World.{History, beginning, told_if}

-- the actor begins a call; it makes one step; it makes steps until its call ends; it waits for an actor
pub data Order : Type 0 where
  begin : ℕ → Call → Order
  step : ℕ → Order
  finish : ℕ → Order
  waits : ℕ → ℕ → Order

-- a world as far as steps of groups see it
pub record Scene : Type 0 where
  pub history : History
  pub memory : Memory

-- an actor without a call begins one
abbrev pub begun_if : Option Doing → ℕ → Call → Scene → Option Scene
begun_if (Some d) a made s = None
begun_if None a made s = Some (record {
  history = s.history;
  memory = with_actor a (record { doing = Some (beginning made s.history); queue = (actor_at s.memory a).queue }) s.memory;
})

abbrev pub begun : ℕ → Call → Scene → Option Scene
begun a made s = begun_if (actor_at s.memory a).doing a made s

-- an actor makes a step, where there is one
abbrev pub begin_of : Option Doing → ℕ
begin_of None = 0
begin_of (Some d) = d.«from»

abbrev pub moved : Option Move → ℕ → Scene → Option Scene
moved None a s = None
moved (Some move) a s = Some (record {
  history = told_if a (begin_of (actor_at s.memory a).doing) move.event s.history;
  memory = move.memory;
})

abbrev pub stepped : ℕ → Scene → Option Scene
stepped a s = moved (move_of a s.history.table s.memory) a s

abbrev pub onward : Option Scene → (Scene → Option Scene) → Option Scene
onward None go = None
onward (Some s) go = go s

-- an actor makes steps until its call ends, at most so many
unfoldable pub finished : ℕ → ℕ → Scene → Option Scene
finished zero a s = None
finished (suc n) a s = elim (actor_at s.memory a).doing as (λ _. Option Scene) [
  | None ↦ Some s
  | Some d ↦ onward (stepped a s) (finished n a)
]

-- the actor that an actor waits for
abbrev pub awaited : Scene → ℕ → Option Doing → Option ℕ
awaited s a None = None
awaited s a (Some d) = waits_in_group (actor_at s.memory a).queue d s.memory

abbrev pub waited : Option ℕ → ℕ → Scene → Option Scene
waited None holder s = None
waited (Some a) holder s = if a == holder then Some s else None

abbrev pub obeyed : Order → Scene → Option Scene
obeyed (begin a made) s = begun a made s
obeyed (step a) s = stepped a s
obeyed (finish a) s = finished 40 a s
obeyed (waits a holder) s = waited (awaited s a (actor_at s.memory a).doing) holder s

unfoldable pub run : List Order → Scene → Option Scene
run [] s = Some s
run (order ∷ orders) s = onward (obeyed order s) (run orders)

-- the events, in order
abbrev pub events_of : Option Scene → List Event
events_of None = []
events_of (Some s) = map (λ (entry : Entry). entry.event) s.history.entries

-- one group of the least size without a chunk, with every actor idle and nothing in core
abbrev pub first_scene : Scene
first_scene = record {
  history = record { table = empty_table VERSION 1 MIN_BLOCKS; entries = []; froms = [] };
  memory = record {
    actors = replicate MAX_ACTORS idle_actor;
    groups = record { slots = replicate (MIN_BLOCKS * BLOCK_SECTORS) first_slot; holder = None } ∷ [];
  };
}
