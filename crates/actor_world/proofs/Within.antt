-- What is so of a world apart from its log.
use Rattle.std.proofs.Common.{◌≡◌, ℕ, true, Some}
use Rattle.std.specs.Prelude.{◌↔◌}
use Rattle.life_table.specs.declared.table.Table.{Table}
use Rattle.life_table.specs.History.{LegalHistory}
use Rattle.life_table.specs.WellFormed.{IsTable}
use Rattle.actor_world.specs.declared.memory.Memory.{Memory}
use Rattle.actor_world.specs.declared.memory.Residence.TheVariants.{Absent}
use Rattle.actor_world.specs.Caches.{actor_at, cache_at, cached_word, slot_at}
use Rattle.actor_world.specs.World.{History, World}
use Rattle.actor_world.specs.Steps.{Telling}
use Rattle.actor_world.specs.Licence.{Interval, Licensed}
use Rattle.actor_world.specs.Invariant.{ActorIsRight, Invariant, IsShaped, LiesInGroup, WordIsRight, unfinished_from}

pub record Within (start : Table) (h : History) (m : Memory) : Type 0 where
  pub table : IsTable start
  pub shaped : IsShaped h.table m
  pub legal : LegalHistory start h.entries h.table
  pub intervals : Interval h.entries h.froms
  pub licensed : Licensed start h.entries h.froms (unfinished_from 0 m.actors)
  pub words : (number : ℕ) → WordIsRight h.table m number
  pub cached : (number : ℕ) → (cached_word m number).live ≡ true → (slot_at m number).inode ≡ Absent → ⊥
  pub group_locks : (g a : ℕ) → (cache_at m g).holder ≡ Some a ↔ LiesInGroup g (actor_at m a)
  pub actors : (a : ℕ) → ActorIsRight start h m a (actor_at m a)

pub within : {D : Type 0} (tells : Telling) (start : Table) (w : World D) → Invariant tells start w → Within start w.history w.memory
within tells start w inv = record {
  table = inv.table;
  shaped = inv.shaped;
  legal = inv.legal;
  intervals = inv.intervals;
  licensed = inv.licensed;
  words = inv.words;
  cached = inv.cached;
  group_locks = inv.group_locks;
  actors = inv.actors;
}
