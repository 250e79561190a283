-- A world in which nothing has happened is one that a mount gives.
use Rattle.std.proofs.Common.{◌≡◌, ◌*◌, ◌++◌, ◌∷◌, ℕ, zero, suc, List, [], ap, length, map, refl, replicate, sym, arith}
use Rattle.std.specs.List.{AllByRecursion}
use Rattle.life_limits.specs.declared.TheConstants.{BLOCK_SECTORS, VERSION}
use Rattle.life_table.specs.declared.table.Inode.{Inode}
use Rattle.life_table.specs.Table.{Group, empty_table, map_group}
use Rattle.life_table.specs.WellFormed.{IsTable}
use Rattle.log_record.specs.declared.image.Commit.{Commit}
use Rattle.log_store.specs.declared.store.Job.TheVariants as job
use Rattle.log_store.specs.declared.store.Store.{Store}
use Rattle.log_store.specs.State.{state_of}
use Rattle.actor_world.specs.Caches.{first_slot}
use Rattle.actor_world.specs.Invariant.{CommitsAreRight, IsAtRest}
use Rattle.actor_world.specs.Mounted.{IsDead, IsMounted, IsUncached}
use Rattle.plain_world.specs.Beginning.{first_cache, first_world}
use Rattle.plain_world.specs.Telling.{any_telling}

same_empty : (n : ℕ) (change : Inode → Inode) → replicate n [] ≡ map (map_group change) (replicate n [])
same_empty zero change = refl
same_empty (suc n) change = ap (λ (groups : List Group). [] ∷ groups) (same_empty n change)

same_length : {S T : Type 0} (n : ℕ) (x : S) (y : T) → length (replicate n x) ≡ length (replicate n y)
same_length zero x y = refl
same_length (suc n) x y = ap suc (same_length n x y)

so_many : {T : Type 0} (n : ℕ) (x : T) → length (replicate n x) ≡ n
so_many zero x = refl
so_many (suc n) x = ap suc (so_many n x)

dead_slots : (n : ℕ) → AllByRecursion IsDead (replicate n first_slot)
dead_slots zero = tt
dead_slots (suc n) = (refl, dead_slots n)

uncached : (blocks n : ℕ) → AllByRecursion (IsUncached blocks) (replicate n (first_cache blocks))
uncached blocks zero = tt
uncached blocks (suc n) = (
  record {
    slots = so_many (blocks * BLOCK_SECTORS) first_slot;
    words = dead_slots (blocks * BLOCK_SECTORS);
    holder = refl;
  },
  uncached blocks n,
)

no_commits : (list : List Commit) → list ≡ [] → [] ++ list ++ [] ≡ []
no_commits list e = ap (λ (l : List Commit). [] ++ l ++ []) e

first_commits : {D : Type 0} (groups blocks : ℕ) (store : Store D) → (state_of store).list ≡ []
    → CommitsAreRight any_telling (empty_table VERSION groups blocks) (first_world groups blocks store)
first_commits groups blocks store list = record {
  durable = [];
  first = omega arith;
  count = omega arith;
  tell = no_commits (state_of store).list list;
}

pub first_is_mounted : {D : Type 0} (groups blocks : ℕ) (store : Store D) → IsTable (empty_table VERSION groups blocks)
    → (state_of store).list ≡ [] → store.job ≡ job.Idle → IsAtRest (state_of store).stage
    → IsMounted any_telling (empty_table VERSION groups blocks) (first_world groups blocks store)
first_is_mounted groups blocks store table list idle rest = record {
  table = table;
  keys = [];
  entries = refl;
  froms = refl;
  leads = refl;
  recovered_is = ap (λ (gs : List Group). record { version = VERSION; blocks = blocks; groups = gs }) (same_empty groups _);
  no_holds = sym (ap (λ (gs : List Group). record { version = VERSION; blocks = blocks; groups = gs }) (same_empty groups _));
  actors = refl;
  groups = same_length groups (first_cache blocks) [];
  fresh = uncached blocks groups;
  queue = refl;
  holder = refl;
  job = idle;
  rest = rest;
  commits = first_commits groups blocks store list;
}
