-- What a record's number gives, the test of one run, and what a fork gives.
use Rattle.std.specs.Prelude.{◌≡◌, ◌≢◌, ◌≤◌, ◌<◌, ◌+◌, ◌*◌, ◌/◌, ◌%◌, ◌^◌, ℕ, List, length, map, All}
use Rattle.std.specs.List.{range_with_len, flat_map}
use Rattle.life_limits.specs.declared.TheConstants.{FIRST_DATA_BLOCK, MAX_BLOCKS, MAX_EXTENTS, MAX_GROUPS}
use Rattle.life_bytes.specs.Fields.{field}
use Rattle.inode_core.specs.declared.shape.TheConstants.{FORK_AT}
use Rattle.extent_fork.specs.declared.extent.Extent.{Extent}
use Rattle.extent_fork.specs.Forks.{IsRun, AreRuns, HasFork, fork}
use Rattle.extent_fork.specs.Runs.{blocks_of, runs}

-- the low bits of the start block, and the count
abbrev pub run_in : ℕ → Extent
run_in number = record { start = number / 2 ^ 21 % MAX_BLOCKS; count = number % 2 ^ 21 }

-- a run that does not begin at the end of the one before it
abbrev pub IsRunAfter : ℕ → Extent → Type 0
IsRunAfter end run = IsRun run × (run.start ≢ end)

-- the runs that the first records of a fork give, whatever else the fork holds
abbrev pub runs_in : ℕ → List ℕ → List Extent
runs_in count bytes = map (λ k. run_in (field 16 (FORK_AT + 16 * k) bytes)) (range_with_len 0 count)

-- a block that data may use
abbrev pub CanBeDataBlock : ℕ → Type 0
CanBeDataBlock block = (FIRST_DATA_BLOCK ≤ block) × (block < MAX_BLOCKS)

-- What is encoded is read, so no fork encodes two lists of runs; the fork of few runs has its 336 bytes; and each list of data blocks
-- has runs that a fork may have, whose blocks are the list. The runs of a fork are the runs of their blocks.
pub record ForksAreRead : Type 0 where
  pub read : (bytes : List ℕ) (count group : ℕ) (runs : List Extent) → group < MAX_GROUPS → count ≤ MAX_EXTENTS → HasFork bytes count group runs → runs_in count bytes ≡ runs
  pub long : (group : ℕ) (runs : List Extent) → length runs ≤ MAX_EXTENTS → length (fork group runs) ≡ 336
  pub for_blocks : (blocks : List ℕ) → All CanBeDataBlock blocks → AreRuns (runs blocks)
  pub blocks : (blocks : List ℕ) → flat_map blocks_of (runs blocks) ≡ blocks
  pub runs : (list : List Extent) → AreRuns list → runs (flat_map blocks_of list) ≡ list
