-- The fork of an inode as bytes.
use Rattle.std.specs.Prelude.{◌≡◌, ◌≤◌, ◌+◌, ◌-◌, ◌*◌, ◌^◌, ℕ, List, [], ◌∷◌, ◌++◌, length}
use Rattle.std.specs.List.{AllByRecursion}
use Rattle.byteorder.specs.Endian.{big_bytes}
use Rattle.life_limits.specs.declared.TheConstants.{FIRST_DATA_BLOCK, MAX_BLOCKS}
use Rattle.life_bytes.specs.Pieces.{zeros}
use Rattle.inode_core.specs.Cores.{fork_of}
use Rattle.extent_fork.specs.declared.extent.Extent.{Extent}
use Rattle.extent_fork.specs.Runs.{run_end, AreApart}

-- A record's number: above 21 bits of count 52 bits of start block, above them the offset.
-- The flag above the offset is 0.
abbrev pub record_number : ℕ → ℕ → Extent → ℕ
record_number group offset run = (offset * 2 ^ 52 + (group * MAX_BLOCKS + run.start)) * 2 ^ 21 + run.count

-- the records of runs that follow each other in the file from an offset on
unfoldable pub extent_records : ℕ → ℕ → List Extent → List ℕ
extent_records group offset [] = []
extent_records group offset (run ∷ runs) = big_bytes 16 (record_number group offset run) ++ extent_records group (offset + run.count) runs

-- the fork that encodes the runs: their records, and zeros
unfoldable pub fork : ℕ → List Extent → List ℕ
fork group runs = extent_records group 0 runs ++ zeros (336 - 16 * length runs)

-- a run of data blocks
pub record IsRun (run : Extent) : Type 0 where
  pub count : 1 ≤ run.count
  pub start : FIRST_DATA_BLOCK ≤ run.start
  pub end : run_end run ≤ MAX_BLOCKS

-- runs of data blocks, none of which goes on in the next
pub record AreRuns (list : List Extent) : Type 0 where
  pub each : AllByRecursion IsRun list
  pub apart : AreApart list

-- the sector has a fork of so many records, which are these runs of the group
pub record HasFork (bytes : List ℕ) (count group : ℕ) (list : List Extent) : Type 0 where
  pub runs : AreRuns list
  pub many : length list ≡ count
  pub encoded : fork_of bytes ≡ fork group list
