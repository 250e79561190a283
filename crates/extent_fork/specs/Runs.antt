-- Lists of blocks as runs.
use Rattle.std.specs.Prelude.{◌≡◌, ◌≢◌, ◌≤◌, ◌+◌, ◌==◌, ℕ, List, [], ◌∷◌, length, if◌then◌else◌, ⊤}
use Rattle.std.specs.List.{range_with_len, flat_map, AllByRecursion}
use Rattle.extent_fork.specs.declared.extent.Extent.{Extent}

-- one block alone
abbrev pub single : ℕ → Extent
single block = record { start = block; count = 1 }

-- the block behind a run
abbrev pub run_end : Extent → ℕ
run_end run = run.start + run.count

-- a run with one block more
abbrev pub grown : Extent → Extent
grown run = record { start = run.start; count = run.count + 1 }

-- the runs of blocks that follow a run: it goes on while the next block is the one behind it
abbrev pub runs_from : Extent → List ℕ → List Extent
runs_from run [] = run ∷ []
runs_from run (block ∷ blocks) = if block == run_end run then runs_from (grown run) blocks else run ∷ runs_from (single block) blocks

-- the runs of a list of blocks, in its order: the one list of longest runs, as LongestRunsAreOne says
abbrev pub runs : List ℕ → List Extent
runs [] = []
runs (block ∷ blocks) = runs_from (single block) blocks

-- the blocks of a run
abbrev pub blocks_of : Extent → List ℕ
blocks_of run = range_with_len run.start run.count

-- no run goes on in the next
abbrev pub AreApart : List Extent → Type 0
AreApart [] = ⊤
AreApart (run ∷ []) = ⊤
AreApart (run ∷ next ∷ others) = (next.start ≢ run_end run) × AreApart (next ∷ others)

-- these are the longest runs whose blocks, one after the other, are the list
pub record AreLongestRuns (blocks : List ℕ) (runs : List Extent) : Type 0 where
  pub all : flat_map blocks_of runs ≡ blocks
  pub counts : AllByRecursion (λ run. 1 ≤ run.count) runs
  pub apart : AreApart runs

-- Each list of blocks has one list of longest runs, which is `runs` of it, and in no fewer runs can its blocks be told.
pub record LongestRunsAreOne : Type 0 where
  pub are : (blocks : List ℕ) → AreLongestRuns blocks (runs blocks)
  pub one : (blocks : List ℕ) (list : List Extent) → AreLongestRuns blocks list → list ≡ runs blocks
  pub fewest : (blocks : List ℕ) (list : List Extent) → flat_map blocks_of list ≡ blocks → length (runs blocks) ≤ length list
