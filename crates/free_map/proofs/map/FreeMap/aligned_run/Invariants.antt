use Rattle.std.proofs.Common.{ℕ, ◌<◌, get_or}
use Rattle.free_map.specs.Words.{IsFull}
use Rattle.free_map.proofs.map.FreeMap.aligned_run.Given as goal

abbrev pub invariant-loop-index : goal.invariant-loop-index
invariant-loop-index l = (w : ℕ) → w < l.index → (k : ℕ) → k < 8 → ¬ IsFull (get_or l.word-items w 0) k
