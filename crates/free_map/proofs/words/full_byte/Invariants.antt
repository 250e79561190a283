use Rattle.std.proofs.Common.{ℕ, ◌<◌}
use Rattle.free_map.specs.Words.{IsFull}
use Rattle.free_map.proofs.words.full_byte.Given as goal

abbrev pub invariant-loop-k : goal.invariant-loop-k
invariant-loop-k l = (j : ℕ) → j < l.k → ¬ IsFull l.word j
