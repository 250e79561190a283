use Rattle.std.proofs.Common.{◌<◌, ◌+◌, ℕ, get_or, map}
use Rattle.log_record.proofs.read.ascends.Given as goal

abbrev pub invariant-loop-i : goal.invariant-loop-i
invariant-loop-i l = (k : ℕ) → k + 1 < l.i → get_or (map (λ image. image.home) l.images) k 0 < get_or (map (λ image. image.home) l.images) (k + 1) 0
