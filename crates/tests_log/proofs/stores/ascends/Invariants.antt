use Rattle.std.proofs.Common.{◌<◌, ◌+◌, ℕ, get_or}
use Rattle.log_image.specs.Overlay.{homes}
use Rattle.tests_log.proofs.stores.ascends.Given as goal

abbrev pub invariant-loop-i : goal.invariant-loop-i
invariant-loop-i l = (k : ℕ) → k + 1 < l.i → get_or (homes l.images) k 0 < get_or (homes l.images) (k + 1) 0
