use Rattle.std.proofs.Common.{◌≡◌, ◌<◌, ℕ}
use Rattle.sound_image.specs.Places.{bytes_at}
use Rattle.image_rules.proofs.bitmaps.first_other.Given as goal

abbrev pub invariant-loop-index : goal.invariant-loop-index
invariant-loop-index l = (j : ℕ) → j < l.index → bytes_at l.sectors j ≡ bytes_at l.others j
