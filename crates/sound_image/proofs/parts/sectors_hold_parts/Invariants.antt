use Rattle.std.proofs.Common.{◌≡◌, ◌<◌, ℕ, length, get_or}
use Rattle.life_bytes.specs.Sectors.{zero_sector}
use Rattle.sound_image.proofs.parts.sectors_hold_parts.Given as goal

abbrev pub invariant-loop-sector : goal.invariant-loop-sector
invariant-loop-sector l = (k : ℕ) → k < l.sector-index → length (get_or l.sectors k zero_sector).bytes ≡ 512
