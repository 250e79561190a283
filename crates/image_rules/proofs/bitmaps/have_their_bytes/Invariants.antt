use Rattle.std.proofs.Common.{◌≡◌, ◌<◌, ℕ, length, get_or}
use Rattle.life_bytes.specs.declared.sector.Sector.{Sector}
use Rattle.image_rules.proofs.bitmaps.have_their_bytes.Given as goal

abbrev pub invariant-loop-sector : goal.invariant-loop-sector
invariant-loop-sector l = (k : ℕ) (d : Sector) → k < l.sector-index → length (get_or l.sectors k d).bytes ≡ 512
