use Rattle.std.proofs.Common.{ℕ, ◌<◌, get_or}
use Rattle.life_bytes.specs.Fields.{field}
use Rattle.life_bytes.specs.declared.sector.Sector.{Sector}
use Rattle.recovery.proofs.high.first_reaching.Given as goal

abbrev pub invariant-loop-place : goal.invariant-loop-place
invariant-loop-place l = (k : ℕ) (d : Sector) → k < l.place → field 8 0 (get_or l.ring k d).bytes < l.limit
