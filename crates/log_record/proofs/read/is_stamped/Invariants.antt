use Rattle.std.proofs.Common.{◌<◌, ◌+◌, ◌≡◌, ℕ, length}
use Rattle.life_bytes.specs.declared.sector.Sector.{Sector}
use Rattle.log_record.specs.Outline.{IsStamped}
use Rattle.log_record.specs.Whole.{at_place}
use Rattle.log_record.proofs.read.is_stamped.Given as goal

abbrev pub invariant-loop-i : goal.invariant-loop-i
invariant-loop-i l = record {
  stamped : IsStamped l.ring l.position l.i;
  whole : (i : ℕ) (d : Sector) → i < l.i → length (at_place l.ring (l.position + i) d).bytes ≡ 512;
}
