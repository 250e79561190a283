use Rattle.std.proofs.Common.{◌≡◌, ◌<◌, ◌+◌, ◌++◌, ℕ, replicate, slice_index_or}
use Rattle.life_bytes.specs.declared.sector.Sector.{Sector}
use Rattle.log_record.specs.Encoding.{stamps}
use Rattle.log_record.proofs.write.stamp_all.Given as goal

abbrev pub invariant-loop-i : goal.invariant-loop-i
invariant-loop-i l = (i : ℕ) (d : Sector) → i < l.i
    → (slice_index_or l.into i d).bytes ≡ stamps (l.position + i) l.position ++ replicate 496 0
