use Rattle.std.proofs.Common.{◌≡◌, ℕ, false, length, get_or, leb, ltb}
use Rattle.std.specs.Prelude.{◌&&◌}
use Rattle.image_make.proofs.empty.empty_map.Given as goal

abbrev pub invariant-loop-block : goal.invariant-loop-block
invariant-loop-block l = record {
  long : length l.map ≡ l.blocks;
  each : (b : ℕ) → get_or l.map b false ≡ (leb 24 b && ltb b l.block);
}
