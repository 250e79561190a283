use Rattle.std.proofs.Common.{◌≡◌, ◌-◌, ℕ, true, length}
use Rattle.free_map.specs.Blocks.{is_block_free}
use Rattle.image_rules.specs.Taking.{MissesRun}
use Rattle.image_rules.proofs.taken.occupy_chunk.Given as goal

abbrev pub invariant-loop-block : goal.invariant-loop-block
invariant-loop-block l = record {
  long : length l.map ≡ length l.fn.map;
  free : (b : ℕ) → is_block_free l.map b ≡ true → (is_block_free l.fn.map b ≡ true) × MissesRun b l.first (l.block - l.first);
  kept : (b : ℕ) → is_block_free l.fn.map b ≡ true → MissesRun b l.first (l.block - l.first) → is_block_free l.map b ≡ true;
}
