use Rattle.std.proofs.Common.{◌≡◌, ◌≤◌, ◌<◌, ℕ, true, length}
use Rattle.free_map.specs.Blocks.{is_block_free}
use Rattle.image_rules.proofs.taken.data_blocks.Given as goal

abbrev pub invariant-loop-block : goal.invariant-loop-block
invariant-loop-block l = record {
  long : length l.map ≡ l.blocks;
  free : (b : ℕ) → is_block_free l.map b ≡ true → (24 ≤ b) × (b < l.block);
  kept : (b : ℕ) → 24 ≤ b → b < l.block → is_block_free l.map b ≡ true;
}
