use Rattle.std.proofs.Common.{◌≡◌, ℕ, true, All, length, take}
use Rattle.free_map.specs.Blocks.{is_block_free}
use Rattle.image_rules.specs.Taking.{Misses}
use Rattle.image_rules.proofs.taken.occupy_chunks.Given as goal

abbrev pub invariant-loop-chunk : goal.invariant-loop-chunk
invariant-loop-chunk l = record {
  long : length l.map ≡ length l.fn.map;
  free : (b : ℕ) → is_block_free l.map b ≡ true → (is_block_free l.fn.map b ≡ true) × All (Misses b) (take l.chunk-index l.chunks);
  kept : (b : ℕ) → is_block_free l.fn.map b ≡ true → All (Misses b) (take l.chunk-index l.chunks) → is_block_free l.map b ≡ true;
}
