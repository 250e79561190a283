use Rattle.std.proofs.Common.{◌≡◌, ◌≤◌, ◌*◌, filter, length}
use Rattle.std.specs.List.{range_with_len}
use Rattle.free_map.specs.Words.{block_bit}
use Rattle.free_map.proofs.stored.count_set.Given as goal

abbrev pub invariant-loop-word : goal.invariant-loop-word
invariant-loop-word l = record {
  so_far : l.count ≡ length (filter (block_bit l.words) (range_with_len 0 (64 * l.word-index)));
  few : l.count ≤ 64 * l.word-index;
}
