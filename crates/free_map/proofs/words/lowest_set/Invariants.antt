use Rattle.std.proofs.Common.{◌≡◌, ◌*◌, filter, take}
use Rattle.std.specs.List.{range_with_len}
use Rattle.free_map.specs.Words.{block_bit}
use Rattle.free_map.proofs.words.lowest_set.Given as goal

abbrev pub invariant-loop-index : goal.invariant-loop-index
invariant-loop-index l = l.found.items ≡ take l.n (filter (block_bit l.words) (range_with_len 0 (64 * l.index)))
