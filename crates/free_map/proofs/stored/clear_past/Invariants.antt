use Rattle.std.proofs.Common.{◌≡◌, ◌<◌, ◌≤◌, ℕ, get_or}
use Rattle.free_map.proofs.Loading.{cleared_word}
use Rattle.free_map.proofs.stored.clear_past.Given as goal

abbrev pub invariant-loop-index : goal.invariant-loop-index
invariant-loop-index l = record {
  done : (k : ℕ) → k < l.index → get_or l.words k 0 ≡ cleared_word l.blocks k (get_or l.initial.words k 0);
  rest : (k : ℕ) → l.index ≤ k → get_or l.words k 0 ≡ get_or l.initial.words k 0;
}
