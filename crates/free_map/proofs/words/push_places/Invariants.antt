use Rattle.std.proofs.Common.{◌≡◌, ◌≤◌, ◌-◌, ◌++◌, length}
use Rattle.free_map.specs.Words.{places}
use Rattle.free_map.proofs.words.push_places.Given as goal

abbrev pub invariant-loop-rest : goal.invariant-loop-rest
invariant-loop-rest l = record {
  told : l.found.items ++ places l.base l.rest ≡ l.fn.found.items ++ places l.base l.word;
  few : length l.found.items ≤ l.limit;
}

abbrev pub decreases-loop-rest : goal.decreases-loop-rest
decreases-loop-rest l = l.limit - length l.found.items
