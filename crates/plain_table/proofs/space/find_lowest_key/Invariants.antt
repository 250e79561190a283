use Rattle.std.proofs.Common.{◌≡◌, drop}
use Rattle.life_table.specs.Space.{lowest_key}
use Rattle.plain_table.proofs.space.find_lowest_key.Given as goal

abbrev pub invariant-loop-chunk : goal.invariant-loop-chunk
invariant-loop-chunk l = lowest_key l.g (drop l.chunk-index l.group) ≡ lowest_key l.g l.group
