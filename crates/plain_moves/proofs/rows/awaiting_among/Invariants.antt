use Rattle.std.proofs.Common.{◌≡◌, ◌++◌, drop}
use Rattle.plain_moves.specs.Parts.{awaiting_among}
use Rattle.plain_moves.proofs.rows.awaiting_among.Given as goal

abbrev pub invariant-loop-chunk : goal.invariant-loop-chunk
invariant-loop-chunk l = l.keys.items ++ awaiting_among l.first (drop l.chunk-index l.group) ≡ awaiting_among l.first l.group
