use Rattle.std.proofs.Common.{◌≡◌, ◌+◌, ◌*◌, map}
use Rattle.std.specs.List.{range_with_len}
use Rattle.inobt_leaf.specs.declared.writing.TheConstants.{LEAF_RECORDS_AT}
use Rattle.inobt_leaf.specs.Pages.{chunk_at}
use Rattle.inobt_leaf.proofs.reading.read_records.Given as goal

abbrev pub invariant-loop-index : goal.invariant-loop-index
invariant-loop-index l = l.chunks.items ≡ map (λ i. chunk_at l.bytes (LEAF_RECORDS_AT + 16 * i)) (range_with_len 0 l.index)
