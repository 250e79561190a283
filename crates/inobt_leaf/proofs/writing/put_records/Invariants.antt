use Rattle.std.proofs.Common.{◌≡◌, take}
use Rattle.life_bytes.specs.Pieces.{placed}
use Rattle.inobt_leaf.specs.declared.writing.TheConstants.{LEAF_RECORDS_AT}
use Rattle.inobt_leaf.specs.Pages.{chunk_records}
use Rattle.inobt_leaf.proofs.writing.put_records.Given as goal

abbrev pub invariant-loop-index : goal.invariant-loop-index
invariant-loop-index l = l.bytes ≡ placed (chunk_records LEAF_RECORDS_AT (take l.index l.chunks)) l.fn.bytes
