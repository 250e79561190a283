use Rattle.std.proofs.Common.{◌≡◌, ◌+◌, ◌*◌, ◌<◌, ℕ, length, get_or}
use Rattle.life_bytes.specs.Fields.{field}
use Rattle.ag_header.specs.declared.agi.TheConstants.{AGI_UNLINKED_AT}
use Rattle.ag_header.proofs.heads.heads_in.Given as goal

abbrev pub invariant-loop-index : goal.invariant-loop-index
invariant-loop-index l = (length l.heads ≡ 64) × ((k : ℕ) → k < l.index → get_or l.heads k 0 ≡ field 4 (AGI_UNLINKED_AT + 4 * k) l.sector.bytes)
