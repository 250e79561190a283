use Rattle.std.proofs.Common.{◌≡◌, ◌<◌, ◌+◌, ◌*◌, ℕ, length, get_or}
use Rattle.life_bytes.specs.Fields.{field}
use Rattle.inode_core.specs.declared.shape.TheConstants.{FORK_AT}
use Rattle.extent_fork.specs.declared.extent.Extent.{Extent}
use Rattle.extent_fork.specs.Reading.{run_in}
use Rattle.extent_fork.proofs.reading.runs_at.Given as goal

abbrev pub invariant-loop-index : goal.invariant-loop-index
invariant-loop-index l = record {
  count : length l.list.items ≡ l.index;
  each : (k : ℕ) (d : Extent) → k < l.index → get_or l.list.items k d ≡ run_in (field 16 (FORK_AT + 16 * k) l.sector.bytes);
}
