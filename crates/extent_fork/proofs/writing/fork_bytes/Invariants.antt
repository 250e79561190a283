use Rattle.std.proofs.Common.{◌≡◌, ◌≤◌, ◌*◌, ◌-◌, ◌++◌, take}
use Rattle.life_bytes.specs.Pieces.{zeros}
use Rattle.extent_fork.specs.Forks.{extent_records}
use Rattle.extent_fork.proofs.Lists.{total}
use Rattle.extent_fork.proofs.writing.fork_bytes.Given as goal

abbrev pub invariant-loop-index : goal.invariant-loop-index
invariant-loop-index l = record {
  bytes : l.bytes ≡ extent_records l.group 0 (take l.index l.list) ++ zeros (336 - 16 * l.index);
  offset : l.offset ≡ total (take l.index l.list);
  small : l.offset ≤ l.index * 16384;
}
