use Rattle.std.proofs.Common.{◌≡◌, ◌≤◌, ◌*◌, length, take}
use Rattle.std.specs.List.{flat_map}
use Rattle.extent_fork.specs.Runs.{blocks_of}
use Rattle.image_rules.proofs.inodes.count_blocks.Given as goal

abbrev pub invariant-loop-run : goal.invariant-loop-run
invariant-loop-run l = record {
  count : l.count ≡ length (flat_map blocks_of (take l.run-index l.runs));
  small : l.count ≤ 16384 * l.run-index;
}
