use Rattle.std.proofs.Common.{◌≡◌, take}
use Rattle.std.specs.List.{flat_map}
use Rattle.extent_fork.specs.Runs.{blocks_of}
use Rattle.group_ops.proofs.sectors.blocks_of_runs.Given as goal

abbrev pub invariant-loop-run : goal.invariant-loop-run
invariant-loop-run l = l.blocks.items ≡ flat_map blocks_of (take l.run-index l.runs)
