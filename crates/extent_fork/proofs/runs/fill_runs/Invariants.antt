use Rattle.std.proofs.Common.{◌≡◌, ◌≤◌, ◌++◌, drop, length, take}
use Rattle.extent_fork.specs.Runs.{runs, runs_from, run_end}
use Rattle.extent_fork.proofs.runs.fill_runs.Given as goal

abbrev pub invariant-loop-block : goal.invariant-loop-block
invariant-loop-block l = record {
  whole : take l.filled l.into ++ runs_from l.run (drop l.block-index l.rest) ≡ runs l.fn.blocks;
  within : l.filled ≤ length l.into;
  low : run_end l.run ≤ 16384;
}
