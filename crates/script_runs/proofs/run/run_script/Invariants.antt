use Rattle.std.proofs.Common.{◌≡◌, length}
use Rattle.script_runs.proofs.Runs.{RunsSoFar}
use Rattle.script_runs.proofs.RunTells.{TellsSoFar}
use Rattle.script_runs.proofs.run.run_script.Given as goal

abbrev pub invariant-loop-line : goal.invariant-loop-line
invariant-loop-line g l = record {
  so : RunsSoFar g.D.Disk.known g.D.Disk.cells g.D.Disk.sector_count g.D.Disk.fault_count g.D.Disk.arming l.lines l.fn.disk l.said.items l.run;
  at : length l.said.items ≡ l.line-index;
  tells : TellsSoFar g.D.Disk.fault_count l.fn.disk l.said.items l.run;
}
