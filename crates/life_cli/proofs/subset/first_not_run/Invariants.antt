use Rattle.std.proofs.Common.{◌≡◌, ◌<◌, ℕ, Some, slice_get}
use Rattle.script.specs.declared.types.Line.{Line}
use Rattle.script_runs.specs.Lines.{IsSteadyLine}
use Rattle.life_cli.proofs.subset.first_not_run.Given as goal

abbrev pub invariant-loop-line : goal.invariant-loop-line
invariant-loop-line l = (i : ℕ) (earlier : Line) → i < l.line-index → slice_get l.script i ≡ Some earlier → IsSteadyLine earlier.command
