-- A run that has come so far, which is what a loop over the lines keeps.
use Rattle.std.specs.Prelude.{◌≤◌, List, length, take}
use Rattle.life_table.specs.declared.table.Table.{Table}
use Rattle.script.specs.declared.types.Line.{Line as ScriptLine}
use Rattle.script.specs.declared.answers.Said.{Said}
use Rattle.run_history.specs.States.{RunState, run_begins}
use Rattle.run_history.specs.Answers.{Answers}

-- The first lines have these answers, and leave the run so.
pub record HasCome (first : Table) (lines : List ScriptLine) (said : List Said) (s : RunState) : Type 0 where
  pub few : length said ≤ length lines
  pub answers : Answers first run_begins (take (length said) lines) said s
