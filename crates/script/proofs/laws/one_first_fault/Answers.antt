use Rattle.script.specs.Scripts.{asking_lines}
use Rattle.script.proofs.Progress.{no_fault, one_fault}
use Rattle.script.proofs.laws.one_first_fault.Goals as goal

pub returns-clause-none : goal.returns-clause-none
returns-clause-none c bytes line rule = no_fault (asking_lines bytes) line rule

pub returns-clause-one : goal.returns-clause-one
returns-clause-one c bytes line rule other named = one_fault (asking_lines bytes) line rule other named
