use Rattle.disk_model.specs.DiskLaws.{IsImage-settled_as_itself}
use Rattle.run_history.proofs.Joins.{nothing_said, settled_safe}
use Rattle.run_history.proofs.laws.runs_without_lines_are_crash_safe.Goals as goal

pub returns-clause-headline : goal.returns-clause-headline
returns-clause-headline c = nothing_said

pub returns-clause-crash_safe : goal.returns-clause-crash_safe
returns-clause-crash_safe c = λ image first number. (λ safe. safe image (IsImage-settled_as_itself image), settled_safe image first number)
