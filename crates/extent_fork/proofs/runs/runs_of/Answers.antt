use Rattle.std.proofs.Common.{◌≡◌, ◌∙◌}
use Rattle.extent_fork.specs.Runs.{runs}
use Rattle.extent_fork.proofs.LongestRuns.{longest, for_fork}
use Rattle.extent_fork.proofs.runs.runs_of.Goals as goal

found : (c : goal.In_ok-from_slice) → c.in_ok-from_slice.field-0.items ≡ runs c.args.blocks.now
found c = c.in_ok-from_slice.ensures.items ∙ c.in-Some.ensures.found

pub returns-clause-longest : goal.returns-clause-longest
returns-clause-longest c = longest c.args.blocks.now c.in_ok-from_slice.field-0.items (found c)

pub returns-clause-for_fork : goal.returns-clause-for_fork
returns-clause-for_fork c = λ data_blocks. for_fork c.args.blocks.now c.in_ok-from_slice.field-0.items (found c) c.requires data_blocks
