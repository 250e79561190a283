use Rattle.std.proofs.Common.{◌∙◌, ap, sym}
use Rattle.std.specs.Prelude.{Some, None}
use Rattle.std.specs.Option.{option_copied}
use Rattle.script_runs.proofs.Idle.{base_last}
use Rattle.script_runs.proofs.coming.last_base.Goals as goal

pub returns-in-Some : goal.returns-in-Some
returns-in-Some c = λ mounts are. base_last mounts c.args.past.now (Some c.in-Some.story.now) are (sym (ap option_copied c.in-Some.is) ∙ c.last.ensures.value)

pub returns-in-None : goal.returns-in-None
returns-in-None c = λ mounts are. base_last mounts c.args.past.now None are (sym (ap option_copied c.in-None.is) ∙ c.last.ensures.value)
