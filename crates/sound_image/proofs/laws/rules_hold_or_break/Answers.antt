use Rattle.sound_image.proofs.Damages.{not_both, same_rule}
use Rattle.sound_image.proofs.laws.rules_hold_or_break.Goals as goal

pub returns-clause-not_both : goal.returns-clause-not_both
returns-clause-not_both c = not_both

pub returns-clause-numbers : goal.returns-clause-numbers
returns-clause-numbers c = same_rule
