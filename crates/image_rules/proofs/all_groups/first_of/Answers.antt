use Rattle.std.proofs.Common.{subst}
use Rattle.image_rules.specs.Faults.{AreChecked, IsChecked}
use Rattle.image_rules.proofs.Joining.{both, none_before}
use Rattle.image_rules.proofs.all_groups.first_of.Goals as goal

pub returns-in-Some-Some-clause-checked : goal.returns-in-Some-Some-clause-checked
returns-in-Some-Some-clause-checked c g image group x y =
    let i = c.in-Some-Some in
    both c.rules_hold_or_break.ensures.not_both c.rules_hold_or_break.ensures.numbers g image group i.first i.second c.earlier.result c.earlier.ensures
    (subst (AreChecked g image group) i.is-0 x) (subst (IsChecked g image group) i.is-1 y)

pub returns-in-None-default-clause-checked : goal.returns-in-None-default-clause-checked
returns-in-None-default-clause-checked c g image group x y = none_before c.rules_hold_or_break.ensures.not_both g image group c.args.second (subst (AreChecked g image group) c.in-None-default.is-0 x) y
