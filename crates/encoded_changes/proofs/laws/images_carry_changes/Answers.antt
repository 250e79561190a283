use Rattle.encoded_changes.proofs.OneList.{carried_in_group, one_list}
use Rattle.encoded_changes.proofs.Overlaid.{of_one_group, carried}
use Rattle.encoded_changes.proofs.laws.images_carry_changes.Goals as goal

pub returns-clause-encoded : goal.returns-clause-encoded
returns-clause-encoded c = carried

pub returns-clause-one_group : goal.returns-clause-one_group
returns-clause-one_group c = of_one_group

pub returns-clause-in_group : goal.returns-clause-in_group
returns-clause-in_group c = carried_in_group

pub returns-clause-one_list : goal.returns-clause-one_list
returns-clause-one_list c = one_list
