use Rattle.inobt_leaf.proofs.OneBit.{clear_here, clear_other, clear_count, set_here, set_other, set_count}
use Rattle.inobt_leaf.proofs.masks.masks_change_by_one_bit.Goals as goal

pub returns-clause-clear : goal.returns-clause-clear
returns-clause-clear c = clear_here

pub returns-clause-clear_others : goal.returns-clause-clear_others
returns-clause-clear_others c = clear_other

pub returns-clause-clear_count : goal.returns-clause-clear_count
returns-clause-clear_count c = clear_count

pub returns-clause-set : goal.returns-clause-set
returns-clause-set c = set_here

pub returns-clause-set_others : goal.returns-clause-set_others
returns-clause-set_others c = set_other

pub returns-clause-set_count : goal.returns-clause-set_count
returns-clause-set_count c = set_count
