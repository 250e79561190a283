use Rattle.encoded_changes.proofs.Listed.{puts_first, takes_out}
use Rattle.encoded_changes.proofs.Rows.{own_group, changes_only, encodes_next}
use Rattle.encoded_changes.proofs.laws.groups_change_alone.Goals as goal

pub returns-clause-own : goal.returns-clause-own
returns-clause-own c = own_group

pub returns-clause-only : goal.returns-clause-only
returns-clause-only c = changes_only

pub returns-clause-encodes : goal.returns-clause-encodes
returns-clause-encodes c = encodes_next

pub returns-clause-put : goal.returns-clause-put
returns-clause-put c = puts_first

pub returns-clause-taken : goal.returns-clause-taken
returns-clause-taken c = takes_out
