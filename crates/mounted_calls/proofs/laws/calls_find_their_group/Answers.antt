use Rattle.mounted_calls.proofs.Asked.{found_group}
use Rattle.mounted_calls.proofs.laws.calls_find_their_group.Goals as goal

pub returns : goal.returns
returns c = found_group c.holders_have_rows.ensures
