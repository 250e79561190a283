use Rattle.version_table.proofs.Owners.{owners}
use Rattle.version_table.proofs.laws.each_entry_has_one_owner.Goals as goal

pub returns : goal.returns
returns c = λ count s was. owners count s was
