use Rattle.group_ops.specs.Values.{kept_at}
use Rattle.group_ops.proofs.Caching.{some_told, told_clean}
use Rattle.group_ops.proofs.group_table.GroupStateGroupTable.clean.Goals as goal

pub is_clean-requires : goal.is_clean-requires
is_clean-requires c = some_told (kept_at c.args.self.now c.args.agino) c.requires

pub returns : goal.returns
returns c = told_clean c.is_clean.result (kept_at c.args.self.now c.args.agino) c.requires c.is_clean.ensures
