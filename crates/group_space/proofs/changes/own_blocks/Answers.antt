use Rattle.group_space.proofs.Follows.{own_is}
use Rattle.group_space.proofs.changes.own_blocks.Goals as goal

pub returns : goal.returns
returns c = own_is c.args.block
