use Rattle.group_ops.proofs.Parts.{prior_after}
use Rattle.group_ops.proofs.state.GroupState.push_prior.Goals as goal

pub push_inode-requires-clause-after : goal.push_inode-requires-clause-after
push_inode-requires-clause-after c = prior_after c.args.self.now c.args.delta.now c.args.prior.now c.hold.ensures.inside c.requires.prior c.requires.no_chunk
