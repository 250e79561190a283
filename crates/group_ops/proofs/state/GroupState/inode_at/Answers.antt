use Rattle.group_ops.proofs.Standing.{at_number, core_is, core_there, extents_are, number_small}
use Rattle.group_ops.proofs.state.GroupState.inode_at.Goals as goal

pub core_at-requires : goal.core_at-requires
core_at-requires c = number_small c.places_have_their_metadata.ensures.place c.args.self.now c.args.agino c.hold.ensures.shape c.hold.ensures.inside c.requires

pub unreachable-requires : goal.unreachable-requires
unreachable-requires c =
    let at = at_number c.args.self.now c.args.agino c.requires in
    core_there c.args.self.now at.t at.layouts c.args.agino at.inode at.there (c.in_default.ensures.told at.t at.layouts at.is)

pub blocks_at-requires-clause-many : goal.blocks_at-requires-clause-many
blocks_at-requires-clause-many c t layouts inode is there = extents_are c.args.self.now t layouts c.args.agino c.in-Some.core inode there (c.in-Some.ensures.told t layouts is)

pub returns : goal.returns
returns c t layouts inode is there =
    let core = core_is c.args.self.now t layouts c.args.agino c.in-Some.core inode there (c.in-Some.ensures.told t layouts is) in
    let blocks = c.in_ok-blocks.ensures t layouts inode is there in
    cc (core, blocks, c.from_vec.ensures)
