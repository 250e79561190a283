use Rattle.std.proofs.Common.{refl}
use Rattle.group_ops.proofs.Holding.{blocks_lead}
use Rattle.group_ops.proofs.state.GroupState.with_blocks.Goals as goal

pub returns : goal.returns
returns c t layouts old row core blocks has is holds table space =
    blocks_lead c.encodings_follow_the_table.ensures.inode c.groups_change_alone.ensures.own c.groups_change_alone.ensures.only c.blocks_touch_their_bits.ensures
    c.rows_are_within_limits.ensures.blocks c.args.self.now _ t layouts old row core blocks c.hold.ensures.shape c.hold.ensures.inside c.requires.low has is holds table space
    refl refl refl c.requires.anew.0 c.requires.anew.1
