use Rattle.group_ops.proofs.Caching.{own_inode}
use Rattle.group_ops.proofs.group_table.states_have_their_inodes.Goals as goal

pub returns : goal.returns
returns c =
    own_inode c.states_have_their_table.ensures c.groups_stand_apart.ensures.agrees c.encodings_pass_over_holds.ensures.groups c.encodings_pass_over_holds.ensures.inodes
