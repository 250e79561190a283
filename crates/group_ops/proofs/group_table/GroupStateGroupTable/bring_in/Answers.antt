use Rattle.group_ops.specs.Telling.{HasInodeAt}
use Rattle.group_ops.proofs.Caching.{brought_frame, cached_err, cached_ok, is_brought, number_there, same_table, still_represents}
use Rattle.group_ops.proofs.group_table.GroupStateGroupTable.bring_in.Goals as goal

pub bring_inode-requires : goal.bring_inode-requires
bring_inode-requires c =
    number_there c.states_have_their_inodes.ensures c.args.self.now c.args.agino c.hold.ensures.shape c.hold.ensures.inside c.requires.represents c.requires.inside

pub returns-clause-group : goal.returns-clause-group
returns-clause-group c =
    let has : HasInodeAt c.args.self.now c.args.agino =
    number_there c.states_have_their_inodes.ensures c.args.self.now c.args.agino c.hold.ensures.shape c.hold.ensures.inside c.requires.represents c.requires.inside in
    let is = is_brought c.args.self.now c.bring_inode.new.self c.args.agino c.bring_inode.result c.bring_inode.ensures.brought c.bring_inode.ensures.represents in
    (brought_frame c.args.self.now c.bring_inode.new.self c.args.agino c.bring_inode.new.self.room c.bring_inode.result has is c.bring_inode.ensures.same).group

pub returns-clause-table : goal.returns-clause-table
returns-clause-table c =
    let has : HasInodeAt c.args.self.now c.args.agino =
    number_there c.states_have_their_inodes.ensures c.args.self.now c.args.agino c.hold.ensures.shape c.hold.ensures.inside c.requires.represents c.requires.inside in
    let is = is_brought c.args.self.now c.bring_inode.new.self c.args.agino c.bring_inode.result c.bring_inode.ensures.brought c.bring_inode.ensures.represents in
    let frame = brought_frame c.args.self.now c.bring_inode.new.self c.args.agino c.bring_inode.new.self.room c.bring_inode.result has is c.bring_inode.ensures.same in
    same_table c.states_have_their_table.ensures c.args.self.now c.bring_inode.new.self c.hold.ensures.shape c.hold.ensures.inside frame.geometry frame.group c.bring_inode.ensures.represents
    c.requires.represents

pub returns-clause-represents : goal.returns-clause-represents
returns-clause-represents c = still_represents c.args.self.now c.bring_inode.new.self c.bring_inode.ensures.represents c.requires.represents

pub returns-clause-cached : goal.returns-clause-cached
returns-clause-cached c =
    let has : HasInodeAt c.args.self.now c.args.agino =
    number_there c.states_have_their_inodes.ensures c.args.self.now c.args.agino c.hold.ensures.shape c.hold.ensures.inside c.requires.represents c.requires.inside in
    cached_ok c.args.self.now c.bring_inode.new.self c.args.agino c.bring_inode.result has
    (is_brought c.args.self.now c.bring_inode.new.self c.args.agino c.bring_inode.result c.bring_inode.ensures.brought c.bring_inode.ensures.represents)

pub returns-clause-brought : goal.returns-clause-brought
returns-clause-brought c = is_brought c.args.self.now c.bring_inode.new.self c.args.agino c.bring_inode.result c.bring_inode.ensures.brought c.bring_inode.ensures.represents

pub returns-clause-unmoved : goal.returns-clause-unmoved
returns-clause-unmoved c = cached_err c.args.self.now c.bring_inode.new.self c.bring_inode.new.self.room c.bring_inode.result c.bring_inode.ensures.same
