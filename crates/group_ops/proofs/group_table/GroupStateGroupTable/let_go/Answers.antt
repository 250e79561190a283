use Rattle.std.proofs.Common.{ap}
use Rattle.group_ops.specs.Values.{StateValue, kept_at}
use Rattle.group_ops.proofs.Caching.{cached_gone, is_clean_kept, same_table, still_represents}
use Rattle.group_ops.proofs.group_table.GroupStateGroupTable.let_go.Goals as goal

pub drop_inode-requires : goal.drop_inode-requires
drop_inode-requires c = record { clean = is_clean_kept (kept_at c.args.self.now c.args.agino) c.requires.clean }

pub returns-clause-group : goal.returns-clause-group
returns-clause-group c = ap (λ (v : StateValue). v.group) c.drop_inode.ensures.gone

pub returns-clause-table : goal.returns-clause-table
returns-clause-table c =
    let gone = c.drop_inode.ensures.gone in
    same_table c.states_have_their_table.ensures c.args.self.now c.drop_inode.new.self c.hold.ensures.shape c.hold.ensures.inside (ap (λ (v : StateValue). v.geometry) gone)
    (ap (λ (v : StateValue). v.group) gone) c.drop_inode.ensures.represents c.requires.represents

pub returns-clause-represents : goal.returns-clause-represents
returns-clause-represents c = still_represents c.args.self.now c.drop_inode.new.self c.drop_inode.ensures.represents c.requires.represents

pub returns-clause-cached : goal.returns-clause-cached
returns-clause-cached c number = cached_gone c.args.self.now c.drop_inode.new.self c.args.agino c.drop_inode.new.self.room number c.drop_inode.ensures.gone

pub returns-clause-gone : goal.returns-clause-gone
returns-clause-gone c = record { in_core = c.drop_inode.ensures.gone; group = c.drop_inode.ensures.represents }
