use Rattle.std.proofs.Common.{ap, sym, subst, ◌∙◌}
use Rattle.group_ops.specs.OwnTable.{TakesTo, own_table}
use Rattle.group_ops.specs.Values.{StateValue}
use Rattle.group_ops.proofs.Caching.{represents_roomed}
use Rattle.group_ops.proofs.Lawful.{takes_roomed}
use Rattle.group_ops.proofs.Owned.{own_roomed}
use Rattle.group_ops.proofs.group_table.GroupStateGroupTable.reserve.Goals as goal

pub returns-clause-table : goal.returns-clause-table
returns-clause-table c = ap own_table c.make_room.ensures.same ∙ own_roomed c.args.self.now c.make_room.new.self.room

pub returns-clause-changes : goal.returns-clause-changes
returns-clause-changes c next u takes =
    subst (λ (v : StateValue). TakesTo v next.delta u) (sym c.make_room.ensures.same) (takes_roomed c.args.self.now next.delta c.make_room.new.self.room u takes)

pub returns-clause-represents : goal.returns-clause-represents
returns-clause-represents c is = represents_roomed c.args.self.now c.make_room.new.self c.make_room.new.self.room c.make_room.ensures.same is
