use Rattle.std.proofs.Common.{ap, ◌∙◌}
use Rattle.group_ops.specs.Values.{StateValue}
use Rattle.group_ops.proofs.Caching.{represents_after}
use Rattle.group_ops.proofs.Lawful.{cached_after, table_after}
use Rattle.group_ops.proofs.Leading.{changed_group}
use Rattle.group_ops.proofs.group_table.GroupStateGroupTable.apply.Goals as goal

pub returns-clause-group : goal.returns-clause-group
returns-clause-group c = ap (λ (v : StateValue). v.group) c.make_change.ensures.changed ∙ changed_group c.args.self.now c.args.next.delta

pub returns-clause-table : goal.returns-clause-table
returns-clause-table c u takes =
    table_after c.states_have_their_table.ensures c.args.self.now c.make_change.new.self c.args.next.delta c.make_change.new.self.room u c.hold.ensures.shape c.hold.ensures.inside c.make_change.ensures.changed takes

pub returns-clause-cached : goal.returns-clause-cached
returns-clause-cached c agino = cached_after c.args.self.now c.make_change.new.self c.args.next.delta c.make_change.new.self.room agino c.make_change.ensures.changed

pub returns-clause-represents : goal.returns-clause-represents
returns-clause-represents c =
    represents_after c.args.self.now c.make_change.new.self c.args.next.delta c.make_change.new.self.room c.requires.made.0 c.make_change.ensures.changed c.requires.made.1
