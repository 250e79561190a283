use Rattle.std.proofs.Common.{[], ◌∷◌, ap}
use Rattle.log_store.specs.State.{State}
use Rattle.orphan_frees.specs.Steps.{FreesInGroup}
use Rattle.orphan_frees.proofs.Joined.{none_in_group}
use Rattle.orphan_frees.proofs.OneFree.{from_room, on_err, same_due}
use Rattle.orphan_frees.proofs.frees.free_row.Goals as goal

pub returns-in_err-make_room-clause-none : goal.returns-in_err-make_room-clause-none
returns-in_err-make_room-clause-none g c = λ t layouts sectors due.
    let a = c.args in
    let r = c.make_room in
    on_err (FreesInGroup a.group.now t layouts [] a.store.now.queue.items r.new.store.queue.items a.entries.now.items r.new.entries.items r.new.group) c.from_residual.result
    (none_in_group c.commits_follow_each_other.ensures.none a.group.now r.new.group t layouts a.store.now.queue.items r.new.store.queue.items a.entries.now.items r.new.entries.items
    due.group.represents r.ensures.group (ap (λ (s : State). s.list) r.ensures.state) r.ensures.entries)

pub free-requires-clause-awaits : goal.free-requires-clause-awaits
free-requires-clause-awaits g c =
    let d = c.requires.due in
    let due = same_due c.args.group.now c.make_room.new.group d.0 d.1 d.2 c.args.key c.make_room.ensures.group d.3 in
    (d.0, d.1, due.group.represents, due.awaits)

pub returns-in_err-change-clause-none : goal.returns-in_err-change-clause-none
returns-in_err-change-clause-none g c = λ t layouts sectors due.
    let a = c.args in
    let r = c.make_room in
    on_err (FreesInGroup a.group.now t layouts [] a.store.now.queue.items r.new.store.queue.items a.entries.now.items r.new.entries.items r.new.group) c.from_residual-in_err-change.result
    (none_in_group c.commits_follow_each_other.ensures.none a.group.now r.new.group t layouts a.store.now.queue.items r.new.store.queue.items a.entries.now.items r.new.entries.items
    due.group.represents r.ensures.group (ap (λ (s : State). s.list) r.ensures.state) r.ensures.entries)

pub make_free-requires-clause-due : goal.make_free-requires-clause-due
make_free-requires-clause-due g c =
    let d = c.requires.due in
    let due = same_due c.args.group.now c.make_room.new.group d.0 d.1 d.2 c.args.key c.make_room.ensures.group d.3 in
    (d.0, d.1, d.2, due, c.in_ok-change.ensures d.0 d.1 due.group.represents due.awaits)

pub returns-clause-freed : goal.returns-clause-freed
returns-clause-freed g c = λ t layouts sectors due.
    let a = c.args in
    let r = c.make_room in
    let m = c.make_free in
    let there = same_due a.group.now r.new.group t layouts sectors a.key r.ensures.group due in
    from_room a.group.now r.new.group m.new.group t layouts (a.key ∷ []) a.store.now.queue.items r.new.store.queue.items m.new.store.queue.items a.entries.now.items r.new.entries.items m.new.entries.items
    r.ensures.group (ap (λ (s : State). s.list) r.ensures.state) r.ensures.entries
    (m.ensures.freed t layouts sectors there (c.in_ok-change.ensures t layouts there.group.represents there.awaits))
