use Rattle.std.proofs.Common.{ℕ, All, ap, sym, subst, arith}
use Rattle.log_image.specs.Log.{IsGroupImage}
use Rattle.life_table.specs.Legal.{freed}
use Rattle.life_table.specs.Table.{row_of}
use Rattle.log_store.specs.State.{State}
use Rattle.group_ops.specs.Calls.{relisted_by}
use Rattle.orphan_frees.proofs.OneFree.{carries, leads_too, made_too, no_commit, one_freed_in, unlisted}
use Rattle.orphan_frees.proofs.frees.make_free.Goals as goal

pub apply-requires-clause-made : goal.apply-requires-clause-made
apply-requires-clause-made g c =
    let a = c.args in
    let due = c.requires.due.3 in
    let t = c.requires.due.0 in
    let layouts = c.requires.due.1 in
    let handed = c.take_commit-commit.new.self in
    let takes = c.changes_are_events.ensures.free a.group.now handed.delta t layouts (relisted_by layouts a.key (row_of t a.key) (row_of (freed t a.key) a.key)) a.key
    due.group.can.shape due.group.inside (leads_too a.group.now a.change handed t layouts a.key c.take_commit-commit.ensures.same c.requires.due.4) due.awaits due.own in
    (_, takes.0)

pub take-requires-clause-images : goal.take-requires-clause-images
take-requires-clause-images g c =
    let a = c.args in
    let carry = carries c.groups_are_freed_in_order.ensures.encodes a.group.now a.change c.requires.due.0 c.requires.due.1 c.requires.due.2 a.key c.take_commit-commit.result no_commit
    c.requires.due.3 c.requires.due.4 c.take_commit-commit.ensures.commit in
    let few = carry.few in
    let room = c.requires.images in
    omega (arith, few, room)

pub take-requires-clause-commit : goal.take-requires-clause-commit
take-requires-clause-commit g c =
    let a = c.args in
    let carry = carries c.groups_are_freed_in_order.ensures.encodes a.group.now a.change c.requires.due.0 c.requires.due.1 c.requires.due.2 a.key c.take_commit-commit.result no_commit
    c.requires.due.3 c.requires.due.4 c.take_commit-commit.ensures.commit in
    (c.commits_fit_the_log.ensures.one a.group.now.geometry c.requires.due.0 (freed c.requires.due.0 a.key) c.requires.due.1 (unlisted c.requires.due.1 a.key) c.requires.due.2
    c.take_commit-commit.result c.requires.due.3.group.can carry).0

pub take-requires-clause-groups : goal.take-requires-clause-groups
take-requires-clause-groups g c =
    let a = c.args in
    let carry = carries c.groups_are_freed_in_order.ensures.encodes a.group.now a.change c.requires.due.0 c.requires.due.1 c.requires.due.2 a.key c.take_commit-commit.result no_commit
    c.requires.due.3 c.requires.due.4 c.take_commit-commit.ensures.commit in
    subst (λ (n : ℕ). All (IsGroupImage n) c.take_commit-commit.result.images) (sym c.requires.place)
    (c.commits_fit_the_log.ensures.one a.group.now.geometry c.requires.due.0 (freed c.requires.due.0 a.key) c.requires.due.1 (unlisted c.requires.due.1 a.key) c.requires.due.2
    c.take_commit-commit.result c.requires.due.3.group.can carry).1

pub returns-clause-freed : goal.returns-clause-freed
returns-clause-freed g c = λ t layouts sectors due frees.
    let a = c.args in
    one_freed_in c.groups_are_freed_in_order.ensures.encodes a.group.now c.apply.new.self a.change t layouts sectors a.key c.take_commit-commit.result no_commit
    a.store.now.queue.items c.take.new.self.queue.items a.entries.now.items c.push_reserved.new.self.items due frees c.take_commit-commit.ensures.commit
    (made_too a.group.now c.apply.new.self a.change c.take_commit-commit.new.self c.take_commit-commit.ensures.same c.apply.ensures.applied)
    (ap (λ (s : State). s.list) c.take.ensures.list) c.push_reserved.ensures.items
