use Rattle.std.proofs.Common.{List, [], subst}
use Rattle.log_record.specs.declared.image.Commit.{Commit}
use Rattle.life_table.specs.declared.types.Entry.{Entry}
use Rattle.group_ops.specs.Values.{StateValue}
use Rattle.orphan_frees.specs.Frees.{FreesAll}
use Rattle.orphan_frees.specs.Order.{keys_to_free}
use Rattle.mount.proofs.AllFreed.{FreeLaws, are_freed, entries_are}
use Rattle.mount.proofs.freeing.free_all.Goals as goal

pub returns-clause-freed : goal.returns-clause-freed
returns-clause-freed g c geometry t layouts sectors of can unheld anchor =
    let laws : FreeLaws = record {
      encodes = c.recovery_frees_in_order.ensures.encodes;
      unheld = c.recovery_frees_in_order.ensures.unheld;
      after = c.recovery_frees_in_order.ensures.after;
      all = c.recovery_frees_in_order.ensures.all;
      few = c.recovery_frees_in_order.ensures.few;
    } in
    let list : List Commit = c.free_orphans.new.store.queue.items in
    let entries : List Entry = c.free_orphans.new.entries.items in
    let states : List StateValue = c.free_orphans.new.groups.items in
    let all : FreesAll geometry t layouts [] list [] entries states =
    subst (λ (xs : List Commit). FreesAll geometry t layouts xs list [] entries states) c.requires.none
    (subst (λ (xs : List Entry). FreesAll geometry t layouts c.args.store.now.queue.items list xs entries states) c.new-entries.ensures.items
    (c.in_ok-free_orphans.ensures.all geometry t layouts sectors of can unheld anchor)) in
    are_freed laws geometry t layouts sectors c.args.base list entries states (record { groups = c.in_ok-groups.groups; story = c.in_ok-story.story }) can unheld all
    (c.in_ok-story.ensures (keys_to_free t layouts) (entries_are geometry t layouts list entries states all)) c.in_ok-groups.ensures.states c.in_ok-groups.ensures.fresh
