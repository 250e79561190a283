use Rattle.std.proofs.Common.{◌<◌, ◌+◌, List, length, refl, ap, ◌∙◌, arith}
use Rattle.life_table.specs.declared.key.Key.{Key}
use Rattle.log_store.specs.State.{State}
use Rattle.orphan_frees.specs.Order.{freed_all, keys_to_free, unlisted_all}
use Rattle.orphan_frees.proofs.Groups.{all_more, all_of, keys_before, next_number, next_unheld, none_in_groups, some_more, unheld_of}
use Rattle.orphan_frees.proofs.frees.free_orphans.Goals as goal

pub loop-index-init : goal.loop-index-init
loop-index-init g c =
    let a = c.args in
    record {
      frees = λ h t layouts sectors are. none_in_groups c.commits_follow_each_other.ensures.none h t layouts a.store.now.queue.items a.entries.now.items a.groups.now.items are.groups;
      count = refl;
      store = c.requires.store;
      state = refl;
      disk = refl;
      job = refl;
    }

pub free_group_at-requires-clause-unheld : goal.free_group_at-requires-clause-unheld
free_group_at-requires-clause-unheld g c =
    let a = c.args in
    let l = c.loop-index in
    let u = c.requires.groups in
    let t = u.1.0 in
    let layouts = u.1.1 in
    let are = unheld_of u.0 t layouts u.1.2 a.groups.now.items u.1.3 u.1.4 u.1.5 in
    let low : l.index < length a.groups.now.items = omega (arith, c.loop-index-test.true, c.len-index-end.ensures) in
    let frees = l.invariant.frees u.0 t layouts u.1.2 are in
    let few = next_number c.groups_are_freed_in_order.ensures.own c.recovery_frees_in_order.ensures.few u.0 t layouts u.1.2 l.index a.groups.now.items l.groups.items a.store.now.queue.items
    l.store.queue.items a.entries.now.items l.entries.items are low frees in
    let durable = ap (λ (s : State). s.durable) l.invariant.state in
    let most = c.requires.numbers in (
      u.0,
      freed_all t (keys_before t layouts l.index),
      unlisted_all layouts (keys_before t layouts l.index),
      u.1.2,
      next_unheld c.recovery_frees_in_order.ensures.encodes u.0 t layouts u.1.2 l.index a.groups.now.items l.groups.items a.store.now.queue.items l.store.queue.items a.entries.now.items l.entries.items
          are low frees,
      ap (λ (s : State). s.anchor) l.invariant.state ∙ u.2,
      omega (arith, few, durable, most),
    )

pub returns-in_err-free_group_at-clause-some : goal.returns-in_err-free_group_at-clause-some
returns-in_err-free_group_at-clause-some g c = λ h t layouts sectors groups can shut anchor.
    let a = c.args in
    let l = c.loop-index in
    let are = unheld_of h t layouts sectors a.groups.now.items groups can shut in
    let low : l.index < length a.groups.now.items = omega (arith, c.loop-index-test.true, c.len-index-end.ensures) in
    let frees = l.invariant.frees h t layouts sectors are in
    let xs : List Key = keys_before t layouts l.index in
    let there = next_unheld c.recovery_frees_in_order.ensures.encodes h t layouts sectors l.index a.groups.now.items l.groups.items a.store.now.queue.items l.store.queue.items a.entries.now.items
    l.entries.items are low frees in
    let some = c.free_group_at.ensures.some h (freed_all t xs) (unlisted_all layouts xs) sectors there in (
      length xs + some.0,
      some_more c.commits_follow_each_other.ensures.joined c.groups_are_freed_in_order.ensures.own h t layouts sectors l.index some.0 a.groups.now.items l.groups.items c.free_group_at.new.groups.items
          a.store.now.queue.items l.store.queue.items c.free_group_at.new.store.queue.items a.entries.now.items l.entries.items c.free_group_at.new.entries.items are low frees some.1 some.2,
    )

pub loop-index-preserved : goal.loop-index-preserved
loop-index-preserved g c =
    let a = c.args in
    let l = c.loop-index in
    let low : l.index < length a.groups.now.items = omega (arith, c.loop-index-test.true, c.len-index-end.ensures) in
    record {
      frees = λ h t layouts sectors are.
          let frees = l.invariant.frees h t layouts sectors are in
          let xs : List Key = keys_before t layouts l.index in
          let there = next_unheld c.recovery_frees_in_order.ensures.encodes h t layouts sectors l.index a.groups.now.items l.groups.items a.store.now.queue.items l.store.queue.items
          a.entries.now.items l.entries.items are low frees in
          all_more c.commits_follow_each_other.ensures.joined c.groups_are_freed_in_order.ensures.own h t layouts sectors l.index a.groups.now.items l.groups.items c.free_group_at.new.groups.items
          a.store.now.queue.items l.store.queue.items c.free_group_at.new.store.queue.items a.entries.now.items l.entries.items c.free_group_at.new.entries.items are low frees
          (c.in_ok-free_group_at.ensures.all h (freed_all t xs) (unlisted_all layouts xs) sectors there);
      count = c.free_group_at.ensures.count ∙ l.invariant.count;
      store = c.free_group_at.ensures.store;
      state = c.free_group_at.ensures.state ∙ ap (λ (s : State). let x : State = record s { list = c.free_group_at.new.store.queue.items } in x) l.invariant.state;
      disk = c.free_group_at.ensures.disk ∙ l.invariant.disk;
      job = c.free_group_at.ensures.job ∙ l.invariant.job;
    }

pub returns-clause-all : goal.returns-clause-all
returns-clause-all g c = λ h t layouts sectors groups can shut anchor.
    let a = c.args in
    let l = c.loop-index in
    let are = unheld_of h t layouts sectors a.groups.now.items groups can shut in
    all_of h t layouts sectors l.index a.groups.now.items l.groups.items a.store.now.queue.items l.store.queue.items a.entries.now.items l.entries.items are
    (omega (arith, c.loop-index-test.false, l.auto.index-end, c.len-index-end.ensures)) (l.invariant.frees h t layouts sectors are)

pub returns-clause-some : goal.returns-clause-some
returns-clause-some g c = λ h t layouts sectors groups can shut anchor.
    let a = c.args in
    let l = c.loop-index in
    let are = unheld_of h t layouts sectors a.groups.now.items groups can shut in (
      length (keys_to_free t layouts),
      all_of h t layouts sectors l.index a.groups.now.items l.groups.items a.store.now.queue.items l.store.queue.items a.entries.now.items l.entries.items are
          (omega (arith, c.loop-index-test.false, l.auto.index-end, c.len-index-end.ensures)) (l.invariant.frees h t layouts sectors are),
    )
