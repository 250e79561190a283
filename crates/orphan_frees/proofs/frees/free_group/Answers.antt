use Rattle.std.proofs.Common.{◌<◌, List, length, take, refl, ap, sym, subst, ◌∙◌, arith}
use Rattle.geometry.specs.declared.shape.Geometry.{Geometry}
use Rattle.geometry.specs.Places.{anchor_of}
use Rattle.life_table.specs.declared.key.Key.{Key}
use Rattle.log_store.specs.State.{State}
use Rattle.orphan_frees.specs.Order.{freed_all, keys_of_group, unlisted_all}
use Rattle.orphan_frees.specs.Steps.{FreesInGroup}
use Rattle.orphan_frees.proofs.Joined.{due_at, none_in_group, none_more, one_more_at, take_whole, waiting}
use Rattle.orphan_frees.proofs.frees.free_group.Goals as goal

pub returns-in_err-keys-clause-some : goal.returns-in_err-keys-clause-some
returns-in_err-keys-clause-some g c = λ t layouts sectors is shut.
    let a = c.args in (
      0,
      omega arith,
      none_in_group c.commits_follow_each_other.ensures.none a.group.now a.group.now t layouts a.store.now.queue.items a.store.now.queue.items a.entries.now.items a.entries.now.items
          is.represents refl refl refl,
    )

pub loop-i-init : goal.loop-i-init
loop-i-init g c =
    let a = c.args in
    record {
      frees = λ t layouts sectors is shut. none_in_group c.commits_follow_each_other.ensures.none a.group.now a.group.now t layouts a.store.now.queue.items a.store.now.queue.items
          a.entries.now.items a.entries.now.items is.represents refl refl refl;
      store = c.requires.store;
      state = refl;
      disk = refl;
      job = refl;
    }

pub free_row-requires-clause-place : goal.free_row-requires-clause-place
free_row-requires-clause-place g c =
    let u = c.requires.unheld in
    let frees = c.loop-i.invariant.frees u.0 u.1 u.2 u.3 u.4 in
    ap (λ (s : State). s.anchor) c.loop-i.invariant.state ∙ c.requires.place ∙ ap (λ (h : Geometry). anchor_of h) (sym frees.geometry)

pub free_row-requires-clause-number : goal.free_row-requires-clause-number
free_row-requires-clause-number g c =
    let a = c.args in
    let u = c.requires.unheld in
    let l = c.loop-i in
    let keys : List Key = keys_of_group u.0 u.1 a.group.now.group in
    let listed = ap (λ (xs : List Key). length xs) (c.in_ok-keys.ensures.listed u.0 u.1 u.3.represents) in
    let durable = ap (λ (s : State). s.durable) l.invariant.state in
    let most = u.5 in
    let test = l.auto.i-end in
    let low : l.i < length keys = omega (arith, listed, c.loop-i-test.true, c.len-i-end.ensures) in
    let many = waiting a.group.now.geometry u.0 u.1 keys l.i a.store.now.queue.items l.store.queue.items a.entries.now.items l.entries.items (omega (arith, low))
    (l.invariant.frees u.0 u.1 u.2 u.3 u.4).frees in
    omega (arith, low, many, most, durable)

pub free_row-requires-clause-due : goal.free_row-requires-clause-due
free_row-requires-clause-due g c =
    let a = c.args in
    let u = c.requires.unheld in
    let l = c.loop-i in
    let laws = c.groups_are_freed_in_order.ensures in
    let keys : List Key = keys_of_group u.0 u.1 a.group.now.group in (
      freed_all u.0 (take l.i keys),
      unlisted_all u.1 (take l.i keys),
      u.2,
      due_at laws.all_encode laws.own laws.awaits a.group.now l.group u.0 u.1 u.2 c.in_ok-keys.keys.items l.i c.index.result.now a.store.now.queue.items l.store.queue.items a.entries.now.items l.entries.items
          u.3 u.4 (c.in_ok-keys.ensures.listed u.0 u.1 u.3.represents) (omega (arith, c.loop-i-test.true, c.len-i-end.ensures)) c.index.ensures (l.invariant.frees u.0 u.1 u.2 u.3 u.4),
    )

pub returns-in_err-free_row-clause-some : goal.returns-in_err-free_row-clause-some
returns-in_err-free_row-clause-some g c = λ t layouts sectors is shut.
    let a = c.args in
    let l = c.loop-i in
    let laws = c.groups_are_freed_in_order.ensures in
    let keys : List Key = keys_of_group t layouts a.group.now.group in
    let all = c.in_ok-keys.ensures.listed t layouts is.represents in
    let low : l.i < length c.in_ok-keys.keys.items = omega (arith, c.loop-i-test.true, c.len-i-end.ensures) in
    let long = ap (λ (xs : List Key). length xs) all in
    let frees = l.invariant.frees t layouts sectors is shut in
    let due = due_at laws.all_encode laws.own laws.awaits a.group.now l.group t layouts sectors c.in_ok-keys.keys.items l.i c.index.result.now a.store.now.queue.items l.store.queue.items
    a.entries.now.items l.entries.items is shut all low c.index.ensures frees in (
      l.i,
      omega (arith, low, long),
      none_more c.commits_follow_each_other.ensures.joined a.group.now l.group c.free_row.new.group t layouts (take l.i keys) a.store.now.queue.items l.store.queue.items c.free_row.new.store.queue.items
          a.entries.now.items l.entries.items c.free_row.new.entries.items frees (c.in_err-free_row.ensures.none (freed_all t (take l.i keys)) (unlisted_all layouts (take l.i keys)) sectors due),
    )

pub loop-i-preserved : goal.loop-i-preserved
loop-i-preserved g c =
    let a = c.args in
    let l = c.loop-i in
    let laws = c.groups_are_freed_in_order.ensures in
    let low : l.i < length c.in_ok-keys.keys.items = omega (arith, c.loop-i-test.true, c.len-i-end.ensures) in
    record {
      frees = λ t layouts sectors is shut.
          let keys : List Key = keys_of_group t layouts a.group.now.group in
          let all = c.in_ok-keys.ensures.listed t layouts is.represents in
          let frees = l.invariant.frees t layouts sectors is shut in
          let due = due_at laws.all_encode laws.own laws.awaits a.group.now l.group t layouts sectors c.in_ok-keys.keys.items l.i c.index.result.now a.store.now.queue.items l.store.queue.items
          a.entries.now.items l.entries.items is shut all low c.index.ensures frees in
          one_more_at c.commits_follow_each_other.ensures.joined a.group.now l.group c.free_row.new.group t layouts c.in_ok-keys.keys.items keys l.i c.index.result.now a.store.now.queue.items
          l.store.queue.items c.free_row.new.store.queue.items a.entries.now.items l.entries.items c.free_row.new.entries.items all low c.index.ensures frees
          (c.in_ok-free_row.ensures.freed (freed_all t (take l.i keys)) (unlisted_all layouts (take l.i keys)) sectors due);
      store = c.free_row.ensures.store;
      state = c.free_row.ensures.state ∙ ap (λ (s : State). let x : State = record s { list = c.free_row.new.store.queue.items } in x) l.invariant.state;
      disk = c.free_row.ensures.disk ∙ l.invariant.disk;
      job = c.free_row.ensures.job ∙ l.invariant.job;
    }

pub returns-clause-all : goal.returns-clause-all
returns-clause-all g c = λ t layouts sectors is shut.
    let a = c.args in
    let l = c.loop-i in
    let keys : List Key = keys_of_group t layouts a.group.now.group in
    let long = ap (λ (xs : List Key). length xs) (c.in_ok-keys.ensures.listed t layouts is.represents) in
    subst (λ (xs : List Key). FreesInGroup a.group.now t layouts xs a.store.now.queue.items l.store.queue.items a.entries.now.items l.entries.items l.group)
    (take_whole keys l.i (omega (arith, long, c.loop-i-test.false, c.len-i-end.ensures))) (l.invariant.frees t layouts sectors is shut)

pub returns-clause-some : goal.returns-clause-some
returns-clause-some g c = λ t layouts sectors is shut.
    let a = c.args in
    let l = c.loop-i in
    let keys : List Key = keys_of_group t layouts a.group.now.group in
    let long = ap (λ (xs : List Key). length xs) (c.in_ok-keys.ensures.listed t layouts is.represents) in
    (l.i, omega (arith, long, c.loop-i.auto.i-end, c.len-i-end.ensures), l.invariant.frees t layouts sectors is shut)
