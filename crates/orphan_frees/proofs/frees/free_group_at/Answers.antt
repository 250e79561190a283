use Rattle.std.proofs.Common.{◌≡◌, ℕ, List, length, ap, sym, subst, ◌∙◌, arith}
use Rattle.geometry.specs.declared.shape.Geometry.{Geometry}
use Rattle.geometry.specs.Places.{anchor_of}
use Rattle.life_table.specs.declared.key.Key.{Key}
use Rattle.group_ops.specs.Values.{StateValue}
use Rattle.orphan_frees.specs.Order.{keys_of_group}
use Rattle.orphan_frees.specs.Steps.{FreesInGroup, FreesInGroups}
use Rattle.orphan_frees.proofs.Groups.{at_place, group_in}
use Rattle.orphan_frees.proofs.Joined.{take_whole}
use Rattle.orphan_frees.proofs.OneFree.{ok_more}
use Rattle.std.specs.Prelude.{slice_set}
use Rattle.orphan_frees.proofs.frees.free_group_at.Goals as goal

pub free_group-requires-clause-place : goal.free_group-requires-clause-place
free_group-requires-clause-place g c =
    let u = c.requires.unheld in
    let is = group_in u.0 u.1 u.2 u.3 c.args.groups.now.items c.args.index c.index_mut.result.now u.4 c.requires.inside c.index_mut.ensures.value in
    u.5 ∙ ap (λ (h : Geometry). anchor_of h) (sym is.0.geometry)

pub free_group-requires-clause-unheld : goal.free_group-requires-clause-unheld
free_group-requires-clause-unheld g c =
    let u = c.requires.unheld in
    let is = group_in u.0 u.1 u.2 u.3 c.args.groups.now.items c.args.index c.index_mut.result.now u.4 c.requires.inside c.index_mut.ensures.value in
    let few = u.6 in
    let long : length (keys_of_group u.1 u.2 c.index_mut.result.now.group) ≡ length (keys_of_group u.1 u.2 c.args.index) = ap (λ (n : ℕ). length (keys_of_group u.1 u.2 n)) is.0.group_is in
    (u.1, u.2, u.3, is.1, u.4.unheld, omega (arith, few, long))

pub returns-clause-all : goal.returns-clause-all
returns-clause-all g c = λ h t layouts sectors are.
    let a = c.args in
    let s : StateValue = c.index_mut.result.now in
    let is = group_in h t layouts sectors a.groups.now.items a.index s are c.requires.inside c.index_mut.ensures.value in
    let n : ℕ = length (keys_of_group t layouts s.group) in
    let whole = take_whole (keys_of_group t layouts s.group) n (omega arith) in
    let own = take_whole (keys_of_group t layouts a.index) n (omega (arith, ap (λ (k : ℕ). length (keys_of_group t layouts k)) is.0.group_is)) in
    ok_more c.free_group.result (c.free_group.ensures.all t layouts sectors is.1 are.unheld)
    (λ frees.
    subst (λ (keys : List Key). FreesInGroups h t layouts keys a.store.now.queue.items c.free_group.new.store.queue.items a.entries.now.items c.free_group.new.entries.items
    (slice_set a.groups.now.items a.index c.free_group.new.group)) own
    (at_place c.groups_are_freed_in_order.ensures.own h t layouts sectors a.groups.now.items a.index n s c.free_group.new.group a.store.now.queue.items c.free_group.new.store.queue.items
    a.entries.now.items c.free_group.new.entries.items are c.requires.inside c.index_mut.ensures.value
    (subst (λ (keys : List Key). FreesInGroup s t layouts keys a.store.now.queue.items c.free_group.new.store.queue.items a.entries.now.items c.free_group.new.entries.items c.free_group.new.group)
    (sym whole) frees)))

pub returns-clause-some : goal.returns-clause-some
returns-clause-some g c = λ h t layouts sectors are.
    let a = c.args in
    let s : StateValue = c.index_mut.result.now in
    let is = group_in h t layouts sectors a.groups.now.items a.index s are c.requires.inside c.index_mut.ensures.value in
    let some = c.free_group.ensures.some t layouts sectors is.1 are.unheld in
    let low = some.1 in
    let long = ap (λ (k : ℕ). length (keys_of_group t layouts k)) is.0.group_is in (
      some.0,
      omega (arith, low, long),
      at_place c.groups_are_freed_in_order.ensures.own h t layouts sectors a.groups.now.items a.index some.0 s c.free_group.new.group a.store.now.queue.items c.free_group.new.store.queue.items
          a.entries.now.items c.free_group.new.entries.items are c.requires.inside c.index_mut.ensures.value some.2,
    )
