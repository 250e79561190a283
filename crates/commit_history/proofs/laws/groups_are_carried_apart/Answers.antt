use Rattle.std.proofs.Common.{◌≡◌, ◌<◌, ℕ, refl}
use Rattle.std.proofs.lemmas.List.Elements.{recursion_from_All}
use Rattle.log_record.specs.declared.image.Commit.{Commit}
use Rattle.commit_history.proofs.Parts.{leaves, moved_all, part_of_group, whole}
use Rattle.commit_history.proofs.laws.groups_are_carried_apart.Goals as goal

pub returns-clause-leaves : goal.returns-clause-leaves
returns-clause-leaves c = leaves

pub returns-clause-moved : goal.returns-clause-moved
returns-clause-moved c = λ g group t u s layouts others shown sectors other commits all carries can also alike.
    let m = moved_all g group t u s layouts others shown sectors other commits (recursion_from_All (λ (x : Commit). x.group ≡ group) commits all) carries can also alike in
    (m.table, m.layouts, m.carries, m.own_group, m.rest)

pub returns-clause-of_one_group : goal.returns-clause-of_one_group
returns-clause-of_one_group c = λ g group t u layouts others sectors commits can carries.
    let p = part_of_group g group t u layouts others sectors commits can carries in
    (p.table, p.layouts_of, p.carries, p.own_group, p.rest)

pub returns-clause-of_all_groups : goal.returns-clause-of_all_groups
returns-clause-of_all_groups c = λ g t layouts sectors commits ends lists can all chains.
    let w = whole g t layouts sectors commits ends lists can (recursion_from_All (λ (x : Commit). x.group < g.groups) commits all)
    (λ group lt. record { table = ends group; layouts_of = lists group; carries = chains group lt; alike = record { chunks = refl; layout = refl } }) in
    (w.table, w.layouts_of, w.carries, w.alike)
