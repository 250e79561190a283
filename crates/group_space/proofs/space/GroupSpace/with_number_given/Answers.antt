use Rattle.std.proofs.Common.{Bool, List, map, false, ap, sym, subst, ◌∙◌}
use Rattle.std.specs.Prelude.{unwrap_or}
use Rattle.inobt_leaf.specs.Chunks.{IsLeaf, after_give, where_held}
use Rattle.group_space.specs.Space.{Space}
use Rattle.group_space.specs.Taken.{CanGive, IsWith}
use Rattle.group_space.proofs.FreeSets.{can_give_used}
use Rattle.group_space.proofs.Follows.{bit_in, is_used, same_unused, own_used, given_follows}
use Rattle.group_space.proofs.space.GroupSpace.with_number_given.Goals as goal

pub give-requires : goal.give-requires
give-requires c =
    let r = c.requires in
    bit_in c.in_ok-leaf.leaf r.chunks c.args.agino r.inode false (subst IsLeaf (sym c.in_ok-leaf.ensures) c.hold_order.ensures)
    (c.in_ok-leaf.ensures ∙ ap (λ (s : Space). s.records) c.self.view_is ∙ r.space_of.records) r.held (is_used r.inode.row r.used)

pub with_any-requires : goal.with_any-requires
with_any-requires c =
    let r = c.requires in
    let free = ap (λ (s : Space). s.free) c.self.view_is ∙ r.space_of.free in
    subst (λ (m : List Bool). CanGive m c.args.blocks.now) (sym free)
    (can_give_used r.blocks r.chunks c.args.blocks.now r.well_formed (own_used r.chunks c.args.agino r.inode c.args.blocks.now r.held r.own))

pub returns-clause-space : goal.returns-clause-space
returns-clause-space c size chunks old new is group at own gone =
    let r = c.requires in
    let same = ap (λ (s : Space). s.records) c.self.view_is ∙ is.records in
    let was = same_unused chunks r.chunks c.args.agino old r.inode (subst IsLeaf same c.hold_order.ensures) (sym r.space_of.records ∙ is.records) at r.held ∙ is_used r.inode.row r.used in
    given_follows size chunks c.args.agino old new c.args.blocks.now c.self.inside.leaf c.give.new.self c.args.self.now.free (unwrap_or c.with_any.result c.args.self.now.free)
    c.hold_order.ensures same is.free group at was own gone (c.give.ensures.changed ∙ ap (map (where_held c.args.agino (after_give c.args.agino))) c.in_ok-leaf.ensures)
    (subst (λ (m : List Bool). IsWith m c.args.blocks.now (unwrap_or c.with_any.result m)) (ap (λ (s : Space). s.free) c.self.view_is) c.with_any.ensures.map)
