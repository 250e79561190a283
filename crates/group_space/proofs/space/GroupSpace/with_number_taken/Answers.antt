use Rattle.std.proofs.Common.{map, true, ap, sym, subst, ◌∙◌}
use Rattle.inobt_leaf.specs.Chunks.{IsLeaf, after_take, where_held}
use Rattle.life_table.specs.Table.{inode_in}
use Rattle.group_space.specs.Space.{Space}
use Rattle.group_space.proofs.Follows.{bit_in, is_used, same_unused, some_inode, taken_follows}
use Rattle.group_space.proofs.space.GroupSpace.with_number_taken.Goals as goal

pub take-requires : goal.take-requires
take-requires c =
    let r = c.requires in
    let inode = some_inode (inode_in r.chunks c.args.agino) r.unused in
    bit_in c.in_ok-leaf.leaf r.chunks c.args.agino inode.0 true (subst IsLeaf (sym c.in_ok-leaf.ensures) c.hold_order.ensures)
    (c.in_ok-leaf.ensures ∙ ap (λ (s : Space). s.records) c.self.view_is ∙ r.space_of.records) inode.1 inode.2

pub returns-clause-space : goal.returns-clause-space
returns-clause-space c blocks chunks old new is at some none =
    let r = c.requires in
    let inode = some_inode (inode_in r.chunks c.args.agino) r.unused in
    let same = ap (λ (s : Space). s.records) c.self.view_is ∙ is.records in
    let was = same_unused chunks r.chunks c.args.agino old inode.0 (subst IsLeaf same c.hold_order.ensures) (sym r.space_of.records ∙ is.records) at inode.1 ∙ inode.2 in
    taken_follows blocks chunks c.args.agino old new c.self.inside.leaf c.take.new.self c.args.self.now.free c.hold_order.ensures same is.free at was (is_used new.row some) none
    (c.take.ensures.changed ∙ ap (map (where_held c.args.agino (after_take c.args.agino))) c.in_ok-leaf.ensures)
