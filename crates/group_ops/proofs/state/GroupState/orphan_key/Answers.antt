use Rattle.std.proofs.Common.{◌≡◌, ◌∙◌, ℕ, ap}
use Rattle.geometry.specs.Places.{number_in}
use Rattle.life_table.specs.Table.{group_at, inode_in}
use Rattle.group_ops.proofs.OrphanKeys.{generation_told, none_told}
use Rattle.group_ops.proofs.state.GroupState.orphan_key.Goals as goal

pub unreachable-requires : goal.unreachable-requires
unreachable-requires c =
    let s = c.args.self.now in
    let w = c.requires.unlinked in
    none_told w.1 s.group c.args.agino (inode_in (group_at w.0 s.group) c.args.agino) (c.in_default.ensures.told w.0 w.1 w.2) w.3

pub returns : goal.returns
returns c t layouts is =
    let s = c.args.self.now in
    let generation = generation_told layouts s.group c.args.agino c.in-Some.core (inode_in (group_at t s.group) c.args.agino) (c.in-Some.ensures.told t layouts is) in
    let number : c.number.result ≡ number_in s.group c.args.agino = c.number.ensures ∙ ap (λ (g : ℕ). number_in g c.args.agino) c.group.ensures.own in
    cc (generation, number)
