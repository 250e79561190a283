use Rattle.std.proofs.Common.{Bool, List, ap, sym, subst, ◌∙◌}
use Rattle.group_space.specs.Space.{Space}
use Rattle.group_space.specs.Taken.{CanGive}
use Rattle.group_space.proofs.FreeSets.{can_give_used}
use Rattle.group_space.proofs.Follows.{last_used, less_follows}
use Rattle.group_space.proofs.space.GroupSpace.with_blocks_given.Goals as goal

pub with-requires : goal.with-requires
with-requires c =
    let r = c.requires in
    let free = ap (λ (s : Space). s.free) c.self.view_is ∙ r.space_of.free in
    subst (λ (m : List Bool). CanGive m c.args.blocks.now) (sym free)
    (can_give_used r.blocks r.chunks c.args.blocks.now r.well_formed (last_used r.chunks r.agino r.inode r.first c.args.blocks.now r.held r.last))

pub returns-clause-space : goal.returns-clause-space
returns-clause-space c size chunks agino old new is group at same own =
    less_follows size chunks agino old new c.args.blocks.now c.args.self.now.records c.self.inside.free c.with.result is.records (ap (λ (s : Space). s.free) c.self.view_is ∙ is.free) group
    at same own c.with.ensures
