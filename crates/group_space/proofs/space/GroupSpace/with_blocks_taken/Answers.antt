use Rattle.std.proofs.Common.{Bool, List, ap, sym, subst, ◌∙◌}
use Rattle.group_space.specs.Space.{Space}
use Rattle.group_space.specs.Taken.{CanTake}
use Rattle.group_space.proofs.FreeSets.{can_take_free}
use Rattle.group_space.proofs.Follows.{more_follows}
use Rattle.group_space.proofs.space.GroupSpace.with_blocks_taken.Goals as goal

pub without-requires : goal.without-requires
without-requires c =
    let free = ap (λ (s : Space). s.free) c.self.view_is ∙ c.requires.space_of.free in
    subst (λ (m : List Bool). CanTake m c.args.blocks.now) (sym free) (can_take_free c.requires.blocks c.requires.chunks c.args.blocks.now c.requires.free)

pub returns-clause-space : goal.returns-clause-space
returns-clause-space c size chunks agino old new is at same own =
    more_follows size chunks agino old new c.args.blocks.now c.args.self.now.records c.self.inside.free c.without.result is.records (ap (λ (s : Space). s.free) c.self.view_is ∙ is.free)
    at same own c.without.ensures
