use Rattle.std.proofs.Common.{[], ap, ◌∙◌, arith, rules}
use Rattle.life_table.specs.declared.types.Entry.{Entry}
use Rattle.atomic_table.specs.Table.{Me}
use Rattle.version_table.specs.declared.story.Story.{Story}
use Rattle.version_table.specs.Ends.{VersionsState}
use Rattle.version_table.specs.Story.{new_keeper}
use Rattle.version_table.proofs.StepsKeep.{makes_keeper}
use Rattle.version_table.proofs.Calls.{next_maker, new_keeper_is}
use Rattle.version_table.proofs.make.make_keeper.Goals as goal

pub split_seat-requires : goal.split_seat-requires
split_seat-requires c =
    let whole = c.requires.maker.1 in (
      search rules,
      omega (arith, c.versions.invariant, ap (λ (s : VersionsState). s.groups) c.versions.view_is, c.requires.group),
      makes_keeper _ _ c.args.group c.requires.maker.0 _ (ap (λ (m : Me Entry Story). m.0) c.requires.maker.3) (omega (arith, whole, c.requires.group)),
    )

pub invariant_of-result : goal.invariant_of-result
invariant_of-result c = new_keeper_is _ _ (c.split_seat.ensures.4 ∙ ap (λ (m : Me Entry Story). (new_keeper m.0.first 1, [])) c.requires.maker.3)

pub returns-clause-maker : goal.returns-clause-maker
returns-clause-maker c = next_maker _ _ _ _ _ _ c.requires.maker c.requires.group c.split_seat.ensures.0 c.split_seat.ensures.2
