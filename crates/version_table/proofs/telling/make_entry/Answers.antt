use Rattle.std.proofs.Common.{ap, ◌∙◌}
use Rattle.life_table.specs.declared.types.Entry.{Entry}
use Rattle.atomic_table.specs.Table.{Me}
use Rattle.version_table.specs.declared.story.Story.{Story}
use Rattle.version_table.specs.Story.{handed_over, telling, with_story}
use Rattle.version_table.proofs.Calls.{entered_is, told_is, fresh_is}
use Rattle.version_table.proofs.telling.make_entry.Goals as goal

pub tell-requires-clause-made : goal.tell-requires-clause-made
tell-requires-clause-made c = (c.args.group, c.warn.new.to.me.0, ap (λ (m : Me Entry Story). m.0.places) c.warn.ensures.to ∙ c.requires.handed, c.count_entry.ensures.entered)

pub returns-clause-entered : goal.returns-clause-entered
returns-clause-entered c =
    entered_is c.args.group c.load.result c.args.entry.now _ _ _ _ _ c.requires.handed c.load.ensures.step.view (ap (λ (m : Me Entry Story). m.0) c.warn.ensures.to)
    (ap (λ (m : Me Entry Story). m.0) c.tell.ensures.from ∙ ap handed_over c.count_entry.ensures.entered)

pub returns-clause-fresh : goal.returns-clause-fresh
returns-clause-fresh c =
    fresh_is c.args.group c.load.result c.args.old _ _ _ _ c.load.ensures.step.seen c.count_entry.ensures.seen c.load.ensures.step.view (ap (λ (m : Me Entry Story). m.0) c.warn.ensures.to)

pub returns-clause-told : goal.returns-clause-told
returns-clause-told c =
    told_is c.args.group c.load.result c.args.old c.args.entry.now _ _ _ _ _ c.requires.handed c.requires.length c.load.ensures.step.seen c.count_entry.ensures.seen c.load.ensures.step.view
    (ap (λ (m : Me Entry Story). m.0) c.warn.ensures.to)
    (ap (λ (m : Me Entry Story). m.0) c.tell.ensures.to ∙ (λ i. with_story ((c.warn.ensures.from i).0) (telling (c.count_entry.ensures.entered i))))
