use Rattle.whole_image.specs.Damage.{groups_of}
use Rattle.std.specs.Prelude.{take}
use Rattle.orphan_frees.specs.Order.{keys_to_free}
use Rattle.mounts_in_runs.proofs.Freeing.{begun_is_left, begun_recovers, fresh}
use Rattle.mounts_in_runs.proofs.laws.refused_mounts_leave_prefixes.Goals as goal

pub returns-clause-fresh : goal.returns-clause-fresh
returns-clause-fresh c = λ t layouts next story cells over. fresh next 0 (take over.count (keys_to_free t layouts)) story over.story_is

pub returns-clause-recovers : goal.returns-clause-recovers
returns-clause-recovers c = λ g t layouts next kept image story cells of over.
    begun_recovers c.recovery_frees_in_order.ensures.legal c.recovery_frees_in_order.ensures.all c.recovery_goes_by_bucket.ensures g t layouts (groups_of g image of.log) next kept over.count story of.encodes.can
    (c.sound_images_represent_a_table.ensures.no_opens image t next of.represents) over.within over.story_is

pub returns-clause-safe : goal.returns-clause-safe
returns-clause-safe c = λ g t layouts next kept image after story cells of over left.
    begun_is_left c.recovery_frees_in_order.ensures.each_is_a_change c.recovery_frees_in_order.ensures.after t layouts next kept over.count story after
    (c.sound_images_represent_a_table.ensures.no_opens image t next of.represents) over.within over.story_is (over.left after left)
