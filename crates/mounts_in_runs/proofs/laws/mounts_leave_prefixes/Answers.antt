use Rattle.whole_image.specs.Damage.{groups_of}
use Rattle.orphan_frees.specs.Order.{keys_to_free}
use Rattle.mounts_in_runs.proofs.Freeing.{fresh, up_is_left, up_recovers}
use Rattle.mounts_in_runs.proofs.laws.mounts_leave_prefixes.Goals as goal

pub returns-clause-fresh : goal.returns-clause-fresh
returns-clause-fresh D c = λ next acknowledged t layouts story. fresh next acknowledged (keys_to_free t layouts) story

pub returns-clause-recovers : goal.returns-clause-recovers
returns-clause-recovers D c = λ g t layouts next kept acknowledged image story of is.
    up_recovers c.recovery_frees_in_order.ensures.legal c.recovery_frees_in_order.ensures.all c.recovery_goes_by_bucket.ensures g t layouts (groups_of g image of.log) next kept acknowledged story of.encodes.can
    (c.sound_images_represent_a_table.ensures.no_opens image t next of.represents) is

pub returns-clause-safe : goal.returns-clause-safe
returns-clause-safe D c = λ g t layouts next kept image after mounted of is left.
    up_is_left c.recovery_frees_in_order.ensures.all c.recovery_frees_in_order.ensures.each_is_a_change c.recovery_frees_in_order.ensures.after g t layouts (groups_of g image of.log) after next kept mounted.story of.encodes.can
    (c.sound_images_represent_a_table.ensures.no_opens image t next of.represents) is.story (is.represents after left)
