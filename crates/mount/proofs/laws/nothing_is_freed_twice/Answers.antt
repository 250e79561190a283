use Rattle.mount.proofs.Clean.{Orphaned, none_twice}
use Rattle.mount.proofs.laws.nothing_is_freed_twice.Goals as goal

pub returns : goal.returns
returns c =
    let laws : Orphaned = record { none_left = c.recovery_frees_in_order.ensures.none_left; none = c.recovery_frees_in_order.ensures.none } in
    none_twice laws c.sound_images_represent_a_table.ensures.no_opens
