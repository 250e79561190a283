use Rattle.std.proofs.Common.{◌<◌, length, refl, rules, subst, sym}
use Rattle.std.proofs.lemmas.Option.{slice_get_read}
use Rattle.geometry.specs.Shape.{IsGeometry}
use Rattle.group_ops.specs.Values.{StateValue}
use Rattle.tests_group_ops.specs.Standing.{IsFirst}
use Rattle.tests_group_ops.proofs.disks.load.Goals as goal

pub returns : goal.returns
returns c =
    let groups = c.in-Ok.ensures.groups in
    let some : 0 < length c.in-Ok.groups.items = search rules in
    let at = slice_get_read c.in-Ok.groups.items (length c.in-Ok.groups.items) 0 c.swap_remove.result refl some c.swap_remove.ensures.value in
    let is = groups.3.each 0 c.swap_remove.result at in
    let first : IsFirst c.swap_remove.result = record { first = is.group_is; shape = subst IsGeometry (sym is.geometry) groups.3.shape; represents = (groups.0, groups.1, is.represents) } in
    subst IsFirst (sym c.in_ok-begin_group.ensures.begun.0) first
