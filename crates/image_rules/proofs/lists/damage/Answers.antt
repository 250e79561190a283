use Rattle.std.proofs.Common.{◌≡◌, ◌+◌, ap, arith}
use Rattle.sound_image.specs.Places.{sector_in}
use Rattle.image_rules.specs.declared.fault.CheckFault.TheVariants.{Damaged}
use Rattle.image_rules.proofs.Strolls.{shifted}
use Rattle.image_rules.proofs.lists.damage.Goals as goal

pub returns : goal.returns
returns c =
    let a = c.args in
    let e : c.sector_at.result + c.from.result ≡ sector_in a.g.now a.group a.place = omega (arith, c.sector_at.ensures.place, c.from.ensures, shifted a.g.now a.group a.place) in
    ap (Damaged a.rule) e
