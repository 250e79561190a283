use Rattle.std.proofs.Common.{List, ap, sym, ◌∙◌}
use Rattle.life_bytes.specs.declared.sector.Sector.{Sector}
use Rattle.sound_image.specs.Places.{bytes_at}
use Rattle.image_rules.proofs.Firsts.{header_first}
use Rattle.image_rules.proofs.groups.check_header.Goals as goal

pub returns-in-None-clause-fault : goal.returns-in-None-clause-fault
returns-in-None-clause-fault g c known =
    let image : List Sector = g.V.View.image c.args.view.now in
    let at = c.sector_at-at.ensures.place in
    header_first c.args.g.now image c.args.group c.sector_at-at.result at
    (c.in-None.ensures.wrong image (ap (bytes_at image) (sym at) ∙ c.in_ok-sector.ensures.shown known))
