use Rattle.std.proofs.Common.{◌∙◌, List, ◌∷◌, drop, ap, arith}
use Rattle.life_bytes.specs.declared.sector.Sector.{Sector}
use Rattle.image_make.proofs.Putting.{with_at}
use Rattle.image_make.proofs.Places.{Head, head_holds}
use Rattle.image_make.proofs.empty.empty_head.Goals as goal

pub returns-clause-each : goal.returns-clause-each
returns-clause-each c = λ k lt.
    let header = c.empty_header.result in
    let map = c.args.free_blocks.now in
    let page = c.empty_page.result in
    let head : Head c.args.g.now c.args.group header map page c.put-3.new.sectors = record {
      header_is = c.empty_header.ensures;
      map_long = omega arith;
      map_is = c.requires.bitmap;
      page_long = omega arith;
      page_is = c.empty_page.ensures;
      is = c.put-3.ensures ∙ ap (with_at 14 page) (c.put-2.ensures ∙ ap (with_at 6 map) (c.put.ensures ∙ ap (λ (l : List Sector). header ∷ drop 1 l) c.blank_head-head.ensures));
    } in
    head_holds c.args.g.now c.args.group header map page c.put-3.new.sectors k head lt
