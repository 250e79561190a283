use Rattle.std.proofs.Common.{◌∙◌, ℕ, [], ap, arith}
use Rattle.inobt_leaf.specs.Pages.{page_encoding}
use Rattle.sound_image.specs.Places.{part, sector_in}
use Rattle.sound_image.specs.Encoding.{page_bytes, page_place, page_of, layout_of}
use Rattle.image_make.proofs.empty.empty_page.Goals as goal

pub returns : goal.returns
unfolding page_bytes page_place page_of layout_of sector_in
returns c = λ k lt.
    c.hold_parts.ensures k (omega arith) ∙ ap (part k) c.write_empty_page.ensures
    ∙ ap (λ (at : ℕ). part k (page_encoding [] c.args.group at c.args.g.now.uuid)) c.from.ensures
