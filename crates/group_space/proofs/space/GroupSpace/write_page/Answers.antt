use Rattle.std.proofs.Common.{◌+◌, ◌*◌, ℕ, ap, sym, ◌∙◌}
use Rattle.inobt_leaf.specs.Pages.{page_encoding}
use Rattle.geometry.specs.Places.{group_sectors}
use Rattle.sound_image.specs.Places.{sector_in}
use Rattle.sound_image.specs.Encoding.{page_bytes, page_place}
use Rattle.group_space.specs.Space.{Space}
use Rattle.group_space.proofs.space.GroupSpace.write_page.Goals as goal

pub returns : goal.returns
unfolding page_bytes page_place sector_in
returns c blocks chunks layouts is at =
    let same = ap (λ (s : Space). s.records) c.self.view_is ∙ is.records in
    let place = c.block_sector-at.ensures ∙ ap (λ (n : ℕ). c.args.group * group_sectors c.args.g.now + 8 * n) (sym at) in
    c.write_page.ensures ∙ (λ i. page_encoding (same i) c.args.group (place i) c.args.g.now.uuid)
