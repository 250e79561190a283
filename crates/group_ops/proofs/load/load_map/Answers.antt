use Rattle.std.proofs.Common.{List, length, sym, subst, ap, ◌∙◌}
use Rattle.life_bytes.specs.declared.sector.Sector.{Sector}
use Rattle.life_table.specs.Table.{group_at}
use Rattle.sound_image.specs.Encoding.{encoded}
use Rattle.group_ops.specs.Loading.{Shows}
use Rattle.group_ops.proofs.Fetching.{map_read}
use Rattle.group_ops.proofs.load.load_map.Goals as goal

pub returns-clause-map : goal.returns-clause-map
returns-clause-map g c known t layouts rest can image =
    let a = c.args in
    let shows : Shows (encoded a.g.now t layouts rest) c.sector_at-at.result c.deref.result.now =
    subst (λ (l : List Sector). Shows l c.sector_at-at.result c.deref.result.now) image (subst (Shows (g.V.View.image a.view.now) c.sector_at-at.result) (sym c.deref.ensures.value) (c.in_ok-sectors.ensures.shown known)) in
    c.read_map.ensures
    ∙ map_read c.bitmaps_are_the_sets.ensures.read c.chunks_are_read.ensures.parts a.g.now a.group c.sector_at-at.result (group_at t a.group) (encoded a.g.now t layouts rest) c.deref.result.now
    c.requires.shape.blocks.1 c.sector_at-at.ensures.place (λ k low. c.encoded_places.ensures.bitmap a.g.now t layouts rest a.group k can c.requires.inside low) shows
    (ap (λ (l : List Sector). length l) c.deref.ensures.value ∙ c.in_ok-sectors.ensures.many)
