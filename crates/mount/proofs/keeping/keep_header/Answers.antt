use Rattle.std.proofs.Common.{List, ℕ, subst, sym, ap, ◌∙◌}
use Rattle.life_bytes.specs.declared.sector.Sector.{Sector}
use Rattle.ag_header.specs.Headers.{EncodesHeader}
use Rattle.life_table.specs.Table.{group_at}
use Rattle.sound_image.specs.Encoding.{header_for}
use Rattle.sound_image.specs.Places.{bytes_at}
use Rattle.mount.specs.Kept.{Has}
use Rattle.mount.proofs.keeping.keep_header.Goals as goal

pub returns-clause-header : goal.returns-clause-header
returns-clause-header g c known t layouts rest can image =
    let a = c.args in
    let header = header_for a.g.now a.group (group_at t a.group) layouts in
    let read = ap (λ (l : List Sector). bytes_at l c.sector_at-at.result) (sym image) ∙ c.in_ok-sector.ensures.shown known in
    c.read_agi.ensures.only header
    (subst (λ (b : List ℕ). EncodesHeader b header) (ap (bytes_at _) (sym c.sector_at-at.ensures.place) ∙ read) (c.encoded_places.ensures.header a.g.now t layouts rest a.group can c.requires.inside))

pub returns-clause-has : goal.returns-clause-has
returns-clause-has g c = subst (Has c.keep_sector.new.kept) c.sector_at-at.ensures.place c.in_ok-sector.ensures.has
