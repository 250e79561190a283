use Rattle.std.proofs.Common.{◌≡◌, ◌+◌, ◌*◌, ℕ, List, sym, subst, ◌∙◌}
use Rattle.life_bytes.specs.declared.sector.Sector.{Sector}
use Rattle.life_table.specs.Table.{group_at}
use Rattle.sound_image.specs.Encoding.{page_of}
use Rattle.sound_image.specs.Places.{sector_in}
use Rattle.mount.specs.Kept.{Has, HasRun, StillAgrees}
use Rattle.mount.proofs.Keeps.{has_group, root_of}
use Rattle.mount.proofs.keeping.keep_group.Goals as goal

pub returns-clause-agrees : goal.returns-clause-agrees
returns-clause-agrees g c known was =
    let a = c.args in
    let laws = g.met.V.View in
    let v = a.view.now in
    let both = laws.both_read v c.keep_header.new.view c.keep_sectors.new.view c.keep_header.ensures.only_read c.keep_sectors.ensures.only_read in
    subst (λ (s : List Sector). StillAgrees s c.keep_sectors.new.kept c.keep_tree.new.kept) (laws.image_stays v c.keep_sectors.new.view both) (c.keep_tree.ensures.agrees known)
    (subst (λ (s : List Sector). StillAgrees s c.keep_header.new.kept c.keep_sectors.new.kept) (laws.image_stays v c.keep_header.new.view c.keep_header.ensures.only_read) (c.keep_sectors.ensures.agrees known)
    (c.keep_header.ensures.agrees known was))

pub returns-clause-has : goal.returns-clause-has
returns-clause-has g c known t layouts rest can image =
    let a = c.args in
    let laws = g.met.V.View in
    let v = a.view.now in
    let both = laws.both_read v c.keep_header.new.view c.keep_sectors.new.view c.keep_header.ensures.only_read c.keep_sectors.ensures.only_read in
    let root : c.in-Some.header.root ≡ page_of layouts a.group =
    root_of a.g.now a.group (group_at t a.group) layouts c.in-Some.header (sym c.in-Some.is ∙ c.in_ok-found.ensures.header known t layouts rest can image) in
    let page : HasRun c.keep_tree.new.kept (sector_in a.g.now a.group (8 * page_of layouts a.group)) 8 =
    subst (λ (r : ℕ). HasRun c.keep_tree.new.kept (sector_in a.g.now a.group (8 * r)) 8) root c.in_ok-keep_tree.ensures.page in
    has_group a.g.now t layouts a.group c.keep_tree.new.kept
    (c.keep_tree.ensures.grows (sector_in a.g.now a.group 2) (c.keep_sectors.ensures.grows (sector_in a.g.now a.group 2) c.in_ok-found.ensures.has))
    (λ k low.
    subst (λ (s : ℕ). Has c.keep_tree.new.kept (s + k)) c.sector_at-at.ensures.place (c.keep_tree.ensures.grows (c.sector_at-at.result + k) (c.in_ok-keep_sectors.ensures.has k low)))
    page
    (c.in_ok-keep_tree.ensures.chunks known t layouts rest can (laws.image_stays v c.keep_sectors.new.view both ∙ image) root)
    (λ agino inode e. (c.places_have_their_metadata.ensures.place a.g.now t layouts rest a.group agino inode can c.requires.inside e).1)
