use Rattle.std.proofs.Common.{List, Some, map, length, sym, subst, ap, ◌∙◌, arith}
use Rattle.life_bytes.specs.declared.sector.Sector.{Sector}
use Rattle.life_table.specs.Table.{group_at}
use Rattle.sound_image.specs.Encoding.{chunk_record, encoded}
use Rattle.group_ops.specs.Loading.{Shows}
use Rattle.mount.proofs.Sights.{page_read}
use Rattle.mount.proofs.keeping.keep_leaf.Goals as goal

pub keep_sectors-requires-clause-within : goal.keep_sectors-requires-clause-within
keep_sectors-requires-clause-within g c =
    let low = c.requires.shape.blocks.0 in
    let room = c.sector_at-at.ensures.room 8 (omega arith) in
    omega (arith, c.from.ensures, c.requires.size, room)

pub returns-in-Ok-clause-leaf : goal.returns-in-Ok-clause-leaf
returns-in-Ok-clause-leaf g c known t layouts rest can image is =
    let a = c.args in
    let shows : Shows (encoded a.g.now t layouts rest) c.sector_at-at.result c.deref.result.now =
    subst (λ (l : List Sector). Shows l c.sector_at-at.result c.deref.result.now) image (subst (Shows (g.V.View.image a.view.now) c.sector_at-at.result) (sym c.deref.ensures.value) (c.in_ok-page.ensures.shown known)) in
    ap (λ l. Some l)
    (c.in-Ok.ensures.only (map chunk_record (group_at t a.group)) (c.encoded_places.ensures.leaf a.g.now t layouts rest a.group can c.requires.inside)
    (page_read a.g.now layouts a.group a.root c.sector_at-at.result (group_at t a.group) (encoded a.g.now t layouts rest) c.deref.result.now is c.sector_at-at.ensures.place
    (c.encoded_places.ensures.page a.g.now t layouts rest a.group can c.requires.inside) shows (ap (λ (l : List Sector). length l) c.deref.ensures.value ∙ c.in_ok-page.ensures.many ∙ c.from.ensures)))

pub returns-clause-leaf : goal.returns-clause-leaf
returns-clause-leaf g c known t layouts rest can image is =
    let a = c.args in
    let shows : Shows (encoded a.g.now t layouts rest) c.sector_at-at.result c.deref.result.now =
    subst (λ (l : List Sector). Shows l c.sector_at-at.result c.deref.result.now) image (subst (Shows (g.V.View.image a.view.now) c.sector_at-at.result) (sym c.deref.ensures.value) (c.in_ok-page.ensures.shown known)) in
    let fault = c.in-Err-Malformed.ensures.only (map chunk_record (group_at t a.group)) (c.encoded_places.ensures.leaf a.g.now t layouts rest a.group can c.requires.inside)
    (page_read a.g.now layouts a.group a.root c.sector_at-at.result (group_at t a.group) (encoded a.g.now t layouts rest) c.deref.result.now is c.sector_at-at.ensures.place
    (c.encoded_places.ensures.page a.g.now t layouts rest a.group can c.requires.inside) shows (ap (λ (l : List Sector). length l) c.deref.ensures.value ∙ c.in_ok-page.ensures.many ∙ c.from.ensures)) in
    absurd (cc (fault, c.in-Err-Malformed.field-0-is))
