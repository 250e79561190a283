use Rattle.std.proofs.Common.{◌≡◌, ℕ, List, ap, sym, subst, ◌∙◌, arith}
use Rattle.std.proofs.lemmas.Bool.{false≢true}
use Rattle.life_bytes.specs.declared.sector.Sector.{Sector}
use Rattle.ag_header.specs.declared.agi.Agi.{Agi}
use Rattle.sound_image.specs.Reading.{page_sector}
use Rattle.image_rules.specs.Shown.{Shows}
use Rattle.image_rules.proofs.Firsts.{page_first, counts_first}
use Rattle.image_rules.proofs.Paging.{page_at, counts_to, counts_from}
use Rattle.image_rules.proofs.groups.check_leaf.Goals as goal

pub read_sectors-requires-clause-within : goal.read_sectors-requires-clause-within
read_sectors-requires-clause-within g c =
    let low = c.requires.shape.blocks.0 in
    let room = c.sector_at-at.ensures.room 8 (omega arith) in
    omega (arith, c.from.ensures, c.requires.size, room)

pub returns-in-Err-Malformed-clause-fault : goal.returns-in-Err-Malformed-clause-fault
returns-in-Err-Malformed-clause-fault g c known right header =
    let a = c.args in
    let image : List Sector = g.V.View.image a.view.now in
    let place : page_sector a.g.now image a.group ≡ c.sector_at-at.result = page_at a.g.now image a.group a.agi.now header ∙ sym c.sector_at-at.ensures.place in
    let shows : Shows image (page_sector a.g.now image a.group) c.deref.result.now =
    subst (λ (s : ℕ). Shows image s c.deref.result.now) (sym place) (subst (Shows image c.sector_at-at.result) (sym c.deref.ensures.value) (c.in_ok-page.ensures.shown known)) in
    page_first a.g.now image a.group c.sector_at-at.result right (sym place)
    (c.in-Err-Malformed.ensures.wrong image (ap (λ (x : Agi). x.root) header) shows (cc))

pub returns-then-not-has_counts-clause-fault : goal.returns-then-not-has_counts-clause-fault
returns-then-not-has_counts-clause-fault g c known right header =
    let a = c.args in
    let image : List Sector = g.V.View.image a.view.now in
    let place : page_sector a.g.now image a.group ≡ c.sector_at-at.result = page_at a.g.now image a.group a.agi.now header ∙ sym c.sector_at-at.ensures.place in
    let shows : Shows image (page_sector a.g.now image a.group) c.deref.result.now =
    subst (λ (s : ℕ). Shows image s c.deref.result.now) (sym place) (subst (Shows image c.sector_at-at.result) (sym c.deref.ensures.value) (c.in_ok-page.ensures.shown known)) in
    let page = c.in-Ok.ensures.right image (ap (λ (x : Agi). x.root) header) shows in
    counts_first a.g.now image a.group c.sector_at.result right page.0 c.sector_at.ensures.place
    (λ counts. false≢true (sym c.if-not-has_counts.true ∙ c.has_counts.ensures.1 (counts_to a.g.now image a.group a.agi.now c.in-Ok.leaf header page.1 counts)))

pub returns-clause-right : goal.returns-clause-right
returns-clause-right g c known header =
    let a = c.args in
    let image : List Sector = g.V.View.image a.view.now in
    let place : page_sector a.g.now image a.group ≡ c.sector_at-at.result = page_at a.g.now image a.group a.agi.now header ∙ sym c.sector_at-at.ensures.place in
    let shows : Shows image (page_sector a.g.now image a.group) c.deref.result.now =
    subst (λ (s : ℕ). Shows image s c.deref.result.now) (sym place) (subst (Shows image c.sector_at-at.result) (sym c.deref.ensures.value) (c.in_ok-page.ensures.shown known)) in
    let page = c.in-Ok.ensures.right image (ap (λ (x : Agi). x.root) header) shows in
    ((page.0, counts_from a.g.now image a.group a.agi.now c.in-Ok.leaf header page.1 (c.has_counts.ensures.0 c.if-not-has_counts.false)), page.1)
