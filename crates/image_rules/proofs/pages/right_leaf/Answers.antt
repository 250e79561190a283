use Rattle.std.proofs.Common.{◌≡◌, ℕ, List, sym, ap, subst, ◌∙◌, All}
use Rattle.std.proofs.lemmas.Bool.{false≢true}
use Rattle.life_bytes.specs.SectorBytes.{bytes_of}
use Rattle.inobt_leaf.specs.declared.chunk.ChunkRec.{ChunkRec}
use Rattle.inobt_leaf.specs.Pages.{page_encoding}
use Rattle.sound_image.specs.Reading.{page_sector, records_of}
use Rattle.sound_image.specs.Rules.{IsInData}
use Rattle.image_rules.proofs.Paging.{shown_bytes, shown_parts, page_right, page_place, page_encoded, read_in_data}
use Rattle.image_rules.proofs.pages.right_leaf.Goals as goal

pub returns-in_err-leaf-clause-wrong : goal.returns-in_err-leaf-clause-wrong
returns-in_err-leaf-clause-wrong c image root shows malformed right =
    let a = c.args in
    let place : page_sector a.g.now image a.group ≡ c.from-at.result = page_place a.g.now image a.group a.root root ∙ sym c.from-at.ensures in
    let bytes = shown_bytes image (page_sector a.g.now image a.group) 8 a.page.now shows c.requires.page in
    let fault = c.in_err-leaf.ensures.only (records_of a.g.now image a.group) right.leaf (page_encoded c.encoded_pages_are_read.ensures c.chunks_are_read.ensures.parts a.g.now image a.group c.from-at.result (bytes_of a.page.now) bytes place c.requires.shape.uuid right) in
    let same = rw malformed at c.from_residual.ensures.1 in cc (fault, same)

pub returns-then-are_in_data-clause-right : goal.returns-then-are_in_data-clause-right
returns-then-are_in_data-clause-right c image root shows =
    let a = c.args in
    let place : page_sector a.g.now image a.group ≡ c.from-at.result = page_place a.g.now image a.group a.root root ∙ sym c.from-at.ensures in
    let bytes = shown_bytes image (page_sector a.g.now image a.group) 8 a.page.now shows c.requires.page in
    let found = c.in_ok-leaf.ensures.found in
    page_right c.encoded_pages_are_read.ensures a.g.now image a.group (bytes_of a.page.now) c.in_ok-leaf.leaf bytes
    (shown_parts a.g.now image a.group 8 a.page.now shows c.requires.page c.sectors_hold_parts.ensures) c.requires.shape.uuid found.0
    (found.1 ∙ ap (λ (s : ℕ). page_encoding c.in_ok-leaf.leaf a.group s a.g.now.uuid) (sym place))
    (subst (λ (chunks : List ChunkRec). All (IsInData a.g.now.blocks) chunks) c.chunks.ensures.all (c.are_in_data.ensures.sound c.if-are_in_data.true))

pub returns-else-are_in_data-clause-wrong : goal.returns-else-are_in_data-clause-wrong
returns-else-are_in_data-clause-wrong c image root shows _ right =
    let a = c.args in
    let bytes = shown_bytes image (page_sector a.g.now image a.group) 8 a.page.now shows c.requires.page in
    let found = c.in_ok-leaf.ensures.found in
    let within = read_in_data c.encoded_pages_are_read.ensures a.g.now image a.group c.from-at.result (bytes_of a.page.now) c.in_ok-leaf.leaf bytes c.requires.shape.uuid found.0 found.1 right in
    let passes = c.are_in_data.ensures.complete (subst (λ (chunks : List ChunkRec). All (IsInData a.g.now.blocks) chunks) (sym c.chunks.ensures.all) within) in
    absurd (false≢true (sym c.if-are_in_data.false ∙ passes))
