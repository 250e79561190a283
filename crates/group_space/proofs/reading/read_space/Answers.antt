use Rattle.std.proofs.Common.{◌≡◌, ◌+◌, ◌*◌, ℕ, List, map, ap, sym, ◌∙◌, arith}
use Rattle.std.specs.Prelude.{IsErrAnd, MatchResult, Result, Ok, Err}
use Rattle.inobt_leaf.specs.declared.reading.PageFault.{PageFault}
use Rattle.inobt_leaf.specs.declared.reading.PageFault.TheVariants as page
use Rattle.inobt_leaf.specs.Pages.{page_encoding}
use Rattle.geometry.specs.Places.{group_sectors}
use Rattle.free_map.specs.Bitmap.{bitmap, read_blocks}
use Rattle.sound_image.specs.Places.{sector_in}
use Rattle.sound_image.specs.Rules.{free_set}
use Rattle.sound_image.specs.Encoding.{chunk_record, page_bytes, page_place}
use Rattle.group_space.specs.declared.reading.SpaceFault.{SpaceFault}
use Rattle.group_space.specs.declared.reading.SpaceFault.TheVariants as space
use Rattle.group_space.specs.Faults.{space_fault}
use Rattle.group_space.specs.Space.{IsSpaceOf, Space}
use Rattle.group_space.proofs.FreeSets.{length-free}
use Rattle.group_space.proofs.reading.read_space.Goals as goal

handed_up : {S : Type 0} (P : S → Type 0) (r : Result S SpaceFault) (fault : PageFault) → IsErrAnd r (λ e. e ≡ space_fault fault) → fault ≡ page.NoMemory
    → MatchResult r P (λ e. e ≡ space.NoMemory)
handed_up P (Ok s) fault gives is = absurd gives
handed_up P (Err e) fault gives is = gives ∙ ap space_fault is

pub returns-in_err-leaf-clause-space_of : goal.returns-in_err-leaf-clause-space_of
unfolding page_bytes page_place sector_in
returns-in_err-leaf-clause-space_of c chunks layouts leaf at page bits =
    let place = c.block_sector-at.ensures ∙ ap (λ (n : ℕ). c.args.group * group_sectors c.args.g.now + 8 * n) (sym at) in
    let encoded = page ∙ (λ i. page_encoding (map chunk_record chunks) c.args.group (sym place i) c.args.g.now.uuid) in
    handed_up (IsSpaceOf c.args.g.now.blocks chunks) c.from_residual.result c.in_err-leaf.field-0.0 c.from_residual.ensures.1 (c.in_err-leaf.ensures.only (map chunk_record chunks) leaf encoded)

pub returns-clause-space_of : goal.returns-clause-space_of
unfolding page_bytes page_place sector_in
returns-clause-space_of c chunks layouts leaf at page bits =
    let place = c.block_sector-at.ensures ∙ ap (λ (n : ℕ). c.args.group * group_sectors c.args.g.now + 8 * n) (sym at) in
    let encoded = page ∙ (λ i. page_encoding (map chunk_record chunks) c.args.group (sym place i) c.args.g.now.uuid) in
    let blocks = c.requires.shape.blocks.1 in
    record {
      records = ap (λ (s : Space). s.records) c.new.ensures ∙ c.in_ok-leaf.ensures.only (map chunk_record chunks) leaf encoded;
      free = ap (λ (s : Space). s.free) c.new.ensures ∙ c.read_map.ensures
          ∙ ap (λ (bs : List ℕ). read_blocks bs c.args.g.now.blocks) bits
          ∙ ap (read_blocks (bitmap (free_set c.args.g.now.blocks chunks))) (sym (length-free c.args.g.now.blocks chunks))
          ∙ c.bitmaps_are_the_sets.ensures.read (free_set c.args.g.now.blocks chunks) (omega (arith, blocks, length-free c.args.g.now.blocks chunks));
    }
