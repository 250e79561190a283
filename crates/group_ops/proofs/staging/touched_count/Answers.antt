use Rattle.std.proofs.Common.{◌≡◌, ◌+◌, ◌*◌, ℕ, Bool, [], ◌∷◌, length, map, ap, sym, arith, ◌∙◌}
use Rattle.std.specs.Prelude.{◌||◌, if◌then◌else◌, is_some}
use Rattle.std.specs.List.{range_with_len}
use Rattle.group_ops.specs.Staging.{bitmap_touched, header_touched, page_touched}
use Rattle.group_ops.proofs.Pushing.{long_if, touched_long}
use Rattle.group_ops.proofs.staging.touched_count.Goals as goal

pub returns : goal.returns
returns c page =
    let d = c.args.delta.now in
    let header : c.count_if-header.result ≡ length (header_touched d) =
    c.count_if-header.ensures ∙ ap (λ (b : Bool). if b then 1 else 0) c.changes_header.ensures ∙ sym (long_if (is_some d.head || is_some d.space.records) (2 ∷ [])) in
    let bitmap : c.count_if-bitmap.result ≡ length (bitmap_touched d) =
    c.count_if-bitmap.ensures ∙ ap (λ (b : Bool). if b then 4 else 0) c.has_blocks.ensures ∙ sym (long_if (is_some d.space.free) (map (λ (k : ℕ). 8 + k) (range_with_len 0 4))) in
    let paged : c.count_if-page.result ≡ length (page_touched page d) =
    c.count_if-page.ensures ∙ ap (λ (b : Bool). if b then 8 else 0) c.has_records.ensures ∙ sym (long_if (is_some d.space.records) (range_with_len (8 * page) 8)) in
    omega (arith, header, bitmap, paged, c.inodes_count.ensures.count, touched_long page d)
