use Rattle.std.proofs.Common.{◌≡◌, ◌≤◌, ℕ, List, ap, sym, ◌∙◌, arith}
use Rattle.std.proofs.lemmas.Bool.{false≢true}
use Rattle.std.proofs.lemmas.Slice.Eq.{bytes_eq-Decides}
use Rattle.life_bytes.specs.Fields.{field}
use Rattle.log_record.specs.Encoding.{record_header}
use Rattle.log_record.proofs.Images.{header_tail, header_first, header_commits, header_images}
use Rattle.log_record.proofs.read.parse_header.Goals as goal

pub returns-then-found-gt-MAX_IMAGES-clause-none : goal.returns-then-found-gt-MAX_IMAGES-clause-none
returns-then-found-gt-MAX_IMAGES-clause-none c = λ h is same.
    let small : h.images ≤ 128 = is.images in
    let read : field 4 20 (record_header h.tail h.first h.commits h.images) ≡ h.images =
    header_images h.tail h.first h.commits h.images (omega arith) in
    let found : c.field_u32-2.result ≡ h.images = c.field_u32-2.ensures ∙ ap (λ (l : List ℕ). field 4 20 l) same ∙ read in
    omega arith

pub returns-else-eq-clause-none : goal.returns-else-eq-clause-none
returns-else-eq-clause-none c = λ h is same.
    let small : h.images ≤ 128 = is.images in
    let tail : c.field_u64.result ≡ h.tail =
    c.field_u64.ensures ∙ ap (λ (l : List ℕ). field 8 0 l) same ∙ header_tail h.tail h.first h.commits h.images is.tail in
    let first : c.field_u64-2.result ≡ h.first =
    c.field_u64-2.ensures ∙ ap (λ (l : List ℕ). field 8 8 l) same ∙ header_first h.tail h.first h.commits h.images is.first in
    let commits : c.field_u32.result ≡ h.commits =
    c.field_u32.ensures ∙ ap (λ (l : List ℕ). field 4 16 l) same ∙ header_commits h.tail h.first h.commits h.images is.commits in
    let images : c.field_u32-2.result ≡ h.images =
    c.field_u32-2.ensures ∙ ap (λ (l : List ℕ). field 4 20 l) same ∙ header_images h.tail h.first h.commits h.images (omega arith) in
    let again : c.header_bytes-encoded.result ≡ record_header h.tail h.first h.commits h.images =
    c.header_bytes-encoded.ensures
    ∙ ap (λ (t : ℕ). record_header t c.field_u64-2.result c.field_u32.result c.field_u32-2.result) tail
    ∙ ap (λ (f : ℕ). record_header h.tail f c.field_u32.result c.field_u32-2.result) first
    ∙ ap (λ (n : ℕ). record_header h.tail h.first n c.field_u32-2.result) commits
    ∙ ap (λ (m : ℕ). record_header h.tail h.first h.commits m) images in
    let yes = (bytes_eq-Decides c.args.bytes.now c.header_bytes-encoded.result).1 (same ∙ sym again) in
    absurd (false≢true (sym c.if-eq.false ∙ c.eq.ensures ∙ yes))
