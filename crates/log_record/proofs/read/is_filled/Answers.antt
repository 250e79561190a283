use Rattle.std.proofs.Common.{◌≡◌, ◌<◌, ◌+◌, ◌-◌, ◌*◌, ℕ, List, length, replicate, get_or, ap, sym, subst, ◌∙◌, arith}
use Rattle.std.proofs.lemmas.List.{length-replicate, length-take-le, get_or-replicate}
use Rattle.std.proofs.lemmas.Bool.{false≢true}
use Rattle.log_record.specs.Outline.{filling}
use Rattle.log_record.specs.Payload.{HoldsPayload}
use Rattle.log_record.specs.Encoding.{sector_count}
use Rattle.log_record.proofs.Window.{zeros_are}
use Rattle.log_record.proofs.Whole.{count_of, whole_zeros}
use Rattle.log_record.proofs.read.is_filled.Goals as goal

-- the bytes that were read are as many as the filling has
read_size : (c : goal.After-filling-2-1) → length c.copy_payload.new.into ≡ 496 * sector_count c.args.images - (32 + 520 * c.args.images)
read_size c =
    let n = 496 * c.record_sectors.result - (32 + 520 * c.args.images) in
    let whole : length (replicate {A = ℕ} 496 0) ≡ 496 = length-replicate {A = ℕ} 496 0 in
    let taken = length-take-le n (replicate {A = ℕ} 496 0) (omega arith) in
    c.copy_payload.auto.into ∙ taken ∙ omega arith

pub returns-clause-yes : goal.returns-clause-yes
returns-clause-yes c = λ yes.
    let bytes = c.copy_payload.new.into in
    let m = c.args.images in
    let same : bytes ≡ filling m = zeros_are bytes (c.is_zero.ensures.0 yes) ∙ ap (λ (k : ℕ). replicate k 0) (read_size c) in
    let P : List ℕ → Type 0 = λ l. HoldsPayload c.args.ring.now c.args.position (32 + 520 * m) l in
    subst P same c.copy_payload.ensures.held

pub returns-clause-no : goal.returns-clause-no
returns-clause-no c = λ no item is count.
    let bytes = c.copy_payload.new.into in
    let m = c.args.images in
    let size : length bytes ≡ 496 * count_of item - (32 + 520 * length item.images) =
    read_size c ∙ ap (λ (k : ℕ). 496 * sector_count k - (32 + 520 * k)) (sym count) in
    let P : ℕ → Type 0 = λ k. HoldsPayload c.args.ring.now c.args.position (32 + 520 * k) bytes in
    let zeros : bytes ≡ replicate (length bytes) 0 =
    whole_zeros c.args.ring.now c.args.position item bytes is size (subst P (sym count) c.copy_payload.ensures.held) in
    let each : (i : ℕ) → i < length bytes → get_or bytes i 0 ≡ 0 =
    λ i h. ap (λ (l : List ℕ). get_or l i 0) zeros ∙ get_or-replicate (length bytes) i 0 0 h in
    false≢true (sym no ∙ c.is_zero.ensures.1 each)
