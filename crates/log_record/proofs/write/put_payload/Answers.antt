use Rattle.std.proofs.Common.{◌≡◌, ◌+◌, ◌*◌, ◌/◌, ◌%◌, ◌<◌, ◌≤◌, ℕ, List, [], ◌++◌, length, set, get_or, ap, sym, ◌∙◌, arith}
use Rattle.std.proofs.Math.Nat.{div-add-mod}
use Rattle.std.proofs.lemmas.List.Elements.{All-set}
use Rattle.std.proofs.lemmas.List.{length-set}
use Rattle.std.proofs.lemmas.Bool.{eqb-false}
use Rattle.life_bytes.specs.Fields.{with_piece}
use Rattle.life_bytes.specs.declared.sector.Sector.{Sector}
use Rattle.log_record.specs.Payload.{payload_of}
use Rattle.log_record.proofs.Pieces.{payload_of-set, stamps-set, stamps-with_piece, with_piece-split, length-payload_of}
use Rattle.log_record.proofs.write.put_payload.Goals as goal

pub loop-rest-preserved : goal.loop-rest-preserved
loop-rest-preserved c =
    let into = c.loop-rest.into in
    let at = c.loop-rest.at in
    let piece = c.split_at.result.0.now in
    let behind = c.split_at.result.1.now in
    let new = c.put_piece.new.sector in
    let none : Sector = record { bytes = [] } in
    let whole = c.loop-rest.invariant.whole in
    let more : length c.loop-rest.rest.now ≡ 0 → ⊥ = eqb-false (length c.loop-rest.rest.now) 0 (sym c.loop-rest-test.ensures) in
    let parts : c.loop-rest.rest.now ≡ piece ++ behind = c.split_at.ensures.by_index.0 in
    let taken : length piece ≡ c.min-count.result = c.split_at.ensures.front_len in
    let place : 496 * (at / 496) + at % 496 ≡ at = div-add-mod at 496 in
    let within : at / 496 < length into = omega arith in
    let wide : length (get_or into (at / 496) none).bytes ≡ 512 = whole (at / 496) none within in
    let put : payload_of (set into (at / 496) new) ≡ with_piece (length piece) (496 * (at / 496) + at % 496) piece (payload_of into) =
    payload_of-set into new none (at / 496) (at % 496) (length piece) piece whole within (omega arith) c.put_piece.ensures.bytes in
    let put_at : payload_of (set into (at / 496) new) ≡ with_piece (length piece) at piece (payload_of into) =
    put ∙ ap (λ (k : ℕ). with_piece (length piece) k piece (payload_of into)) place in
    let fits : at + length piece ≤ length (payload_of into) = omega (arith, length-payload_of into whole) in
    record {
      room = omega (arith, length-set into (at / 496) new);
      whole = All-set (λ (s : Sector). length s.bytes ≡ 512) into (at / 496) new c.put_piece.ensures.whole whole;
      stamps = stamps-set into new none (at / 496) within
          (ap (λ (l : List ℕ). Rattle.std.proofs.Common.take 16 l) c.put_piece.ensures.bytes ∙ stamps-with_piece (get_or into (at / 496) none).bytes piece (length piece) (at % 496) (omega arith))
          ∙ c.loop-rest.invariant.stamps;
      payload = ap (λ (k : ℕ). with_piece (length behind) (at + k) behind (payload_of (set into (at / 496) new))) (sym taken)
          ∙ ap (λ (l : List ℕ). with_piece (length behind) (at + length piece) behind l) put_at
          ∙ with_piece-split (payload_of into) piece behind at fits
          ∙ ap (λ (l : List ℕ). with_piece (length l) at l (payload_of into)) (sym parts)
          ∙ c.loop-rest.invariant.payload;
    }

pub returns-clause-bytes : goal.returns-clause-bytes
returns-clause-bytes c = λ i. omega (arith, c.type_inv.bytes i)
