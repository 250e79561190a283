use Rattle.std.proofs.Common.{◌≡◌, ◌≤◌, ◌+◌, ℕ, List, ◌++◌, length, ap, sym, ◌∙◌, arith, rules, length-append}
use Rattle.life_bytes.specs.Fields.{with_piece}
use Rattle.log_record.specs.Payload.{payload_of}
use Rattle.log_record.specs.Encoding.{image_bytes}
use Rattle.log_record.proofs.Pieces.{with_piece-split, length-payload_of}
use Rattle.log_record.proofs.write.put_image.Goals as goal

pub returns-clause-payload : goal.returns-clause-payload
unfolding image_bytes
returns-clause-payload c =
    let home = c.to_be_bytes.result in
    let bytes = c.args.image.now.sector.bytes in
    let into = payload_of c.args.into.now in
    let wide : length bytes ≡ 512 = search rules in
    let eight : length home ≡ 8 = ap (λ (l : List ℕ). length l) c.to_be_bytes.ensures in
    let fits : c.args.at + length home ≤ length into = omega (arith, length-payload_of c.args.into.now c.requires.whole) in
    c.put_payload-2.ensures.payload
    ∙ ap (λ (k : ℕ). with_piece (length bytes) (c.args.at + k) bytes (payload_of c.put_payload.new.into)) (sym eight)
    ∙ ap (λ (l : List ℕ). with_piece (length bytes) (c.args.at + length home) bytes l) c.put_payload.ensures.payload
    ∙ with_piece-split into home bytes c.args.at fits
    ∙ ap (λ (k : ℕ). with_piece k c.args.at (home ++ bytes) into) (omega (arith, length-append home bytes))
    ∙ ap (λ (l : List ℕ). with_piece 520 c.args.at (l ++ bytes) into) c.to_be_bytes.ensures

pub returns-clause-image : goal.returns-clause-image
returns-clause-image c = record { home = search rules; size = search rules; bytes = c.put_payload-2.ensures.bytes }
