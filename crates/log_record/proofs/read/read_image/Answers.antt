use Rattle.std.proofs.Common.{◌≡◌, ◌+◌, ℕ, List, ◌++◌, length, sym, subst, rules}
use Rattle.std.proofs.lemmas.Nat.{be_bytes_8}
use Rattle.byteorder.specs.Endian.{big_bytes}
use Rattle.log_record.specs.Payload.{HoldsPayload}
use Rattle.log_record.specs.Encoding.{image_bytes}
use Rattle.log_record.proofs.Window.{HoldsPayload-append}
use Rattle.log_record.proofs.read.read_image.Goals as goal

pub returns-clause-held : goal.returns-clause-held
unfolding image_bytes
returns-clause-held c =
    let ring = c.args.ring.now in
    let home = c.copy_payload.new.into in
    let bytes = c.copy_payload-2.new.into in
    let number = c.from_be_bytes.result in
    let eight : length home ≡ 8 = search rules in
    let same : big_bytes 8 number ≡ home = be_bytes_8 home number eight c.copy_payload.ensures.bytes c.from_be_bytes.ensures in
    let behind : HoldsPayload ring c.args.position (c.args.at + length home) bytes =
    let P : ℕ → Type 0 = λ k. HoldsPayload ring c.args.position (c.args.at + k) bytes in
    subst P (sym eight) c.copy_payload-2.ensures.held in
    let P : List ℕ → Type 0 = λ l. HoldsPayload ring c.args.position c.args.at (l ++ bytes) in
    subst P (sym same) (HoldsPayload-append ring c.args.position c.args.at home bytes c.copy_payload.ensures.held behind)
