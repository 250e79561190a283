use Rattle.std.proofs.Common.{ap, sym, subst, ◌∙◌, Some}
use Rattle.std.proofs.lemmas.Bool.{false≢true}
use Rattle.ag_header.specs.Headers.{EncodesHeader}
use Rattle.ag_header.proofs.Encoded.{is_read}
use Rattle.ag_header.proofs.reading.read_agi.Goals as goal

pub returns-then-is_encoded-clause-only : goal.returns-then-is_encoded-clause-only
returns-then-is_encoded-clause-only c = λ agi encoded.
    let f = c.fields_of-agi.ensures in
    ap Some (is_read c.fields_of-agi.result agi c.args.sector.now.bytes f.group f.blocks f.count f.root f.level f.free f.many f.heads f.uuid encoded)

pub returns-else-is_encoded-clause-only : goal.returns-else-is_encoded-clause-only
returns-else-is_encoded-clause-only c = λ agi encoded.
    let f = c.fields_of-agi.ensures in
    let bytes = c.args.sector.now.bytes in
    let same = is_read c.fields_of-agi.result agi bytes f.group f.blocks f.count f.root f.level f.free f.many f.heads f.uuid encoded in
    absurd (false≢true (sym c.if-is_encoded.false ∙ c.is_encoded.ensures.1 (subst (EncodesHeader bytes) (sym same) encoded)))
