use Rattle.std.proofs.Common.{ap, sym, subst, ◌∙◌, Some, rules}
use Rattle.std.proofs.lemmas.Bool.{false≢true}
use Rattle.inode_core.specs.declared.shape.Core.{Core}
use Rattle.inode_core.specs.Cores.{EncodesCore}
use Rattle.inode_core.proofs.Encoded.{is_read}
use Rattle.inode_core.proofs.reading.read_core.Goals as goal

pub returns-then-is_encoded-clause-only : goal.returns-then-is_encoded-clause-only
returns-then-is_encoded-clause-only c = λ core encoded.
    let f = c.fields_of-core.ensures in
    ap Some (is_read c.fields_of-core.result core c.args.number c.args.sector.now.bytes c.args.uuid.now (search rules) f.size_of_sector f.live f.links f.size f.blocks f.extents f.generation f.next encoded)

pub returns-else-is_encoded-clause-only : goal.returns-else-is_encoded-clause-only
returns-else-is_encoded-clause-only c = λ core encoded.
    let f = c.fields_of-core.ensures in
    let bytes = c.args.sector.now.bytes in
    let uuid = c.args.uuid.now in
    let same = is_read c.fields_of-core.result core c.args.number bytes uuid (search rules) f.size_of_sector f.live f.links f.size f.blocks f.extents f.generation f.next encoded in
    absurd (false≢true (sym c.if-is_encoded.false ∙ c.is_encoded.ensures.1 (subst (λ (core : Core). EncodesCore bytes c.args.number uuid core) (sym same) encoded)))
