use Rattle.std.proofs.Common.{ap, sym, subst, ◌∙◌, Ok}
use Rattle.std.proofs.lemmas.Bool.{false≢true}
use Rattle.geometry.specs.Shape.{IsGeometry}
use Rattle.geometry.specs.Superblock.{superblock_encoding}
use Rattle.geometry.proofs.Superblocks.{is_read}
use Rattle.geometry.proofs.superblock.read_super.Goals as goal

pub returns-then-is_superblock_of-clause-only : goal.returns-then-is_superblock_of-clause-only
returns-then-is_superblock_of-clause-only c = λ g is encoded.
    let f = c.fields_of-g.ensures in
    ap Ok (is_read c.fields_of-g.result g c.args.sector.now.bytes f.version f.groups f.blocks f.ring f.uuid is encoded)

pub returns-else-is_superblock_of-clause-only : goal.returns-else-is_superblock_of-clause-only
returns-else-is_superblock_of-clause-only c = λ g is encoded.
    let f = c.fields_of-g.ensures in
    let same = is_read c.fields_of-g.result g c.args.sector.now.bytes f.version f.groups f.blocks f.ring f.uuid is encoded in
    absurd (false≢true (sym c.if-is_superblock_of.false ∙ c.is_superblock_of.ensures.complete (subst IsGeometry (sym same) is) (encoded ∙ ap superblock_encoding (sym same))))
