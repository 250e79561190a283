use Rattle.std.proofs.Common.{◌≡◌, ◌-◌, ℕ, true, Option, IsSomeAnd, sym, subst, ◌∙◌}
use Rattle.life_bytes.specs.Bits.{is_set}
use Rattle.inobt_leaf.specs.declared.chunk.ChunkRec.{ChunkRec}
use Rattle.tests_groups.proofs.rules.take.Goals as goal

pub take-requires : goal.take-requires
take-requires c =
    subst (λ (o : Option ChunkRec). IsSomeAnd o (λ chunk. is_set chunk.mask (c.args.agino - chunk.start) ≡ true)) (sym c.in-Some.is ∙ c.find.ensures)
    (sym c.is_free.ensures ∙ c.if-is_free.true)
