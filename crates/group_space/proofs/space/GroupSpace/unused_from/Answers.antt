use Rattle.std.proofs.Common.{◌≤◌, ℕ, Option, None, Some, ap, sym, subst, ◌∙◌}
use Rattle.std.specs.Prelude.{IfSome}
use Rattle.inobt_leaf.specs.Chunks.{IsLeaf}
use Rattle.group_space.specs.Numbers.{SaysUnused}
use Rattle.group_space.specs.Space.{IsUnused, Space}
use Rattle.group_space.proofs.Follows.{records_by_unused, unused_by_records}
use Rattle.group_space.proofs.space.GroupSpace.unused_from.Goals as goal

in_chunks : (from : ℕ) (o : Option ℕ) (P Q : ℕ → Type 0) → ((n : ℕ) → P n → Q n) → IfSome o (λ agino. (from ≤ agino) × P agino) → IfSome o (λ agino. (from ≤ agino) × Q agino)
in_chunks from None P Q goes is = is
in_chunks from (Some n) P Q goes is = (is.0, goes n is.1)

pub returns-clause-unused : goal.returns-clause-unused
returns-clause-unused c blocks chunks is =
    let same = c.chunks.ensures.all ∙ ap (λ (s : Space). s.records) c.self.view_is ∙ is.records in
    let leaf : IsLeaf c.chunks.result.now = subst IsLeaf (sym c.chunks.ensures.all) c.chunks.ensures.leaf in
    in_chunks c.args.from c.unused_in.result (SaysUnused c.chunks.result.now) (IsUnused chunks) (λ n says. unused_by_records c.chunks.result.now chunks n leaf same says) c.unused_in.ensures.unused

pub returns-clause-least : goal.returns-clause-least
returns-clause-least c blocks chunks agino is above unused =
    let same = c.chunks.ensures.all ∙ ap (λ (s : Space). s.records) c.self.view_is ∙ is.records in
    let leaf : IsLeaf c.chunks.result.now = subst IsLeaf (sym c.chunks.ensures.all) c.chunks.ensures.leaf in
    c.unused_in.ensures.least agino above (records_by_unused c.chunks.result.now chunks agino leaf same unused)
