use Rattle.std.proofs.Common.{◌<◌, ◌^◌, sym, ap, subst, ◌∙◌, arith, length, List}
use Rattle.std.specs.List.{find}
use Rattle.inobt_leaf.specs.declared.chunk.ChunkRec.{ChunkRec}
use Rattle.inobt_leaf.specs.Chunks.{chunk_holds, IsLeaf, with_whole_chunk}
use Rattle.inobt_leaf.proofs.Changes.{Represents, stands, insert-with_chunk, IsLeaf-insert}
use Rattle.inobt_leaf.proofs.leaf.Leaf.add.Goals as goal

place : (c : goal.In_ok-insert) → Represents c.self.inside.chunks.items c.args.start c.count_up_to-place.result
place c =
    let Is : List ChunkRec → Type 0 = λ chunks. Represents chunks c.args.start c.count_up_to-place.result in
    let e = c.as_slice.ensures.value in
    subst Is e
    (stands c.as_slice.result.now c.args.start c.count_up_to-place.result
    (ap (find (chunk_holds c.args.start)) (e ∙ c.self.view_is) ∙ c.requires.absent)
    c.count_up_to-place.ensures.within c.count_up_to-place.ensures.before c.count_up_to-place.ensures.after)

is_leaf : (c : goal.In_ok-insert) → IsLeaf c.insert.new.self.items
is_leaf c =
    let room : length c.self.inside.chunks.items < 252 = omega (arith, c.len.ensures, c.if-len-eq-LEAF_CHUNKS.false, c.self.invariant.few) in
    let fits : c.args.start < 2 ^ 32 = omega (arith, c.ranges.start.fits) in
    subst IsLeaf (sym c.in_ok-insert.ensures.items)
    (IsLeaf-insert c.self.inside.chunks.items c.args.start c.count_up_to-place.result c.self.invariant room fits c.requires.aligned (place c))

pub invariant_of-self-2 : goal.invariant_of-self-2
invariant_of-self-2 c = is_leaf c

pub returns-clause-ok : goal.returns-clause-ok
returns-clause-ok c = c.in_ok-insert.ensures.items ∙ insert-with_chunk c.self.inside.chunks.items c.args.start c.count_up_to-place.result (place c) ∙ ap (with_whole_chunk c.args.start) c.self.view_is

pub returns-clause-leaf : goal.returns-clause-leaf
returns-clause-leaf c = is_leaf c
