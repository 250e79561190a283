use Rattle.std.proofs.Common.{◌≡◌, ◌*◌, ◌%◌, ℕ, List, length, ap, sym, subst, ◌∙◌, arith}
use Rattle.std.specs.List.{find}
use Rattle.std.proofs.lemmas.List.{length-map}
use Rattle.inobt_leaf.specs.declared.chunk.ChunkRec.{ChunkRec}
use Rattle.inobt_leaf.specs.Chunks.{IsLeaf, chunk_holds, with_whole_chunk}
use Rattle.sound_image.specs.Encoding.{chunk_record}
use Rattle.group_space.specs.Space.{Space}
use Rattle.group_space.specs.Taken.{CanTake, IsWithout}
use Rattle.group_space.proofs.Follows.{added_bit, added_follows, can_take_run, is_used, no_chunk_there, not_found, run_in_set}
use Rattle.group_space.proofs.space.GroupSpace.with_chunk_added.Goals as goal

pub overflow_mul-start : goal.overflow_mul-start
overflow_mul-start c =
    let r = c.requires in
    let below = (c.chunks_have_the_lowest_place.ensures.place r.blocks r.chunks c.args.block r.place).1 in
    let few = r.few in
    omega arith

pub own_blocks-requires : goal.own_blocks-requires
own_blocks-requires c =
    let r = c.requires in
    let below = (c.chunks_have_the_lowest_place.ensures.place r.blocks r.chunks c.args.block r.place).1 in
    let few = r.few in
    omega arith

pub with_whole-requires : goal.with_whole-requires
with_whole-requires c =
    let r = c.requires in
    let place = c.chunks_have_the_lowest_place.ensures.place r.blocks r.chunks c.args.block r.place in
    let same = c.in_ok-copied.ensures ∙ ap (λ (s : Space). s.records) c.self.view_is ∙ r.space_of.records in
    let leaf = subst IsLeaf (ap (λ (s : Space). s.records) c.self.view_is ∙ r.space_of.records) c.hold_order.ensures in
    let even = place.2.0 in
    let room = place.0 in
    let aligned : 8 * c.args.block % 64 ≡ 0 = omega arith in
    record {
      aligned = aligned;
      absent = ap (find (chunk_holds (8 * c.args.block))) same ∙ not_found r.chunks (8 * c.args.block) aligned leaf (no_chunk_there r.blocks r.chunks c.args.block place.2);
      room = let long = ap (λ (rs : List ChunkRec). length rs) same in omega (arith, length-map r.chunks chunk_record);
    }

pub take-requires : goal.take-requires
take-requires c =
    let r = c.requires in
    let place = c.chunks_have_the_lowest_place.ensures.place r.blocks r.chunks c.args.block r.place in
    added_bit r.chunks c.args.block c.self.inside.leaf c.in_ok-leaf.leaf c.hold_order.ensures c.in_ok-leaf.ensures.1 (ap (λ (s : Space). s.records) c.self.view_is ∙ r.space_of.records) place.2.0
    (no_chunk_there r.blocks r.chunks c.args.block place.2) (c.in_ok-leaf.ensures.0 ∙ ap (with_whole_chunk (8 * c.args.block)) c.in_ok-copied.ensures)

pub without-requires : goal.without-requires
without-requires c =
    let r = c.requires in
    let place = c.chunks_have_the_lowest_place.ensures.place r.blocks r.chunks c.args.block r.place in
    subst (CanTake c.self.inside.free) (sym c.own_blocks.ensures)
    (can_take_run c.self.inside.free c.args.block (run_in_set r.blocks r.chunks c.self.inside.free c.args.block (ap (λ (s : Space). s.free) c.self.view_is ∙ r.space_of.free) place.2))

pub returns-clause-space : goal.returns-clause-space
returns-clause-space c blocks chunks new is some none =
    let r = c.requires in
    let place = c.chunks_have_the_lowest_place.ensures.place r.blocks r.chunks c.args.block r.place in
    added_follows blocks chunks c.args.block new c.self.inside.leaf c.in_ok-leaf.leaf c.take.new.self c.self.inside.free c.without.result c.hold_order.ensures c.in_ok-leaf.ensures.1
    (ap (λ (s : Space). s.records) c.self.view_is ∙ is.records) (ap (λ (s : Space). s.free) c.self.view_is ∙ is.free)
    (run_in_set r.blocks r.chunks c.self.inside.free c.args.block (ap (λ (s : Space). s.free) c.self.view_is ∙ r.space_of.free) place.2)
    (is_used new.row some) none (c.in_ok-leaf.ensures.0 ∙ ap (with_whole_chunk (8 * c.args.block)) c.in_ok-copied.ensures) c.take.ensures.changed
    (subst (λ (own : List ℕ). IsWithout c.self.inside.free own c.without.result) c.own_blocks.ensures c.without.ensures)
