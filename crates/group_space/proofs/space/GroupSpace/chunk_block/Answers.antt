use Rattle.std.proofs.Common.{◌≡◌, ◌≤◌, ℕ, Bool, List, length, ap, sym, subst, refl, ◌∙◌, arith}
use Rattle.std.specs.Prelude.{IfSome, IfNone}
use Rattle.std.proofs.lemmas.List.{length-map}
use Rattle.free_map.specs.Blocks.{IsFreeRun}
use Rattle.inobt_leaf.specs.declared.chunk.ChunkRec.{ChunkRec}
use Rattle.life_table.specs.Space.{chunk_place}
use Rattle.sound_image.specs.Encoding.{chunk_record}
use Rattle.group_space.specs.Space.{Space}
use Rattle.group_space.proofs.Placed.{place_full, place_of_run}
use Rattle.group_space.proofs.space.GroupSpace.chunk_block.Goals as goal

pub returns-then-chunks : goal.returns-then-chunks
returns-then-chunks c blocks chunks is =
    let many = ap (λ (rs : List ChunkRec). length rs) (c.chunks.ensures.all ∙ ap (λ (s : Space). s.records) c.self.view_is ∙ is.records) in
    sym (place_full blocks chunks (omega (arith, many, c.if-chunks.true, length-map chunks chunk_record)))

pub returns : goal.returns
returns c blocks chunks is =
    let many = ap (λ (rs : List ChunkRec). length rs) (c.chunks.ensures.all ∙ ap (λ (s : Space). s.records) c.self.view_is ∙ is.records) in
    let free : c.self.inside.free ≡ _ = ap (λ (s : Space). s.free) c.self.view_is ∙ is.free in
    let laws = c.chunks_have_the_lowest_place.ensures in
    place_of_run blocks chunks c.aligned_run.result (chunk_place blocks chunks) (record { place = laws.place; least = laws.least; none = laws.none })
    (omega (arith, many, c.if-chunks.false, length-map chunks chunk_record))
    (subst (λ (m : List Bool). IfSome c.aligned_run.result (IsFreeRun m)) free c.aligned_run.ensures.run)
    (subst (λ (m : List Bool). IfSome c.aligned_run.result (λ b. (x : ℕ) → IsFreeRun m x → b ≤ x)) free c.aligned_run.ensures.lowest)
    (subst (λ (m : List Bool). IfNone c.aligned_run.result ((x : ℕ) → ¬ IsFreeRun m x)) free c.aligned_run.ensures.none) refl
