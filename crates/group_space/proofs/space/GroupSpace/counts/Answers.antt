use Rattle.std.proofs.Common.{◌*◌, ℕ, List, length, ap, ◌∙◌}
use Rattle.std.specs.Prelude.{sum_by}
use Rattle.std.proofs.lemmas.List.{length-map}
use Rattle.inobt_leaf.specs.declared.chunk.ChunkRec.{ChunkRec}
use Rattle.sound_image.specs.Encoding.{chunk_record}
use Rattle.group_space.specs.Space.{Space}
use Rattle.group_space.proofs.Follows.{sum_records}
use Rattle.group_space.proofs.space.GroupSpace.counts.Goals as goal

pub returns-clause-inodes : goal.returns-clause-inodes
returns-clause-inodes c blocks chunks is =
    let same = ap (λ (s : Space). s.records) c.self.view_is ∙ is.records in
    c.leaf_counts.ensures.inodes ∙ ap (λ (rs : List ChunkRec). 64 * length rs) same ∙ ap (λ (n : ℕ). 64 * n) (length-map chunks chunk_record)

pub returns-clause-free : goal.returns-clause-free
returns-clause-free c blocks chunks is =
    let same = ap (λ (s : Space). s.records) c.self.view_is ∙ is.records in
    c.leaf_counts.ensures.free ∙ ap (λ (rs : List ChunkRec). sum_by (λ (r : ChunkRec). r.free) rs) same ∙ sum_records chunks
