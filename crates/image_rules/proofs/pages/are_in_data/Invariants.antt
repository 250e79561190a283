use Rattle.std.proofs.Common.{◌<◌, ℕ, get_or}
use Rattle.inobt_leaf.specs.declared.chunk.ChunkRec.{ChunkRec}
use Rattle.sound_image.specs.Rules.{IsInData}
use Rattle.image_rules.proofs.pages.are_in_data.Given as goal

abbrev pub invariant-loop-chunk : goal.invariant-loop-chunk
invariant-loop-chunk l = (k : ℕ) (d : ChunkRec) → k < l.chunk-index → IsInData l.blocks (get_or l.chunks k d)
