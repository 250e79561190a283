use Rattle.std.proofs.Common.{◌≡◌, ◌+◌, ◌*◌, List, Some, map, slice_get, sym, subst, ◌∙◌}
use Rattle.life_bytes.specs.declared.sector.Sector.{Sector}
use Rattle.inobt_leaf.specs.declared.chunk.ChunkRec.{ChunkRec}
use Rattle.life_table.specs.Table.{group_at}
use Rattle.sound_image.specs.Encoding.{chunk_record}
use Rattle.sound_image.specs.Places.{sector_in}
use Rattle.mount.specs.Kept.{StillAgrees}
use Rattle.mount.proofs.Keeps.{same_records}
use Rattle.mount.proofs.keeping.keep_tree.Goals as goal

pub returns-clause-agrees : goal.returns-clause-agrees
returns-clause-agrees g c known was =
    let a = c.args in
    let same = g.met.V.View.image_stays a.view.now c.keep_leaf.new.view c.keep_leaf.ensures.only_read in
    subst (λ (s : List Sector). StillAgrees s c.keep_leaf.new.kept c.keep_chunks.new.kept) same (c.keep_chunks.ensures.agrees known) (c.keep_leaf.ensures.agrees known was)

pub returns-clause-page : goal.returns-clause-page
returns-clause-page g c k low = let a = c.args in c.keep_chunks.ensures.grows (sector_in a.g.now a.group (8 * a.root) + k) (c.in_ok-leaf.ensures.has k low)

pub returns-clause-chunks : goal.returns-clause-chunks
returns-clause-chunks g c known t layouts rest can image is k r found =
    let a = c.args in
    let leaf = c.in_ok-leaf.ensures.leaf known t layouts rest can image is in
    let records : c.chunks.result.now ≡ map chunk_record (group_at t a.group) = c.chunks.ensures.all ∙ same_records _ _ (sym c.in-Some.is ∙ leaf) in
    c.in_ok-keep_chunks.ensures.has k r (subst (λ (l : List ChunkRec). slice_get l k ≡ Some r) (sym records) found)
