-- How many chunks and inodes in use a group has.
use Rattle.std.proofs.Common.{◌≡◌, ◌+◌, ◌*◌, ℕ, Bool, cond, List, [], ◌∷◌, Option, None, Some, is_some, length, map, refl, ap, sym, ◌∙◌, arith}
use Rattle.std.specs.Prelude.{is_none, count_by, sum_by}
use Rattle.std.proofs.lemmas.List.{length-map}
use Rattle.std.proofs.lemmas.List.Sums.{sum_by-cons}
use Rattle.life_bytes.specs.declared.sector.Sector.{Sector}
use Rattle.geometry.specs.declared.shape.Geometry.{Geometry}
use Rattle.inobt_leaf.specs.declared.chunk.ChunkRec.{ChunkRec}
use Rattle.inobt_leaf.specs.Chunks.{IsLeaf}
use Rattle.life_table.specs.declared.types.Row.{Row}
use Rattle.life_table.specs.declared.table.Inode.{Inode}
use Rattle.life_table.specs.declared.table.Chunk.{Chunk}
use Rattle.sound_image.specs.Counts.{inodes_in}
use Rattle.sound_image.specs.Reading.{chunk_read, group_read, records_of}
use Rattle.sound_image.specs.Encoding.{free_count}
use Rattle.sound_image.proofs.Leaves.{free_sum}
use Rattle.sound_image.proofs.Ready.{Lower}
use Rattle.sound_image.proofs.Encoded.{length_inodes, records_again}
use Rattle.sound_image.proofs.Tables.{group_is_map}

used : Inode → Bool
used inode = is_some inode.row

one_of_two : (o : Option Row) → cond (is_some o) 1 0 + cond (is_none o) 1 0 ≡ 1
one_of_two None = refl
one_of_two (Some row) = refl

-- each inode is in use or free
in_use_or_free : (inodes : List Inode) → count_by (λ (inode : Inode). is_some inode.row) inodes + free_count inodes ≡ length inodes
unfolding free_count
in_use_or_free [] = refl
in_use_or_free (x ∷ xs) =
    omega (arith, in_use_or_free xs, one_of_two x.row, sum_by-cons (λ (inode : Inode). cond (is_some inode.row) 1 0) x xs, sum_by-cons (λ (inode : Inode). cond (is_none inode.row) 1 0) x xs)

group_counts : (g : Geometry) (image : List Sector) (group : ℕ) (rs : List ChunkRec)
    → inodes_in (map (chunk_read g image group) rs) + sum_by (λ (chunk : Chunk). free_count chunk.inodes) (map (chunk_read g image group) rs) ≡ 64 * length rs
unfolding inodes_in
group_counts g image group [] = refl
group_counts g image group (r ∷ rs) =
    let c : Chunk = chunk_read g image group r in
    let cs : List Chunk = map (chunk_read g image group) rs in
    omega (
      arith,
      group_counts g image group rs,
      in_use_or_free c.inodes,
      length_inodes g image group r,
      sum_by-cons (λ (chunk : Chunk). count_by (λ (inode : Inode). is_some inode.row) chunk.inodes) c cs,
      sum_by-cons (λ (chunk : Chunk). free_count chunk.inodes) c cs,
    )

pub counted : (l : Lower) (g : Geometry) (image : List Sector) (group : ℕ) → IsLeaf (records_of g image group)
    → inodes_in (group_read g image group) + sum_by (λ (chunk : ChunkRec). chunk.free) (records_of g image group) ≡ 64 * length (records_of g image group)
counted l g image group leaf =
    let rs : List ChunkRec = records_of g image group in
    let read : group_read g image group ≡ map (chunk_read g image group) rs = group_is_map g image group in
    let free : sum_by (λ (chunk : ChunkRec). chunk.free) rs ≡ sum_by (λ (chunk : Chunk). free_count chunk.inodes) (map (chunk_read g image group) rs) =
    ap (λ (cs : List ChunkRec). sum_by (λ (chunk : ChunkRec). chunk.free) cs) (sym (records_again l g image group leaf)) ∙ free_sum (group_read g image group)
    ∙ ap (λ (cs : List Chunk). sum_by (λ (chunk : Chunk). free_count chunk.inodes) cs) read in
    omega (arith, group_counts g image group rs, free, ap inodes_in read)

pub chunks_counted : (g : Geometry) (image : List Sector) (group : ℕ) → length (group_read g image group) ≡ length (records_of g image group)
chunks_counted g image group = ap (λ (cs : List Chunk). length cs) (group_is_map g image group) ∙ length-map (records_of g image group) (chunk_read g image group)
