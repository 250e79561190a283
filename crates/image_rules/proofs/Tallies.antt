-- How many inodes without links the chunks have that were gone through.
use Rattle.std.proofs.Common.{◌<◌, get_or, take, length, ◌≡◌, ◌+◌, ℕ, Bool, cond, List, [], ◌∷◌, length, map, get_or, take, refl, ap, sym, ◌∙◌, arith}
use Rattle.std.specs.Prelude.{sum_by, count_by}
use Rattle.std.specs.List.{range_with_len}
use Rattle.std.proofs.lemmas.List.FromFn.{sum_by-map-range_with_len_more}
use Rattle.std.proofs.lemmas.List.Sums.{sum_by-cons, sum_by_more}
use Rattle.std.proofs.Math.Seq.{take-length}
use Rattle.life_bytes.specs.declared.sector.Sector.{Sector}
use Rattle.life_bytes.specs.Bits.{is_set}
use Rattle.geometry.specs.declared.shape.Geometry.{Geometry}
use Rattle.inobt_leaf.specs.declared.chunk.ChunkRec.{ChunkRec}
use Rattle.life_table.specs.declared.table.Inode.{Inode}
use Rattle.life_table.specs.declared.table.Chunk.{Chunk}
use Rattle.sound_image.specs.Counts.{orphans_in_group}
use Rattle.sound_image.specs.Reading.{chunk_read, group_read, inode_read, records_of}
use Rattle.sound_image.specs.Encoding.{is_unlinked_row}
use Rattle.image_rules.specs.Counted.{chunk_orphans, one_if_orphan}
use Rattle.image_rules.specs.Gathered.{row_unless}
use Rattle.image_rules.proofs.Gathering.{row_read}

abbrev one : Inode → ℕ
one inode = cond (is_unlinked_row inode.row) 1 0

-- of the first inodes of a chunk
abbrev pub orphans_to : Geometry → List Sector → ℕ → ChunkRec → ℕ → ℕ
orphans_to g image group chunk n = sum_by one (map (inode_read g image group chunk) (range_with_len 0 n))

pub orphans_none : (g : Geometry) (image : List Sector) (group : ℕ) (chunk : ChunkRec) → orphans_to g image group chunk 0 ≡ 0
orphans_none g image group chunk = refl

pub orphans_more : (g : Geometry) (image : List Sector) (group : ℕ) (chunk : ChunkRec) (i : ℕ) (free : Bool) → free ≡ is_set chunk.mask i
    → orphans_to g image group chunk (i + 1) ≡ orphans_to g image group chunk i + one_if_orphan (row_unless g image group (chunk.start + i) free)
orphans_more g image group chunk i free mask =
    let row = ap one_if_orphan (row_read g image group chunk i ∙ ap (row_unless g image group (chunk.start + i)) (sym mask)) in
    omega (arith, row, sum_by-map-range_with_len_more one (inode_read g image group chunk) 0 i i (omega arith))

pub orphans_all : (g : Geometry) (image : List Sector) (group : ℕ) (chunk : ChunkRec) → orphans_to g image group chunk 64 ≡ chunk_orphans g image group chunk
unfolding chunk_read
orphans_all g image group chunk = refl

-- of all chunks
chunks_sum : (g : Geometry) (image : List Sector) (group : ℕ) (rs : List ChunkRec)
    → sum_by (λ (chunk : Chunk). count_by (λ (inode : Inode). is_unlinked_row inode.row) chunk.inodes) (map (chunk_read g image group) rs) ≡ sum_by (chunk_orphans g image group) rs
chunks_sum g image group [] = refl
chunks_sum g image group (r ∷ rs) =
    omega (
      arith,
      chunks_sum g image group rs,
      sum_by-cons (chunk_orphans g image group) r rs,
      sum_by-cons (λ (chunk : Chunk). count_by (λ (inode : Inode). is_unlinked_row inode.row) chunk.inodes) (chunk_read g image group r) (map (chunk_read g image group) rs),
    )

pub group_sum : (g : Geometry) (image : List Sector) (group : ℕ) (rs : List ChunkRec) (n : ℕ) → records_of g image group ≡ rs → n ≡ length rs
    → sum_by (chunk_orphans g image group) (take n rs) ≡ orphans_in_group (group_read g image group)
unfolding orphans_in_group group_read
group_sum g image group rs n same whole =
    ap (λ (k : ℕ). sum_by (chunk_orphans g image group) (take k rs)) whole
    ∙ ap (λ (cs : List ChunkRec). sum_by (chunk_orphans g image group) cs) (take-length rs ∙ sym same)
    ∙ sym (chunks_sum g image group (records_of g image group))

pub chunks_more : (g : Geometry) (image : List Sector) (group : ℕ) (rs : List ChunkRec) (i : ℕ) (d : ChunkRec) → i < length rs
    → sum_by (chunk_orphans g image group) (take (i + 1) rs) ≡ sum_by (chunk_orphans g image group) (take i rs) + chunk_orphans g image group (get_or rs i d)
chunks_more g image group rs i d lt = sum_by_more (chunk_orphans g image group) rs i d lt

pub chunks_none : (g : Geometry) (image : List Sector) (group : ℕ) (rs : List ChunkRec) → sum_by (chunk_orphans g image group) (take 0 rs) ≡ 0
chunks_none g image group [] = refl
chunks_none g image group (r ∷ rs) = refl
