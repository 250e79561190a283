-- The records of a well-formed group are those of a leaf.
use Rattle.std.proofs.Common.{◌≡◌, ◌<◌, ◌≤◌, ◌+◌, ◌*◌, ◌^◌, ℕ, zero, suc, Bool, cond, List, [], ◌∷◌, length, map, get_or, refl, ap, sym, subst, ◌∙◌, arith}
use Rattle.std.specs.Prelude.{is_none, count_ones, sum_by}
use Rattle.std.specs.List.{AllByRecursion}
use Rattle.std.proofs.lemmas.List.{length-map, get_or-map}
use Rattle.std.proofs.lemmas.List.Elements.{All-from_recursion}
use Rattle.std.proofs.lemmas.List.Sums.{sum_by-cons, count_by-le-length}
use Rattle.std.proofs.lemmas.Simd.{ones-mask_l, mask_l-lt}
use Rattle.std.specs.Simd.Lanes.{mask_l}
use Rattle.free_map.specs.Bitmap.{number_of_bits}
use Rattle.inobt_leaf.specs.declared.chunk.ChunkRec.{ChunkRec}
use Rattle.inobt_leaf.specs.Chunks.{IsChunkRecord, IsLeaf}
use Rattle.life_table.specs.declared.table.Inode.{Inode}
use Rattle.life_table.specs.declared.table.Chunk.{Chunk}
use Rattle.life_table.specs.Table.{Group}
use Rattle.life_table.specs.WellFormed.{IsChunk, ChunksAscend}
use Rattle.sound_image.specs.Rules.{IsInData}
use Rattle.sound_image.specs.Encoding.{mask_of, free_count, chunk_record}
use Rattle.sound_image.proofs.Groups.{InData}

abbrev pub unused : Inode → Bool
unused inode = is_none inode.row

-- the number with these bits
pub is_mask : (bits : List Bool) → number_of_bits bits ≡ mask_l bits
is_mask [] = refl
is_mask (bit ∷ bits) = ap (λ (n : ℕ). cond bit 1 0 + 2 * n) (is_mask bits)

pub mask_ones : (inodes : List Inode) → free_count inodes ≡ count_ones (mask_of inodes)
unfolding mask_of free_count
mask_ones inodes = sym (ap count_ones (is_mask (map unused inodes)) ∙ ones-mask_l unused inodes)

pub mask_small : (inodes : List Inode) → length inodes ≡ 64 → mask_of inodes < 2 ^ 64
unfolding mask_of
mask_small inodes whole =
    let long : length (map unused inodes) ≡ 64 = length-map inodes unused ∙ whole in
    subst (λ (n : ℕ). n < 2 ^ 64) (sym (is_mask (map unused inodes))) (subst (λ (n : ℕ). mask_l (map unused inodes) < 2 ^ n) long (mask_l-lt (map unused inodes)))

-- a chunk's record
pub record_right : (blocks : ℕ) (chunk : Chunk) → blocks ≤ 16384 → IsChunk chunk → InData blocks chunk → IsChunkRecord (chunk_record chunk)
unfolding chunk_record
record_right blocks chunk few is data_of =
    record { start = omega (arith, data_of.high); mask = mask_small chunk.inodes is.whole; aligned = is.start; free = mask_ones chunk.inodes }

pub free_few : (chunk : Chunk) → IsChunk chunk → free_count chunk.inodes ≤ 64
unfolding free_count
free_few chunk is = omega (arith, count_by-le-length unused chunk.inodes, is.whole)

pub record_in_data : (blocks : ℕ) (chunk : Chunk) → IsChunk chunk → InData blocks chunk → IsInData blocks (chunk_record chunk)
unfolding chunk_record
record_in_data blocks chunk is data_of = let aligned = is.start in let low = data_of.low in let high = data_of.high in (omega arith, omega arith)

-- all records
all_records : (P : Chunk → Type 0) (Q : Chunk → Type 0) (R : ChunkRec → Type 0) (group : Group) → ((chunk : Chunk) → P chunk → Q chunk → R (chunk_record chunk))
    → AllByRecursion P group → AllByRecursion Q group → AllByRecursion R (map chunk_record group)
all_records P Q R [] one p q = tt
all_records P Q R (c ∷ cs) one p q = (one c p.0 q.0, all_records P Q R cs one p.1 q.1)

pub below_later : (start : ℕ) (group : Group) (j : ℕ) (d : Chunk) → AllByRecursion (λ (later : Chunk). start < later.start) group → j < length group → start < (get_or group j d).start
below_later start [] j d all lt = absurd (omega arith)
below_later start (c ∷ cs) zero d all lt = all.0
below_later start (c ∷ cs) (suc j) d all lt = below_later start cs j d all.1 (omega arith)

pub pairs_ascend : (group : Group) (i j : ℕ) (d : Chunk) → ChunksAscend group → i < j → j < length group → (get_or group i d).start < (get_or group j d).start
pairs_ascend [] i j d up lt within = absurd (omega arith)
pairs_ascend (c ∷ cs) i zero d up lt within = absurd (omega arith)
pairs_ascend (c ∷ cs) zero (suc j) d up lt within = below_later c.start cs j d up.0 (omega arith)
pairs_ascend (c ∷ cs) (suc i) (suc j) d up lt within = pairs_ascend cs i j d up.1 (omega arith) (omega arith)

abbrev pub no_chunk : Chunk
no_chunk = record { start = 0; inodes = [] }

start_at : (group : Group) (i : ℕ) (d : ChunkRec) → i < length group → (get_or (map chunk_record group) i d).start ≡ (get_or group i no_chunk).start
unfolding chunk_record
start_at group i d lt = ap (λ (r : ChunkRec). r.start) (get_or-map chunk_record group i no_chunk d lt)

pub leaf_right : (blocks : ℕ) (group : Group) → blocks ≤ 16384 → length group ≤ 252 → AllByRecursion IsChunk group → AllByRecursion (InData blocks) group → ChunksAscend group → IsLeaf (map chunk_record group)
leaf_right blocks group few short chunks data_of up = record {
  few = omega (arith, length-map group chunk_record);
  each = All-from_recursion IsChunkRecord (map chunk_record group) (all_records IsChunk (InData blocks) IsChunkRecord group (λ chunk. record_right blocks chunk few) chunks data_of);
  ascends = λ i j d lt within.
      let inside : j < length group = omega (arith, within, length-map group chunk_record) in
      let above = pairs_ascend group i j no_chunk up lt inside in
      omega (arith, start_at group i d (omega arith), start_at group j d inside);
}

pub all_in_data_blocks : (blocks : ℕ) (group : Group) → AllByRecursion IsChunk group → AllByRecursion (InData blocks) group → (k : ℕ) (d : ChunkRec) → k < length (map chunk_record group) → IsInData blocks (get_or (map chunk_record group) k d)
all_in_data_blocks blocks group chunks data_of =
    All-from_recursion (IsInData blocks) (map chunk_record group) (all_records IsChunk (InData blocks) (IsInData blocks) group (record_in_data blocks) chunks data_of)

-- ---- counts

pub free_sum : (group : Group) → sum_by (λ (chunk : ChunkRec). chunk.free) (map chunk_record group) ≡ sum_by (λ (chunk : Chunk). free_count chunk.inodes) group
unfolding chunk_record
free_sum [] = refl
free_sum (c ∷ cs) =
    sum_by-cons (λ (chunk : ChunkRec). chunk.free) (chunk_record c) (map chunk_record cs) ∙ ap (λ (n : ℕ). free_count c.inodes + n) (free_sum cs)
    ∙ sym (sum_by-cons (λ (chunk : Chunk). free_count chunk.inodes) c cs)

pub free_bound : (group : Group) → AllByRecursion IsChunk group → sum_by (λ (chunk : Chunk). free_count chunk.inodes) group ≤ 64 * length group
free_bound [] all = omega arith
free_bound (c ∷ cs) all = omega (arith, sum_by-cons (λ (chunk : Chunk). free_count chunk.inodes) c cs, free_few c all.0, free_bound cs all.1)
