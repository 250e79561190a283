-- A sound image is the encoding of its table.
use Rattle.std.proofs.Common.{◌≡◌, ◌<◌, ◌+◌, ◌^◌, ℕ, zero, suc, Bool, true, false, cond, eqb, List, None, Some, length, map, get_or, refl, ap, sym, ◌∙◌, arith}
use Rattle.std.specs.Prelude.{is_none, count_ones}
use Rattle.std.specs.List.{range_with_len}
use Rattle.std.specs.Int.{bit_at}
use Rattle.std.proofs.lemmas.List.{length-map, get_or-map, same_lists}
use Rattle.std.proofs.lemmas.List.FromFn.{length-map-range_with_len, get_or-map-range_with_len}
use Rattle.std.proofs.lemmas.Nat.Bits.{same_from_bits_below, bit_at-lt}
use Rattle.life_bytes.specs.declared.sector.Sector.{Sector}
use Rattle.life_bytes.specs.Bits.{is_set}
use Rattle.geometry.specs.declared.shape.Geometry.{Geometry}
use Rattle.inobt_leaf.specs.declared.chunk.ChunkRec.{ChunkRec}
use Rattle.inobt_leaf.specs.Chunks.{IsLeaf}
use Rattle.inobt_leaf.specs.Chunks.{IsChunkRecord}
use Rattle.life_table.specs.declared.types.Row.{Row}
use Rattle.life_table.specs.declared.table.Inode.{Inode}
use Rattle.life_table.specs.declared.table.Chunk.{Chunk}
use Rattle.sound_image.specs.Reading.{core_of, blocks_in, inode_read, chunk_read, group_read, records_of}
use Rattle.sound_image.specs.Encoding.{mask_of, free_count, chunk_record}
use Rattle.sound_image.proofs.Leaves.{unused, mask_ones, mask_small}
use Rattle.sound_image.proofs.Ready.{Lower}
use Rattle.sound_image.proofs.Rows.{row_made}
use Rattle.sound_image.proofs.Tables.{group_is_map}

-- ---- the records

unused_read : (g : Geometry) (image : List Sector) (group : ℕ) (r : ChunkRec) (i : ℕ) → unused (inode_read g image group r i) ≡ is_set r.mask i
unfolding inode_read
unused_read g image group r i = by (is_set r.mask i) (row_made (core_of g image group (r.start + i)).links (blocks_in g image group (r.start + i)))
  where
    by : (b : Bool) (row : Row) → is_none (cond b None (Some row)) ≡ b
    by true row = refl
    by false row = refl

inodes_of : (g : Geometry) (image : List Sector) (group : ℕ) (r : ChunkRec) → (chunk_read g image group r).inodes ≡ map (inode_read g image group r) (range_with_len 0 64)
unfolding chunk_read
inodes_of g image group r = refl

pub length_inodes : (g : Geometry) (image : List Sector) (group : ℕ) (r : ChunkRec) → length (chunk_read g image group r).inodes ≡ 64
length_inodes g image group r = ap length (inodes_of g image group r) ∙ length-map-range_with_len (inode_read g image group r) 0 64

-- bits as tests
same_bit : (a b : ℕ) → a < 2 → b < 2 → eqb a 1 ≡ eqb b 1 → a ≡ b
same_bit zero zero p q e = refl
same_bit zero (suc zero) p q e = absurd cc
same_bit (suc zero) zero p q e = absurd cc
same_bit (suc zero) (suc zero) p q e = refl
same_bit (suc (suc a)) b p q e = absurd (omega arith)
same_bit a (suc (suc b)) p q e = absurd (omega arith)

mask_bit : (l : Lower) (g : Geometry) (image : List Sector) (group : ℕ) (r : ChunkRec) (i : ℕ) → i < 64 → is_set (mask_of (chunk_read g image group r).inodes) i ≡ is_set r.mask i
unfolding mask_of
mask_bit l g image group r i lt =
    let f : ℕ → Inode = inode_read g image group r in
    l.bits.bit (map unused (chunk_read g image group r).inodes) i
    ∙ get_or-map unused (chunk_read g image group r).inodes i (f 0) false (omega (arith, length_inodes g image group r))
    ∙ ap (λ (xs : List Inode). unused (get_or xs i (f 0))) (inodes_of g image group r)
    ∙ ap unused (get_or-map-range_with_len f 0 64 i i (f 0) lt (omega arith))
    ∙ unused_read g image group r i

mask_read : (l : Lower) (g : Geometry) (image : List Sector) (group : ℕ) (r : ChunkRec) → r.mask < 2 ^ 64 → mask_of (chunk_read g image group r).inodes ≡ r.mask
mask_read l g image group r small =
    let xs : List Inode = (chunk_read g image group r).inodes in
    same_from_bits_below 64 (mask_of xs) r.mask (mask_small xs (length_inodes g image group r)) small
    (λ i lt. same_bit (bit_at (mask_of xs) i) (bit_at r.mask i) (bit_at-lt (mask_of xs) i) (bit_at-lt r.mask i) (mask_bit l g image group r i lt))

abbrev record_made : ℕ → ℕ → ℕ → ChunkRec
record_made start free mask = record { start = start; free = free; mask = mask }

start_of_read : (g : Geometry) (image : List Sector) (group : ℕ) (r : ChunkRec) → (chunk_read g image group r).start ≡ r.start
unfolding chunk_read
start_of_read g image group r = refl

record_again : (l : Lower) (g : Geometry) (image : List Sector) (group : ℕ) (r : ChunkRec) → IsChunkRecord r → chunk_record (chunk_read g image group r) ≡ r
unfolding chunk_record
record_again l g image group r is =
    let c : Chunk = chunk_read g image group r in
    let mask = mask_read l g image group r is.mask in
    ap (λ (n : ℕ). record_made n (free_count c.inodes) (mask_of c.inodes)) (start_of_read g image group r)
    ∙ ap (λ (n : ℕ). record_made r.start n (mask_of c.inodes)) (mask_ones c.inodes ∙ ap count_ones mask ∙ sym is.free)
    ∙ ap (record_made r.start r.free) mask

pub records_again : (l : Lower) (g : Geometry) (image : List Sector) (group : ℕ) → IsLeaf (records_of g image group) → map chunk_record (group_read g image group) ≡ records_of g image group
records_again l g image group leaf =
    let rs = records_of g image group in
    let f : ChunkRec → Chunk = chunk_read g image group in
    ap (map chunk_record) (group_is_map g image group)
    ∙ same_lists (map chunk_record (map f rs)) rs (length-map (map f rs) chunk_record ∙ length-map rs f)
    (λ k d lt.
    let within : k < length rs = omega (arith, lt, length-map (map f rs) chunk_record, length-map rs f) in
    get_or-map chunk_record (map f rs) k (f d) d (omega (arith, length-map rs f))
    ∙ ap chunk_record (get_or-map f rs k d (f d) within)
    ∙ record_again l g image group (get_or rs k d) (leaf.each k d within))
