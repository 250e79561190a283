-- How an image is read: slices of sectors, and the inodes of chunks.
use Rattle.std.proofs.Common.{◌≡◌, ◌<◌, ◌≤◌, ◌+◌, ◌-◌, ◌%◌, ℕ, zero, suc, List, [], ◌∷◌, ◌++◌, Some, length, take, drop, map, get_or, inl, inr, refl, ap, sym, ◌∙◌, arith}
use Rattle.std.specs.List.{range_with_len, flat_map, slice_get}
use Rattle.std.proofs.lemmas.List.{drop_more}
use Rattle.std.proofs.lemmas.List.Concat.{flat_map-cons}
use Rattle.std.proofs.lemmas.Option.{same_Some, slice_get_within, get_or_from_slice_get}
use Rattle.life_bytes.specs.declared.sector.Sector.{Sector}
use Rattle.life_bytes.specs.Sectors.{zero_sector}
use Rattle.life_bytes.specs.SectorBytes.{bytes_of}
use Rattle.geometry.specs.declared.shape.Geometry.{Geometry}
use Rattle.inobt_leaf.specs.declared.chunk.ChunkRec.{ChunkRec}
use Rattle.inobt_leaf.specs.Chunks.{IsLeaf}
use Rattle.life_table.specs.declared.table.Inode.{Inode}
use Rattle.life_table.specs.declared.table.Chunk.{Chunk}
use Rattle.life_table.specs.Table.{inode_in}
use Rattle.sound_image.specs.Places.{bytes_at, bytes_from}
use Rattle.sound_image.specs.Reading.{inode_read, chunk_read, group_read, records_of, inode_at, IsOfChunk}
use Rattle.sound_image.proofs.Found.{inode_of_chunk}
use Rattle.sound_image.proofs.Groups.{inode_cases, no_inode}
use Rattle.sound_image.proofs.Leaves.{no_chunk}
use Rattle.sound_image.proofs.Tables.{start_read, chunk_at, length_group, held_read, no_record}

-- ---- slices

taken : (image : List Sector) (n s : ℕ) → s + n ≤ length image → bytes_of (take n (drop s image)) ≡ flat_map (bytes_at image) (range_with_len s n)
unfolding bytes_at
taken image zero s fits = refl
taken image (suc n) s fits =
    let first : Sector = get_or image s zero_sector in
    let rest : List Sector = take n (drop (s + 1) image) in
    ap (λ (xs : List Sector). bytes_of (take (suc n) xs)) (drop_more image s zero_sector (omega arith))
    ∙ flat_map-cons (λ (x : Sector). x.bytes) first rest
    ∙ ap (λ (bytes : List ℕ). first.bytes ++ bytes) (taken image n (s + 1) (omega arith))

pub slice : (image : List Sector) (s n : ℕ) → s + n ≤ length image → bytes_of (take (s + n - s) (drop s image)) ≡ bytes_from image s n
unfolding bytes_from
slice image s n fits = let e : s + n - s ≡ n = omega arith in ap (λ (k : ℕ). bytes_of (take k (drop s image))) e ∙ taken image n s fits

-- ---- chunks

pub inode_found : (g : Geometry) (image : List Sector) (group k i : ℕ) (chunk : ChunkRec) → IsLeaf (records_of g image group) → slice_get (records_of g image group) k ≡ Some chunk → i < 64
    → inode_at g image group (chunk.start + i) ≡ Some (inode_read g image group chunk i)
unfolding inode_at
inode_found g image group k i chunk leaf held low =
    let lt = slice_get_within (records_of g image group) k chunk held in
    let at : get_or (records_of g image group) k no_record ≡ chunk = get_or_from_slice_get (records_of g image group) k chunk no_record held in
    let c : get_or (group_read g image group) k no_chunk ≡ chunk_read g image group chunk = chunk_at g image group k no_chunk lt ∙ ap (chunk_read g image group) at in
    let start : chunk.start + i ≡ (get_or (group_read g image group) k no_chunk).start + i =
    ap (λ (n : ℕ). n + i) (sym (start_read g image group chunk)) ∙ ap (λ (c : Chunk). c.start + i) (sym c) in
    ap (inode_in (group_read g image group)) start
    ∙ held_read g image group k i no_chunk leaf (omega (arith, lt, length_group g image group)) low
    ∙ ap (λ (c : Chunk). slice_get c.inodes i) c
    ∙ inode_of_chunk g image group chunk i low

-- the same of a list of records
record IsOf (g : Geometry) (image : List Sector) (group : ℕ) (records : List ChunkRec) (agino : ℕ) (x : Inode) : Type 0 where
  place : ℕ
  chunk : ChunkRec
  index : ℕ
  held : slice_get records place ≡ Some chunk
  low : index < 64
  number : agino ≡ chunk.start + index
  read : x ≡ inode_read g image group chunk index

of_records : (g : Geometry) (image : List Sector) (group : ℕ) (records : List ChunkRec) (agino : ℕ) (x : Inode) → inode_in (map (chunk_read g image group) records) agino ≡ Some x → IsOf g image group records agino x
of_records g image group [] agino x e = absurd (no_inode agino x e)
of_records g image group (r ∷ rs) agino x e =
    elim (inode_cases (chunk_read g image group r) (map (chunk_read g image group) rs) agino x e) [
      | inl here ↦ record {
        place = 0;
        chunk = r;
        index = agino % 64;
        held = refl;
        low = omega arith;
        number = omega (arith, here.0, start_read g image group r);
        read = sym (same_Some (inode_read g image group r (agino % 64)) x (sym (inode_of_chunk g image group r (agino % 64) (omega arith)) ∙ here.1));
      }
      | inr later ↦
          let p = of_records g image group rs agino x later in
          record { place = suc p.place; chunk = p.chunk; index = p.index; held = p.held; low = p.low; number = p.number; read = p.read }
    ]

pub inode_only : (g : Geometry) (image : List Sector) (group agino : ℕ) (x : Inode) → inode_at g image group agino ≡ Some x → IsOfChunk g image group agino x
unfolding inode_at group_read
inode_only g image group agino x e =
    let p = of_records g image group (records_of g image group) agino x e in
    record { place = p.place; chunk = p.chunk; index = p.index; held = p.held; low = p.low; number = p.number; read = p.read }
