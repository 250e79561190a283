-- Opens are not encoded: a table and the same without them have the same sectors.
use Rattle.std.proofs.Common.{◌≡◌, ◌<◌, ◌+◌, ◌-◌, ◌*◌, ◌/◌, ◌%◌, ℕ, Bool, cond, eqb, ltb, List, [], ◌∷◌, Option, None, Some, length, map, inl, inr, refl, ap, sym, ◌∙◌, arith}
use Rattle.std.specs.Prelude.{is_none, count_ones, sum_by, unwrap_or}
use Rattle.std.specs.Option.{option_map}
use Rattle.std.proofs.lemmas.Bool.{cases_lt}
use Rattle.std.proofs.lemmas.List.{length-map, get_or-map, get_or_past, same_lists}
use Rattle.std.proofs.lemmas.List.FromFn.{length-map-range_with_len, get_or-map-range_with_len}
use Rattle.std.proofs.lemmas.List.Sums.{sum_by-cons}
use Rattle.life_bytes.specs.declared.sector.Sector.{Sector}
use Rattle.geometry.specs.declared.shape.Geometry.{Geometry}
use Rattle.geometry.specs.Places.{group_sectors}
use Rattle.ag_header.specs.declared.agi.Agi.{Agi}
use Rattle.ag_header.specs.Headers.{header_encoding}
use Rattle.inobt_leaf.specs.declared.chunk.ChunkRec.{ChunkRec}
use Rattle.inobt_leaf.specs.Pages.{page_encoding}
use Rattle.free_map.specs.Bitmap.{number_of_bits, bitmap}
use Rattle.life_table.specs.declared.types.Row.{Row}
use Rattle.life_table.specs.declared.table.Inode.{Inode}
use Rattle.life_table.specs.declared.table.Chunk.{Chunk}
use Rattle.life_table.specs.declared.table.Table.{Table}
use Rattle.life_table.specs.Table.{Group, group_at, inode_in}
use Rattle.life_table.specs.History.{closed, closed_inode, closed_row}
use Rattle.sound_image.specs.Places.{bytes_at, part, sector_in}
use Rattle.sound_image.specs.Rules.{free_set}
use Rattle.sound_image.specs.Encoding.{Layouts, mask_of, free_count, chunk_record, header_for, core_for, inode_sector, page_place, page_bytes, metadata, encoded, encoded_bytes}
use Rattle.sound_image.proofs.Leaves.{unused, mask_ones}
use Rattle.sound_image.proofs.Metadata.{is_bitmap, is_page, chosen, by_tests}
use Rattle.sound_image.proofs.Right.{free_set_closed}
use Rattle.sound_image.proofs.Rows.{closed_chunk, closed_in, closed_is}
use Rattle.sound_image.proofs.Sectors.{sector_of}

unused_closed : (o : Option Row) → is_none (closed_row o) ≡ is_none o
unused_closed None = refl
unused_closed (Some row) = refl

bits_closed : (inodes : List Inode) → map unused (map closed_inode inodes) ≡ map unused inodes
bits_closed [] = refl
bits_closed (x ∷ xs) = ap (λ (b : Bool). b ∷ map unused (map closed_inode xs)) (unused_closed x.row) ∙ ap (λ (bs : List Bool). unused x ∷ bs) (bits_closed xs)

mask_closed : (inodes : List Inode) → mask_of (map closed_inode inodes) ≡ mask_of inodes
unfolding mask_of
mask_closed inodes = ap number_of_bits (bits_closed inodes)

count_closed : (inodes : List Inode) → free_count (map closed_inode inodes) ≡ free_count inodes
count_closed inodes = mask_ones (map closed_inode inodes) ∙ ap count_ones (mask_closed inodes) ∙ sym (mask_ones inodes)

abbrev record_made : ℕ → ℕ → ℕ → ChunkRec
record_made start free mask = record { start = start; free = free; mask = mask }

record_closed : (c : Chunk) → chunk_record (closed_chunk c) ≡ chunk_record c
unfolding chunk_record
record_closed c =
    ap (λ (n : ℕ). record_made c.start n (mask_of (map closed_inode c.inodes))) (count_closed c.inodes) ∙ ap (record_made c.start (free_count c.inodes)) (mask_closed c.inodes)

records_closed : (chunks : Group) → map chunk_record (map closed_chunk chunks) ≡ map chunk_record chunks
records_closed [] = refl
records_closed (c ∷ cs) = ap (λ (r : ChunkRec). r ∷ map chunk_record (map closed_chunk cs)) (record_closed c) ∙ ap (λ (rs : List ChunkRec). chunk_record c ∷ rs) (records_closed cs)

abbrev free_of : Chunk → ℕ
free_of chunk = free_count chunk.inodes

sum_closed : (chunks : Group) → sum_by free_of (map closed_chunk chunks) ≡ sum_by free_of chunks
sum_closed [] = refl
sum_closed (c ∷ cs) =
    sum_by-cons free_of (closed_chunk c) (map closed_chunk cs) ∙ ap (λ (n : ℕ). n + sum_by free_of (map closed_chunk cs)) (count_closed c.inodes)
    ∙ ap (λ (n : ℕ). free_of c + n) (sum_closed cs) ∙ sym (sum_by-cons free_of c cs)

header_closed : (g : Geometry) (group : ℕ) (chunks : Group) (layouts : Layouts) → header_for g group (map closed_chunk chunks) layouts ≡ header_for g group chunks layouts
unfolding header_for
header_closed g group chunks layouts =
    ap (λ (n : ℕ). record (header_for g group (map closed_chunk chunks) layouts) { count = 64 * n }) (length-map chunks closed_chunk)
    ∙ ap (λ (n : ℕ). record (header_for g group chunks layouts) { free = n }) (sum_closed chunks)

page_closed : (g : Geometry) (layouts : Layouts) (group : ℕ) (chunks : Group) → page_bytes g layouts group (map closed_chunk chunks) ≡ page_bytes g layouts group chunks
unfolding page_bytes
page_closed g layouts group chunks = ap (λ (rs : List ChunkRec). page_encoding rs group (sector_in g group (page_place layouts group)) g.uuid) (records_closed chunks)

core_closed : (g : Geometry) (layouts : Layouts) (group agino : ℕ) (x : Inode) → inode_sector g layouts group agino (closed_inode x) ≡ inode_sector g layouts group agino x
unfolding inode_sector core_for
core_closed g layouts group agino x = by x.row
  where
    by : (o : Option Row) → inode_sector g layouts group agino (record { generation = x.generation; row = closed_row o }) ≡ inode_sector g layouts group agino (record { generation = x.generation; row = o })
    by None = refl
    by (Some row) = refl

option_closed : (f : Inode → List ℕ) → ((x : Inode) → f (closed_inode x) ≡ f x) → (o : Option Inode) → option_map f (option_map closed_inode o) ≡ option_map f o
option_closed f same None = refl
option_closed f same (Some x) = ap Some (same x)

metadata_closed : (g : Geometry) (layouts : Layouts) (group : ℕ) (chunks : Group) (place : ℕ) → metadata g layouts group (map closed_chunk chunks) place ≡ metadata g layouts group chunks place
metadata_closed g layouts group chunks place =
    let a = eqb place 2 in
    let b = is_bitmap place in
    let c = is_page (page_place layouts group) place in
    let f : Inode → List ℕ = inode_sector g layouts group place in
    let old = map closed_chunk chunks in
    let p : ℕ = place - page_place layouts group in
    let bits : List ℕ = part (place - 8) (bitmap (free_set g.blocks old)) in
    by_tests g layouts group old place
    ∙ ap (λ (agi : Agi). chosen a b c (Some (header_encoding agi)) (Some bits) (Some (part p (page_bytes g layouts group old))) (option_map f (inode_in old place))) (header_closed g group chunks layouts)
    ∙ ap (λ (set : List Bool). chosen a b c (Some (header_encoding (header_for g group chunks layouts))) (Some (part (place - 8) (bitmap set))) (Some (part p (page_bytes g layouts group old)))
    (option_map f (inode_in old place))) (free_set_closed g.blocks chunks)
    ∙ ap (λ (page : List ℕ). chosen a b c (Some (header_encoding (header_for g group chunks layouts))) (Some (part (place - 8) (bitmap (free_set g.blocks chunks)))) (Some (part p page))
    (option_map f (inode_in old place))) (page_closed g layouts group chunks)
    ∙ ap (λ (o : Option (List ℕ)). chosen a b c (Some (header_encoding (header_for g group chunks layouts))) (Some (part (place - 8) (bitmap (free_set g.blocks chunks))))
    (Some (part p (page_bytes g layouts group chunks))) o)
    (ap (option_map f) (closed_in chunks place) ∙ option_closed f (core_closed g layouts group place) (inode_in chunks place))
    ∙ sym (by_tests g layouts group chunks place)

pub group_of_closed : (t : Table) (group : ℕ) → group_at (closed t) group ≡ map closed_chunk (group_at t group)
group_of_closed t group =
    ap (λ (u : Table). group_at u group) (closed_is t)
    ∙ elim (cases_lt group (length t.groups)) [
      | inl lt ↦ get_or-map (map closed_chunk) t.groups group [] [] lt
      | inr past ↦
          get_or_past (map (map closed_chunk) t.groups) group [] (omega (arith, length-map t.groups (map closed_chunk)))
          ∙ sym (ap (map closed_chunk) (get_or_past t.groups group [] past))
    ]

bytes_closed : (g : Geometry) (t : Table) (layouts : Layouts) (image : List Sector) (s : ℕ) → encoded_bytes g (closed t) layouts image s ≡ encoded_bytes g t layouts image s
unfolding encoded_bytes
bytes_closed g t layouts image s =
    let group : ℕ = s / group_sectors g in
    let place : ℕ = s % group_sectors g in
    let old : List ℕ = bytes_at image s in
    ap (λ (o : Option (List ℕ)). cond (ltb s (g.groups * group_sectors g)) (unwrap_or o old) old)
    (ap (λ (chunks : Group). metadata g layouts group chunks place) (group_of_closed t group) ∙ metadata_closed g layouts group (group_at t group) place)

pub encoded_closed : (g : Geometry) (t : Table) (layouts : Layouts) (image : List Sector) → encoded g (closed t) layouts image ≡ encoded g t layouts image
unfolding encoded
encoded_closed g t layouts image =
    let n : ℕ = length image in
    let f : ℕ → Sector = λ s. sector_of (encoded_bytes g (closed t) layouts image s) in
    let h : ℕ → Sector = λ s. sector_of (encoded_bytes g t layouts image s) in
    same_lists _ _ (length-map-range_with_len f 0 n ∙ sym (length-map-range_with_len h 0 n))
    (λ s d lt.
    let within : s < n = omega (arith, lt, length-map-range_with_len f 0 n) in
    get_or-map-range_with_len f 0 n s s d within (omega arith) ∙ ap sector_of (bytes_closed g t layouts image s) ∙ sym (get_or-map-range_with_len h 0 n s s d within (omega arith)))
