-- What the sectors that are read of a group are, where the image encodes a table.
use Rattle.std.proofs.Common.{◌≡◌, ◌<◌, ◌≤◌, ◌+◌, ◌*◌, ◌++◌, ℕ, suc, Bool, List, [], ◌∷◌, length, map, refl, ap, sym, ◌∙◌, arith, add-zero, take, drop}
use Rattle.std.specs.List.{range_with_len, flat_map}
use Rattle.std.proofs.lemmas.List.FromFn.{length-map-range_with_len}
use Rattle.life_limits.specs.declared.TheConstants.{BLOCK_SECTORS, MAX_BLOCKS, SECTOR_BYTES}
use Rattle.life_bytes.specs.declared.sector.Sector.{Sector}
use Rattle.life_bytes.specs.SectorBytes.{bytes_of}
use Rattle.geometry.specs.declared.shape.Geometry.{Geometry}
use Rattle.inobt_leaf.specs.Pages.{page_encoding}
use Rattle.free_map.specs.Bitmap.{read_blocks, bitmap, number_of_bits}
use Rattle.life_table.specs.Table.{Group}
use Rattle.life_table.specs.Space.{is_free_block}
use Rattle.sound_image.specs.Places.{bytes_at, bytes_from, part, sector_in, bitmap_place, bitmap_sectors}
use Rattle.sound_image.specs.Encoding.{Layouts, chunk_record, page_bytes, page_of, page_place}
use Rattle.sound_image.specs.Rules.{free_set}
use Rattle.group_ops.specs.Loading.{Shows}

-- sectors as bytes, one by one
joined : (image : List Sector) (sectors : List Sector) (s : ℕ) → ((k : ℕ) → k < length sectors → bytes_at image (s + k) ≡ bytes_at sectors k)
    → flat_map (bytes_at image) (range_with_len s (length sectors)) ≡ bytes_of sectors
unfolding bytes_at
joined image [] s each = refl
joined image (x ∷ xs) s each =
    let first : bytes_at image s ≡ x.bytes = ap (bytes_at image) (sym (add-zero s)) ∙ each 0 (omega arith) in
    ap (λ (b : List ℕ). b ++ flat_map (bytes_at image) (range_with_len (s + 1) (length xs))) first
    ∙ ap (λ (b : List ℕ). x.bytes ++ b) (joined image xs (s + 1) (λ k low. let e : s + 1 + k ≡ s + suc k = omega arith in ap (bytes_at image) e ∙ each (suc k) (omega arith)))

pub shown_bytes : (image : List Sector) (s n : ℕ) (sectors : List Sector) → Shows image s sectors → length sectors ≡ n → bytes_from image s n ≡ bytes_of sectors
unfolding bytes_from
shown_bytes image s n sectors shows long = ap (λ (k : ℕ). flat_map (bytes_at image) (range_with_len s k)) (sym long) ∙ joined image sectors s shows.each

-- the page of a group, as it was read, is that of its chunks' records
pub page_read : (g : Geometry) (layouts : Layouts) (group root at : ℕ) (chunks : Group) (image sectors : List Sector) → root ≡ page_of layouts group → at ≡ sector_in g group (BLOCK_SECTORS * root)
    → bytes_from image (sector_in g group (page_place layouts group)) BLOCK_SECTORS ≡ page_bytes g layouts group chunks
    → Shows image at sectors → length sectors ≡ BLOCK_SECTORS → bytes_of sectors ≡ page_encoding (map chunk_record chunks) group at g.uuid
unfolding page_bytes page_place
page_read g layouts group root at chunks image sectors is place page shows long =
    let here : at ≡ sector_in g group (BLOCK_SECTORS * page_of layouts group) = place ∙ ap (λ (r : ℕ). sector_in g group (BLOCK_SECTORS * r)) is in
    sym (shown_bytes image at BLOCK_SECTORS sectors shows long)
    ∙ ap (λ (s : ℕ). bytes_from image s BLOCK_SECTORS) here
    ∙ page
    ∙ ap (λ (s : ℕ). page_encoding (map chunk_record chunks) group s g.uuid) (sym here)

-- the free blocks that the bitmap of a group gives, as it was read
pub map_read : ((blocks : List Bool) → length blocks ≤ MAX_BLOCKS → read_blocks (bitmap blocks) (length blocks) ≡ blocks)
    → ((image : List Sector) (bytes : List ℕ) (s n : ℕ) → length bytes ≡ SECTOR_BYTES * n → ((k : ℕ) → k < n → bytes_at image (s + k) ≡ part k bytes) → bytes_from image s n ≡ bytes)
    → (g : Geometry) (group at : ℕ) (chunks : Group) (image sectors : List Sector) → g.blocks ≤ MAX_BLOCKS → at ≡ sector_in g group bitmap_place
    → ((k : ℕ) → k < bitmap_sectors → bytes_at image (sector_in g group (bitmap_place + k)) ≡ part k (bitmap (free_set g.blocks chunks)))
    → Shows image at sectors → length sectors ≡ bitmap_sectors → read_blocks (bytes_of sectors) g.blocks ≡ free_set g.blocks chunks
unfolding free_set sector_in
map_read read whole g group at chunks image sectors few place parts shows long =
    let free : List Bool = free_set g.blocks chunks in
    let many : length free ≡ g.blocks = length-map-range_with_len (is_free_block g.blocks chunks) 0 g.blocks in
    let bytes : bytes_of sectors ≡ bitmap free =
    sym (shown_bytes image at bitmap_sectors sectors shows long)
    ∙ whole image (bitmap free) at bitmap_sectors (length-map-range_with_len (λ (k : ℕ). number_of_bits (take 8 (drop (8 * k) free))) 0 2048) (λ k low. ap (λ (s : ℕ). bytes_at image (s + k)) place ∙ ap (bytes_at image) (omega arith) ∙ parts k low) in
    ap (λ (b : List ℕ). read_blocks b g.blocks) bytes
    ∙ ap (λ (n : ℕ). read_blocks (bitmap free) n) (sym many)
    ∙ read free (omega (arith, many, few))
