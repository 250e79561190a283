-- What the header, the page and the bitmap of a group say of its chunks.
use Rattle.std.proofs.Common.{◌≡◌, ◌<◌, ◌≤◌, ◌+◌, ◌*◌, ℕ, true, List, [], ◌∷◌, length, map, eqb, leb, ltb, refl, ap, sym, ◌∙◌}
use Rattle.std.specs.Prelude.{◌&&◌, sum_by}
use Rattle.std.specs.List.{range_with_len}
use Rattle.std.proofs.lemmas.Bool.{and_parts, leb-true, ltb-true}
use Rattle.std.proofs.lemmas.List.{length-map}
use Rattle.std.proofs.lemmas.List.Sums.{sum_by-cons}
use Rattle.geometry.specs.declared.shape.Geometry.{Geometry}
use Rattle.ag_header.specs.declared.agi.Agi.{Agi}
use Rattle.inobt_leaf.specs.declared.chunk.ChunkRec.{ChunkRec}
use Rattle.inobt_leaf.specs.Pages.{page_encoding}
use Rattle.life_limits.specs.declared.TheConstants.{BUCKETS, CHUNK_INODES, FIRST_DATA_BLOCK}
use Rattle.life_table.specs.declared.table.Chunk.{Chunk}
use Rattle.life_table.specs.Table.{Group}
use Rattle.life_table.specs.Space.{times, used, is_free_block}
use Rattle.sound_image.specs.Places.{sector_in}
use Rattle.sound_image.specs.Rules.{free_set}
use Rattle.sound_image.specs.Encoding.{Layouts, head_of, page_of, bucket_list, header_for, page_place, page_bytes, free_count, chunk_record}
use Rattle.encoded_changes.proofs.Places.{is_bitmap, is_page}

pub map_same : {X Y : Type 0} (f g : X → Y) (xs : List X) → ((x : X) → f x ≡ g x) → map f xs ≡ map g xs
map_same f g [] each = refl
map_same f g (x ∷ xs) each = ap (λ y. y ∷ map f xs) (each x) ∙ ap (λ ys. g x ∷ ys) (map_same f g xs each)

-- the header and the page say of the chunks what their records do
free_sum : (group : Group) → sum_by (λ (chunk : ChunkRec). chunk.free) (map chunk_record group) ≡ sum_by (λ (chunk : Chunk). free_count chunk.inodes) group
unfolding chunk_record
free_sum [] = refl
free_sum (c ∷ cs) =
    sum_by-cons (λ (chunk : ChunkRec). chunk.free) (chunk_record c) (map chunk_record cs) ∙ ap (λ (n : ℕ). free_count c.inodes + n) (free_sum cs)
    ∙ sym (sum_by-cons (λ (chunk : Chunk). free_count chunk.inodes) c cs)

abbrev made : Geometry → ℕ → ℕ → List ℕ → ℕ → ℕ → Agi
made g group page heads count free =
    record { group = group; blocks = g.blocks; count = CHUNK_INODES * count; root = page; level = 1; free = free; heads = heads; uuid = g.uuid }

header_of_records : (g : Geometry) (layouts : Layouts) (group : ℕ) (chunks : Group) → header_for g group chunks layouts
    ≡ made g group (page_of layouts group) (map (λ bucket. head_of (bucket_list layouts group bucket)) (range_with_len 0 BUCKETS)) (length (map chunk_record chunks)) (sum_by (λ (chunk : ChunkRec). chunk.free) (map chunk_record chunks))
unfolding header_for
header_of_records g layouts group chunks =
    let heads : List ℕ = map (λ bucket. head_of (bucket_list layouts group bucket)) (range_with_len 0 BUCKETS) in
    ap (λ (n : ℕ). made g group (page_of layouts group) heads n (sum_by (λ (chunk : Chunk). free_count chunk.inodes) chunks)) (sym (length-map chunks chunk_record))
    ∙ ap (λ (n : ℕ). made g group (page_of layouts group) heads (length (map chunk_record chunks)) n) (sym (free_sum chunks))

pub same_header : (g : Geometry) (layouts : Layouts) (group : ℕ) (chunks next : Group) → map chunk_record next ≡ map chunk_record chunks
    → header_for g group next layouts ≡ header_for g group chunks layouts
same_header g layouts group chunks next same =
    let heads : List ℕ = map (λ bucket. head_of (bucket_list layouts group bucket)) (range_with_len 0 BUCKETS) in
    header_of_records g layouts group next
    ∙ ap (λ (rs : List ChunkRec). made g group (page_of layouts group) heads (length rs) (sum_by (λ (chunk : ChunkRec). chunk.free) rs)) same
    ∙ sym (header_of_records g layouts group chunks)

pub same_page : (g : Geometry) (layouts : Layouts) (group : ℕ) (chunks next : Group) → map chunk_record next ≡ map chunk_record chunks
    → page_bytes g layouts group next ≡ page_bytes g layouts group chunks
unfolding page_bytes
same_page g layouts group chunks next same = ap (λ (rs : List ChunkRec). page_encoding rs group (sector_in g group (page_place layouts group)) g.uuid) same

-- the bitmap says which blocks are used
free_by : (blocks : ℕ) (chunks next : Group) (block : ℕ) → times block (used next) ≡ times block (used chunks) → is_free_block blocks next block ≡ is_free_block blocks chunks block
unfolding is_free_block
free_by blocks chunks next block same = ap (λ (n : ℕ). leb FIRST_DATA_BLOCK block && (ltb block blocks && eqb n 0)) same

pub same_free : (blocks : ℕ) (chunks next : Group) → ((block : ℕ) → times block (used next) ≡ times block (used chunks)) → free_set blocks next ≡ free_set blocks chunks
unfolding free_set
same_free blocks chunks next same =
    map_same (is_free_block blocks next) (is_free_block blocks chunks) (range_with_len 0 blocks) (λ block. free_by blocks chunks next block (same block))

-- the tests of places
pub of_bitmap : (place : ℕ) → is_bitmap place ≡ true → (8 ≤ place) × (place < 12)
of_bitmap place e = let parts = and_parts (leb 8 place) (ltb place 12) e in (leb-true 8 place parts.0, ltb-true place 12 parts.1)

pub of_page : (p place : ℕ) → is_page p place ≡ true → (p ≤ place) × (place < p + 8)
of_page p place e = let parts = and_parts (leb p place) (ltb place (p + 8)) e in (leb-true p place parts.0, ltb-true place (p + 8) parts.1)
