-- What a view shows, sector by sector.
use Rattle.std.proofs.Common.{◌≡◌, ◌<◌, ◌+◌, ◌*◌, ◌++◌, ◌∷◌, [], ℕ, suc, List, Some, length, map, slice_get, inl, inr, refl, ap, sym, ◌∙◌, arith, add-zero, length-append}
use Rattle.std.specs.List.{range_with_len, flat_map}
use Rattle.std.proofs.lemmas.Bool.{cases_lt}
use Rattle.std.proofs.lemmas.List.{get_or_append_left, get_or_push}
use Rattle.std.proofs.lemmas.Option.{get_or_from_slice_get}
use Rattle.life_limits.specs.declared.TheConstants.{BLOCK_SECTORS}
use Rattle.life_bytes.specs.declared.sector.Sector.{Sector}
use Rattle.life_bytes.specs.SectorBytes.{bytes_of}
use Rattle.life_bytes.specs.Sectors.{zero_sector}
use Rattle.geometry.specs.declared.shape.Geometry.{Geometry}
use Rattle.inobt_leaf.specs.Pages.{page_encoding}
use Rattle.life_table.specs.Table.{Group}
use Rattle.sound_image.specs.Places.{bytes_at, bytes_from, sector_in}
use Rattle.sound_image.specs.Encoding.{Layouts, chunk_record, page_bytes, page_of, page_place}
use Rattle.group_ops.specs.Loading.{Shows}

pub shown_at : (image : List Sector) (at : ℕ) (sector : Sector) → slice_get image at ≡ Some sector → bytes_at image at ≡ sector.bytes
unfolding bytes_at
shown_at image at sector one = ap (λ (s : Sector). s.bytes) (get_or_from_slice_get image at sector zero_sector one)

in_front : (sectors : List Sector) (k : ℕ) (s : Sector) → k < length sectors → bytes_at (sectors ++ s ∷ []) k ≡ bytes_at sectors k
unfolding bytes_at
in_front sectors k s low = ap (λ (x : Sector). x.bytes) (get_or_append_left sectors (s ∷ []) zero_sector k low)

at_end : (sectors : List Sector) (k : ℕ) (s : Sector) → k ≡ length sectors → bytes_at (sectors ++ s ∷ []) k ≡ s.bytes
unfolding bytes_at
at_end sectors k s e = ap (λ (x : Sector). x.bytes) (get_or_push sectors s zero_sector k (sym e))

pub Shows-none : (image : List Sector) (at : ℕ) → Shows image at []
Shows-none image at = record { each = λ k low. absurd (omega arith) }

pub Shows-push : (image : List Sector) (at : ℕ) (sectors : List Sector) (s : Sector) → Shows image at sectors → bytes_at image (at + length sectors) ≡ s.bytes → Shows image at (sectors ++ s ∷ [])
Shows-push image at sectors s shows here = record {
  each = λ k low. elim (cases_lt k (length sectors)) [
    | inl front ↦ shows.each k front ∙ sym (in_front sectors k s front)
    | inr past ↦
        let last : k ≡ length sectors = omega (arith, low, past, length-append sectors (s ∷ [])) in
        ap (λ (j : ℕ). bytes_at image (at + j)) last ∙ here ∙ sym (at_end sectors k s last)
  ];
}

-- sectors as bytes, one by one
joined : (image : List Sector) (sectors : List Sector) (s : ℕ) → ((k : ℕ) → k < length sectors → bytes_at image (s + k) ≡ bytes_at sectors k)
    → flat_map (bytes_at image) (range_with_len s (length sectors)) ≡ bytes_of sectors
unfolding bytes_at
joined image [] s each = refl
joined image (x ∷ xs) s each =
    let first : bytes_at image s ≡ x.bytes = ap (bytes_at image) (sym (add-zero s)) ∙ each 0 (omega arith) in
    ap (λ (b : List ℕ). b ++ flat_map (bytes_at image) (range_with_len (s + 1) (length xs))) first
    ∙ ap (λ (b : List ℕ). x.bytes ++ b) (joined image xs (s + 1) (λ k low. let e : s + 1 + k ≡ s + suc k = omega arith in ap (bytes_at image) e ∙ each (suc k) (omega arith)))

shown_bytes : (image : List Sector) (s n : ℕ) (sectors : List Sector) → Shows image s sectors → length sectors ≡ n → bytes_from image s n ≡ bytes_of sectors
unfolding bytes_from
shown_bytes image s n sectors shows long = ap (λ (k : ℕ). flat_map (bytes_at image) (range_with_len s k)) (sym long) ∙ joined image sectors s shows.each

-- the page of a group, as it was read, is that of its chunks' records
pub page_read : (g : Geometry) (layouts : Layouts) (group root at : ℕ) (chunks : Group) (image sectors : List Sector) → root ≡ page_of layouts group → at ≡ sector_in g group (BLOCK_SECTORS * root)
    → bytes_from image (sector_in g group (page_place layouts group)) BLOCK_SECTORS ≡ page_bytes g layouts group chunks
    → Shows image at sectors → length sectors ≡ BLOCK_SECTORS → bytes_of sectors ≡ page_encoding (map chunk_record chunks) group at g.uuid
unfolding page_bytes page_place
page_read g layouts group root at chunks image sectors is place page shows long =
    let here : at ≡ sector_in g group (BLOCK_SECTORS * page_of layouts group) = place ∙ ap (λ (r : ℕ). sector_in g group (BLOCK_SECTORS * r)) is in
    sym (shown_bytes image at BLOCK_SECTORS sectors shows long)
    ∙ ap (λ (s : ℕ). bytes_from image s BLOCK_SECTORS) here
    ∙ page
    ∙ ap (λ (s : ℕ). page_encoding (map chunk_record chunks) group s g.uuid) (sym here)
