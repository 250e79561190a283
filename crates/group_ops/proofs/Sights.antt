-- What a view shows, sector by sector.
use Rattle.std.proofs.Common.{◌≡◌, ◌<◌, ◌+◌, ◌++◌, ◌∷◌, [], ℕ, List, Some, length, slice_get, inl, inr, ap, sym, ◌∙◌, arith, length-append}
use Rattle.std.proofs.lemmas.Bool.{cases_lt}
use Rattle.std.proofs.lemmas.List.{get_or_append_left, get_or_push}
use Rattle.std.proofs.lemmas.Option.{get_or_from_slice_get}
use Rattle.life_bytes.specs.declared.sector.Sector.{Sector}
use Rattle.life_bytes.specs.Sectors.{zero_sector}
use Rattle.sound_image.specs.Places.{bytes_at}
use Rattle.group_ops.specs.Loading.{Shows}

pub shown_at : (image : List Sector) (at : ℕ) (sector : Sector) → slice_get image at ≡ Some sector → bytes_at image at ≡ sector.bytes
unfolding bytes_at
shown_at image at sector one = ap (λ (s : Sector). s.bytes) (get_or_from_slice_get image at sector zero_sector one)

in_front : (sectors : List Sector) (k : ℕ) (s : Sector) → k < length sectors → bytes_at (sectors ++ s ∷ []) k ≡ bytes_at sectors k
unfolding bytes_at
in_front sectors k s low = ap (λ (x : Sector). x.bytes) (get_or_append_left sectors (s ∷ []) zero_sector k low)

at_end : (sectors : List Sector) (k : ℕ) (s : Sector) → k ≡ length sectors → bytes_at (sectors ++ s ∷ []) k ≡ s.bytes
unfolding bytes_at
at_end sectors k s e = ap (λ (x : Sector). x.bytes) (get_or_push sectors s zero_sector k (sym e))

pub Shows-none : (image : List Sector) (at : ℕ) → Shows image at []
Shows-none image at = record { each = λ k low. absurd (omega arith) }

pub Shows-push : (image : List Sector) (at : ℕ) (sectors : List Sector) (s : Sector) → Shows image at sectors → bytes_at image (at + length sectors) ≡ s.bytes → Shows image at (sectors ++ s ∷ [])
Shows-push image at sectors s shows here = record {
  each = λ k low. elim (cases_lt k (length sectors)) [
    | inl front ↦ shows.each k front ∙ sym (in_front sectors k s front)
    | inr past ↦
        let last : k ≡ length sectors = omega (arith, low, past, length-append sectors (s ∷ [])) in
        ap (λ (j : ℕ). bytes_at image (at + j)) last ∙ here ∙ sym (at_end sectors k s last)
  ];
}
